use Rattle.std.proofs.Common.{◌∙◌}
use Rattle.range_merge.specs.Changes.{changes}
use Rattle.range_merge.proofs.TakenInPlace.{whole-output}
use Rattle.range_merge.proofs.in_place.InPlaceState.merged.Goals as goal

pub returns-clause-taken : goal.returns-clause-taken
returns-clause-taken g c = λ start.
    let may_be = g.R.Supply.may_be in
    let merged = c.merge.ensures in
    let kept : may_be (changes g.C.Compare.order (g.O.MergeOperation.connective c.args.op.now) c.args.self.left c.args.self.right) c.merge.new.state.kept =
    whole-output c.merge.result (λ ts. may_be ts c.args.self.kept) (λ ts. may_be ts c.merge.new.state.kept) _ _ (merged.succeeds tt) merged.taken merged.stopped start in
    rw c.result.ensures.items kept

pub returns-clause-room : goal.returns-clause-room
returns-clause-room g c = c.result.ensures.room ∙ c.merge.ensures.fixed
