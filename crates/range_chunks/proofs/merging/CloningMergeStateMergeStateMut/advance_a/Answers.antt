use Rattle.std.proofs.Common.{◌≡◌, map, take, ap, sym, ◌∙◌}
use Rattle.std.proofs.lemmas.List.{take-map, drop-map}
use Rattle.range_merge.specs.Changes.{taken_left}
use Rattle.range_merge.specs.Copies.{items_if}
use Rattle.range_merge.proofs.CopiesLemmas.{AreKeptThenCopies-append, taken_items-taken_left}
use Rattle.range_chunks.proofs.merging.CloningMergeStateMergeStateMut.advance_a.Goals as goal

pub returns-clause-unread : goal.returns-clause-unread
returns-clause-unread g c = λ _.
    rw (← c.self.view_is)
    (ap (map (λ x. x.now)) c.take_front-front.ensures.rest ∙ sym (drop-map (λ x. x.now) c.args.n c.self.inside.own))

pub returns-clause-output : goal.returns-clause-output
returns-clause-output g c =
    let left = map (λ x. x.now) c.self.inside.own in
    let front = map (λ x. x.now) c.take_front-front.result.now in
    let same : take c.args.n left ≡ front =
    take-map (λ x. x.now) c.args.n c.self.inside.own ∙ ap (map (λ x. x.now)) (sym c.take_front-front.ensures.front) in
    rw (← c.self.view_is)
    (λ before so_far. AreKeptThenCopies-append g.T.EntryClone.is_copy 0 before (taken_left c.args.take c.args.n left) (items_if c.args.take front) _ _
    (taken_items-taken_left c.args.take c.args.n left ∙ ap (items_if c.args.take) same) c.in_ok-append_own.ensures so_far)
