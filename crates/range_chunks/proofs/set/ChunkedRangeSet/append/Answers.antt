use Rattle.std.proofs.Common.{◌||◌, ◌∙◌, sym, ap}
use Rattle.range_merge.specs.Boundaries.{member}
use Rattle.range_merge.proofs.SameSet.{IsSameSet-from_items}
use Rattle.range_chunks.proofs.set.ChunkedRangeSet.append.Goals as goal

pub returns-clause-members : goal.returns-clause-members
returns-clause-members g c = λ x.
    c.in_ok-merge_set.ensures.means.members x
    ∙ ap (λ t. member g.T.Ord.cmp c.args.self.now x || t) (sym (IsSameSet-from_items g.met.T.Ord.total c.args.that.now c.in_ok-clone.field-0 c.in_ok-clone.ensures.equal x))
