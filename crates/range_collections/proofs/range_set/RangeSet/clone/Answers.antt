use Rattle.std.proofs.lemmas.Result.{IfOk-weaker}
use Rattle.range_collections.proofs.Unions.{copies_are_equal}
use Rattle.range_collections.proofs.range_set.RangeSet.clone.Goals as goal

pub returns-clause-equal : goal.returns-clause-equal
returns-clause-equal g c =
    rw (← c.as_ref.ensures.same)
    (IfOk-weaker c.copied.result _ _
    (λ set copies. copies_are_equal g.met.T.Ord.total g.met.T.EntryClone.copy_is_equal c.as_ref.result.boundaries.now set copies) c.copied.ensures.copies)
