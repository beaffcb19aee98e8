use Rattle.range_collections.proofs.Unions.{copies_are_equal}
use Rattle.range_collections.proofs.Values.{IsAscending-equal}
use Rattle.range_list.specs.Lists.{joined}
use Rattle.range_chunks.proofs.set.ChunkedRangeSet.clone.Goals as goal

pub invariant_of-result : goal.invariant_of-result
invariant_of-result g c =
    IsAscending-equal g.met.T.Ord.total (joined c.self.inside.list) (joined c.in_ok-cloned.field-0)
    (copies_are_equal g.met.T.Ord.total g.met.T.EntryClone.copy_is_equal (joined c.self.inside.list) (joined c.in_ok-cloned.field-0) c.in_ok-cloned.ensures.copies)
    c.self.invariant

pub returns-clause-equal : goal.returns-clause-equal
returns-clause-equal g c =
    rw (← c.self.view_is)
    (copies_are_equal g.met.T.Ord.total g.met.T.EntryClone.copy_is_equal (joined c.self.inside.list) (joined c.in_ok-cloned.field-0) c.in_ok-cloned.ensures.copies)
