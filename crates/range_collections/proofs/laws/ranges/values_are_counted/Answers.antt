use Rattle.range_collections.proofs.Covered.{covered_of-range, covered_of-both}
use Rattle.range_collections.proofs.laws.ranges.values_are_counted.Goals as goal

pub returns-clause-range : goal.returns-clause-range
returns-clause-range g c =
    let law = g.met.T.Countable in
    covered_of-range g.met.T.Ord.total g.T.RangeSetEntry.is_value g.T.Countable.value g.T.Countable.place g.T.Countable.count
    law.value_is_value law.place_of_value law.place_fits law.in_order

pub returns-clause-both : goal.returns-clause-both
returns-clause-both g c = covered_of-both g.met.T.Ord.total g.T.Countable.value g.T.Countable.count
