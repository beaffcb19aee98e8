use Rattle.range_collections.proofs.SingleValues.{in_range-next, in_range-greatest}
use Rattle.range_collections.proofs.range_set.values.range_of.Goals as goal

pub returns-in-Some : goal.returns-in-Some
returns-in-Some g c x w =
    let law = g.met.T.Countable in
    in_range-next g.met.T.Ord.total g.T.RangeSetEntry.is_value g.T.Countable.value g.T.Countable.place g.T.Countable.count
    law.value_is_value law.place_of_value law.place_fits law.in_order
    c.args.value.now x c.in-Some.end c.known.ensures w c.in-Some.ensures.next.0 c.in-Some.ensures.next.1

pub returns-in-None : goal.returns-in-None
returns-in-None g c x w =
    let law = g.met.T.Countable in
    in_range-greatest g.met.T.Ord.total g.T.RangeSetEntry.is_value g.T.Countable.value g.T.Countable.place g.T.Countable.count
    law.value_is_value law.place_of_value law.place_fits law.in_order
    c.args.value.now x c.known.ensures w c.in-None.ensures.greatest
