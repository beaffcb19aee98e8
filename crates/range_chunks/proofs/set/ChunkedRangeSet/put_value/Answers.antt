use Rattle.std.proofs.Common.{ap, ◌||◌, ◌∙◌}
use Rattle.std.proofs.lemmas.Result.{on_ok_weaker}
use Rattle.range_merge.specs.Boundaries.{member}
use Rattle.range_chunks.proofs.OneValue.{one-next, one-greatest}
use Rattle.range_chunks.proofs.set.ChunkedRangeSet.put_value.Goals as goal

pub returns-in-Some : goal.returns-in-Some
returns-in-Some g c =
    let law = g.met.T.Countable in
    on_ok_weaker c.insert.result
    (λ m x w. m x ∙ ap (λ t. member g.T.Ord.cmp c.args.self.now x || t)
    (one-next g.met.T.Ord.total g.T.RangeSetEntry.is_value g.T.Countable.value g.T.Countable.place g.T.Countable.count
    law.value_is_value law.place_of_value law.place_fits law.in_order
    c.args.value x c.in-Some.end c.known.ensures w c.in-Some.ensures.next.0 c.in-Some.ensures.next.1))
    c.insert.ensures.members

pub returns-in-None : goal.returns-in-None
returns-in-None g c =
    let law = g.met.T.Countable in
    on_ok_weaker c.insert_from.result
    (λ m x w. m x ∙ ap (λ t. member g.T.Ord.cmp c.args.self.now x || t)
    (one-greatest g.met.T.Ord.total g.T.RangeSetEntry.is_value g.T.Countable.value g.T.Countable.place g.T.Countable.count
    law.value_is_value law.place_of_value law.place_fits law.in_order
    c.args.value x c.known.ensures w c.in-None.ensures.greatest))
    c.insert_from.ensures.members
