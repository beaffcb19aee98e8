use Rattle.std.proofs.Common.{refl}
use Rattle.range_chunks.proofs.OneByOne.{one_member, none-above, outer-above, others-above}
use Rattle.range_chunks.proofs.members.above.Goals as goal

pub returns-then-first-last-clause-others : goal.returns-then-first-last-clause-others
returns-then-first-last-clause-others g c =
    one_member g.T.Ord.cmp g.T.Countable.value c.args.set.now c.args.first c.args.last c.requires.ordered c.if-first-last.true c.requires.first_in

pub returns-in_err-lowest-clause-others : goal.returns-in_err-lowest-clause-others
returns-in_err-lowest-clause-others g c =
    let law = g.met.T.Countable in
    absurd (none-above g.met.T.Ord.total g.T.RangeSetEntry.is_value g.T.Countable.value g.T.Countable.place g.T.Countable.count
    law.value_is_value law.place_of_value law.place_fits law.in_order
    c.args.set.now c.args.first c.args.last c.requires c.if-first-last.false c.in_ok-next.next c.in_ok-next.next _ refl
    c.in_ok-next.ensures.1 c.in_err-lowest.ensures.none)

pub returns-clause-ends : goal.returns-clause-ends
returns-clause-ends g c =
    let law = g.met.T.Countable in
    outer-above g.met.T.Ord.total g.T.RangeSetEntry.is_value g.T.Countable.value g.T.Countable.place g.T.Countable.count
    law.value_is_value law.place_of_value law.place_fits law.in_order
    c.args.set.now c.args.first c.args.last c.requires c.if-first-last.false c.in_ok-next.next c.in_ok-lowest.lowest.now c.place.result c.place.ensures
    c.in_ok-next.ensures.1 c.known.ensures c.in_ok-lowest.ensures.next

pub returns-clause-others : goal.returns-clause-others
returns-clause-others g c =
    let law = g.met.T.Countable in
    others-above g.met.T.Ord.total g.T.RangeSetEntry.is_value g.T.Countable.value g.T.Countable.place g.T.Countable.count
    law.value_is_value law.place_of_value law.place_fits law.in_order
    c.args.set.now c.args.first c.args.last c.requires c.if-first-last.false c.in_ok-next.next c.in_ok-lowest.lowest.now c.place.result c.place.ensures
    c.in_ok-next.ensures.1 c.known.ensures c.in_ok-lowest.ensures.next
