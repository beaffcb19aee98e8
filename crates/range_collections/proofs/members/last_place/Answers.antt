use Rattle.std.proofs.Common.{◌-◌, length, arith}
use Rattle.range_collections.proofs.Highest.{past_first, fits-below_end, member-below_end, count-below_end, none-from_end, member-greatest, count-greatest}
use Rattle.range_collections.proofs.Points.{odd-from_test, even-from_test}
use Rattle.range_collections.proofs.members.last_place.Goals as goal

pub overflow_sub-result : goal.overflow_sub-result
overflow_sub-result g c =
    let law = g.met.T.Countable in
    omega (
      arith,
      c.place.ensures,
      past_first g.met.T.Ord.total g.T.RangeSetEntry.is_value g.T.Countable.value g.T.Countable.place g.T.Countable.count
          law.value_is_value law.place_of_value law.place_fits law.in_order c.args.before.now c.args.end.now c.requires c.known.ensures c.know_last.ensures (odd-from_test c.is_odd.result (length c.args.before.now) c.is_odd.ensures c.if-is_odd.true),
    )

pub returns-then-is_odd-clause-fits : goal.returns-then-is_odd-clause-fits
returns-then-is_odd-clause-fits g c =
    let law = g.met.T.Countable in
    fits-below_end g.met.T.Ord.total g.T.RangeSetEntry.is_value g.T.Countable.value g.T.Countable.place g.T.Countable.count
    law.value_is_value law.place_of_value law.place_fits law.in_order
    c.args.before.now c.args.end.now c.requires c.known.ensures c.know_last.ensures (odd-from_test c.is_odd.result (length c.args.before.now) c.is_odd.ensures c.if-is_odd.true)
    (c.place.result - 1) (omega (
      arith,
      c.place.ensures,
      past_first g.met.T.Ord.total g.T.RangeSetEntry.is_value g.T.Countable.value g.T.Countable.place g.T.Countable.count
          law.value_is_value law.place_of_value law.place_fits law.in_order c.args.before.now c.args.end.now c.requires c.known.ensures c.know_last.ensures (odd-from_test c.is_odd.result (length c.args.before.now) c.is_odd.ensures c.if-is_odd.true),
    ))

pub returns-then-is_odd-clause-is_member : goal.returns-then-is_odd-clause-is_member
returns-then-is_odd-clause-is_member g c =
    let law = g.met.T.Countable in
    member-below_end g.met.T.Ord.total g.T.RangeSetEntry.is_value g.T.Countable.value g.T.Countable.place g.T.Countable.count
    law.value_is_value law.place_of_value law.place_fits law.in_order
    c.args.before.now c.args.end.now c.requires c.known.ensures c.know_last.ensures (odd-from_test c.is_odd.result (length c.args.before.now) c.is_odd.ensures c.if-is_odd.true)
    (c.place.result - 1) (omega (
      arith,
      c.place.ensures,
      past_first g.met.T.Ord.total g.T.RangeSetEntry.is_value g.T.Countable.value g.T.Countable.place g.T.Countable.count
          law.value_is_value law.place_of_value law.place_fits law.in_order c.args.before.now c.args.end.now c.requires c.known.ensures c.know_last.ensures (odd-from_test c.is_odd.result (length c.args.before.now) c.is_odd.ensures c.if-is_odd.true),
    ))

pub returns-then-is_odd-clause-in_last : goal.returns-then-is_odd-clause-in_last
returns-then-is_odd-clause-in_last g c =
    let law = g.met.T.Countable in
    count-below_end g.met.T.Ord.total g.T.RangeSetEntry.is_value g.T.Countable.value g.T.Countable.place g.T.Countable.count
    law.value_is_value law.place_of_value law.place_fits law.in_order
    c.args.before.now c.args.end.now c.requires c.known.ensures c.know_last.ensures (odd-from_test c.is_odd.result (length c.args.before.now) c.is_odd.ensures c.if-is_odd.true)
    (c.place.result - 1) (omega (
      arith,
      c.place.ensures,
      past_first g.met.T.Ord.total g.T.RangeSetEntry.is_value g.T.Countable.value g.T.Countable.place g.T.Countable.count
          law.value_is_value law.place_of_value law.place_fits law.in_order c.args.before.now c.args.end.now c.requires c.known.ensures c.know_last.ensures (odd-from_test c.is_odd.result (length c.args.before.now) c.is_odd.ensures c.if-is_odd.true),
    ))

pub returns-then-is_odd-clause-highest : goal.returns-then-is_odd-clause-highest
returns-then-is_odd-clause-highest g c n past less =
    let law = g.met.T.Countable in
    none-from_end g.met.T.Ord.total g.T.RangeSetEntry.is_value g.T.Countable.value g.T.Countable.place g.T.Countable.count
    law.value_is_value law.place_of_value law.place_fits law.in_order
    c.args.before.now c.args.end.now c.requires c.known.ensures c.know_last.ensures (odd-from_test c.is_odd.result (length c.args.before.now) c.is_odd.ensures c.if-is_odd.true)
    (c.place.result - 1) n (omega (
      arith,
      c.place.ensures,
      past_first g.met.T.Ord.total g.T.RangeSetEntry.is_value g.T.Countable.value g.T.Countable.place g.T.Countable.count
          law.value_is_value law.place_of_value law.place_fits law.in_order c.args.before.now c.args.end.now c.requires c.known.ensures c.know_last.ensures (odd-from_test c.is_odd.result (length c.args.before.now) c.is_odd.ensures c.if-is_odd.true),
    )) past less

pub returns-else-is_odd-clause-is_member : goal.returns-else-is_odd-clause-is_member
returns-else-is_odd-clause-is_member g c =
    let law = g.met.T.Countable in
    member-greatest g.met.T.Ord.total g.T.RangeSetEntry.is_value g.T.Countable.value g.T.Countable.place g.T.Countable.count
    law.value_is_value law.place_of_value law.place_fits law.in_order
    c.args.before.now c.args.end.now c.requires c.known.ensures c.know_last.ensures (even-from_test c.is_odd.result (length c.args.before.now) c.is_odd.ensures c.if-is_odd.false) c.place-else-is_odd.result (omega (arith, c.place-else-is_odd.ensures, c.greatest.ensures.place))

pub returns-else-is_odd-clause-in_last : goal.returns-else-is_odd-clause-in_last
returns-else-is_odd-clause-in_last g c =
    let law = g.met.T.Countable in
    count-greatest g.met.T.Ord.total g.T.RangeSetEntry.is_value g.T.Countable.value g.T.Countable.place g.T.Countable.count
    law.value_is_value law.place_of_value law.place_fits law.in_order
    c.args.before.now c.args.end.now c.requires c.known.ensures c.know_last.ensures (even-from_test c.is_odd.result (length c.args.before.now) c.is_odd.ensures c.if-is_odd.false) c.place-else-is_odd.result (omega (arith, c.place-else-is_odd.ensures, c.greatest.ensures.place))
