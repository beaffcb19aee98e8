use Rattle.std.proofs.Common.{sym, ap, ◌∙◌, ◌-◌, refl, arith}
use Rattle.range_collections.proofs.Ends.{some_items}
use Rattle.range_collections.proofs.Highest.{one_right, AreEnds-lower, others-lower, some_before, above_first, AreEnds-before, others-before}
use Rattle.range_collections.proofs.members.below.Goals as goal

pub returns-then-first-last-clause-none : goal.returns-then-first-last-clause-none
returns-then-first-last-clause-none g c =
    let law = g.met.T.Countable in
    one_right g.met.T.Ord.total g.T.RangeSetEntry.is_value g.T.Countable.value g.T.Countable.place g.T.Countable.count
    law.value_is_value law.place_of_value law.place_fits law.in_order
    c.args.items.now c.args.first c.args.last c.requires c.if-first-last.true

pub returns-in_err-start-clause-none : goal.returns-in_err-start-clause-none
returns-in_err-start-clause-none g c =
    let law = g.met.T.Countable in
    absurd (some_items g.met.T.Ord.total g.T.RangeSetEntry.is_value g.T.Countable.value g.T.Countable.place g.T.Countable.count
    law.value_is_value law.place_of_value law.place_fits law.in_order
    c.args.items.now c.args.first c.args.last c.requires c.in_err-start.ensures.none)

pub returns-in_err-end-clause-none : goal.returns-in_err-end-clause-none
returns-in_err-end-clause-none g c =
    let law = g.met.T.Countable in
    absurd (some_before g.met.T.Ord.total g.T.RangeSetEntry.is_value g.T.Countable.value g.T.Countable.place g.T.Countable.count
    law.value_is_value law.place_of_value law.place_fits law.in_order
    c.args.items.now c.args.first c.args.last c.requires
    c.if-first-last.false c.in_ok-start.before.now c.in_ok-start.start.now c.in_ok-start.ensures.some.0 c.in_ok-start.ensures.some.1 c.in_ok-start.ensures.pairs
    c.in_ok-start.ensures.some.2 c.known.ensures (sym c.place.ensures ∙ c.if-place-last.true) c.in_err-end.ensures.cases)

pub overflow_sub-result : goal.overflow_sub-result
overflow_sub-result g c =
    let law = g.met.T.Countable in
    let past =
    above_first g.met.T.Ord.total g.T.RangeSetEntry.is_value g.T.Countable.value g.T.Countable.place g.T.Countable.count
    law.value_is_value law.place_of_value law.place_fits law.in_order
    c.args.items.now c.args.first c.args.last c.requires
    c.if-first-last.false c.in_ok-start.before.now c.in_ok-start.start.now c.in_ok-start.ensures.some.0 c.in_ok-start.ensures.some.1 c.in_ok-start.ensures.pairs
    c.in_ok-start.ensures.some.2 c.known.ensures (sym c.place.ensures ∙ c.if-place-last.true)
    c.in_ok-end.others.now c.in_ok-end.end.now c.in_ok-end.ensures.cases.0 c.known-then-place-last.ensures c.know_last.ensures in
    omega (arith, past, c.place-then-place-last.ensures)

pub returns-then-place-last-clause-ends : goal.returns-then-place-last-clause-ends
returns-then-place-last-clause-ends g c =
    let law = g.met.T.Countable in
    AreEnds-before g.met.T.Ord.total g.T.RangeSetEntry.is_value g.T.Countable.value g.T.Countable.place g.T.Countable.count
    law.value_is_value law.place_of_value law.place_fits law.in_order
    c.args.items.now c.args.first c.args.last c.requires
    c.if-first-last.false c.in_ok-start.before.now c.in_ok-start.start.now c.in_ok-start.ensures.some.0 c.in_ok-start.ensures.some.1 c.in_ok-start.ensures.pairs
    c.in_ok-start.ensures.some.2 c.known.ensures (sym c.place.ensures ∙ c.if-place-last.true)
    c.in_ok-end.others.now c.in_ok-end.end.now c.in_ok-end.ensures.cases.0 c.known-then-place-last.ensures c.know_last.ensures
    (c.place-then-place-last.result - 1) (ap (λ n. n - 1) c.place-then-place-last.ensures)

pub returns-then-place-last-clause-others : goal.returns-then-place-last-clause-others
returns-then-place-last-clause-others g c =
    let law = g.met.T.Countable in
    others-before g.met.T.Ord.total g.T.RangeSetEntry.is_value g.T.Countable.value g.T.Countable.place g.T.Countable.count
    law.value_is_value law.place_of_value law.place_fits law.in_order
    c.args.items.now c.args.first c.args.last c.requires
    c.if-first-last.false c.in_ok-start.before.now c.in_ok-start.start.now c.in_ok-start.ensures.some.0 c.in_ok-start.ensures.some.1 c.in_ok-start.ensures.pairs
    c.in_ok-start.ensures.some.2 c.known.ensures (sym c.place.ensures ∙ c.if-place-last.true)
    c.in_ok-end.others.now c.in_ok-end.end.now c.in_ok-end.ensures.cases.0 c.known-then-place-last.ensures c.know_last.ensures
    (c.place-then-place-last.result - 1) (ap (λ n. n - 1) c.place-then-place-last.ensures)

pub returns-clause-ends : goal.returns-clause-ends
returns-clause-ends g c =
    let law = g.met.T.Countable in
    AreEnds-lower g.met.T.Ord.total g.T.RangeSetEntry.is_value g.T.Countable.value g.T.Countable.place g.T.Countable.count
    law.value_is_value law.place_of_value law.place_fits law.in_order
    c.args.items.now c.args.first c.args.last c.requires
    c.if-first-last.false c.in_ok-start.before.now c.in_ok-start.start.now c.in_ok-start.ensures.some.0 c.in_ok-start.ensures.some.1 c.in_ok-start.ensures.pairs
    c.in_ok-start.ensures.some.2 c.known.ensures (λ same. c.if-place-last.false (c.place.ensures ∙ same)) (c.args.last - 1) refl

pub returns-clause-others : goal.returns-clause-others
returns-clause-others g c =
    let law = g.met.T.Countable in
    others-lower g.met.T.Ord.total g.T.RangeSetEntry.is_value g.T.Countable.value g.T.Countable.place g.T.Countable.count
    law.value_is_value law.place_of_value law.place_fits law.in_order
    c.args.items.now c.args.first c.args.last c.requires
    c.if-first-last.false c.in_ok-start.before.now c.in_ok-start.start.now c.in_ok-start.ensures.some.0 c.in_ok-start.ensures.some.1 c.in_ok-start.ensures.pairs
    c.in_ok-start.ensures.some.2 c.known.ensures (λ same. c.if-place-last.false (c.place.ensures ∙ same)) (c.args.last - 1) refl
