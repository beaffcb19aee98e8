use Rattle.std.proofs.Common.{◌≡◌, sym, ap, ◌∙◌, subst, ◌∷◌, ◌+◌, suc, ◌-◌, arith}
use Rattle.std.proofs.lemmas.List.{nil_from_length}
use Rattle.range_merge.specs.Boundaries.{count_up_to}
use Rattle.range_collections.specs.Members.{members_of, AreEnds}
use Rattle.range_collections.proofs.Ends.{one_left, some_items, AreEnds-next, others-next, free-end, free-none, no_rest, AreEnds-jump, others-jump}
use Rattle.range_collections.proofs.members.above.Goals as goal
use Rattle.range_collections.proofs.members.above.Goals.{in-Some+else-place-first, in_default}

pub returns-then-first-last-clause-none : goal.returns-then-first-last-clause-none
returns-then-first-last-clause-none g c =
    let law = g.met.T.Countable in
    one_left g.met.T.Ord.total g.T.RangeSetEntry.is_value g.T.Countable.value g.T.Countable.place g.T.Countable.count
    law.value_is_value law.place_of_value law.place_fits law.in_order
    c.args.items.now c.args.first c.args.last c.requires c.if-first-last.true

pub returns-in_err-others-clause-none : goal.returns-in_err-others-clause-none
returns-in_err-others-clause-none g c =
    let law = g.met.T.Countable in
    absurd (some_items g.met.T.Ord.total g.T.RangeSetEntry.is_value g.T.Countable.value g.T.Countable.place g.T.Countable.count
    law.value_is_value law.place_of_value law.place_fits law.in_order
    c.args.items.now c.args.first c.args.last c.requires (nil_from_length c.args.items.now c.in_err-others.ensures.cases))

pub returns-in_err-start-clause-none : goal.returns-in_err-start-clause-none
returns-in_err-start-clause-none g c =
    let law = g.met.T.Countable in
    absurd (no_rest g.met.T.Ord.total g.T.RangeSetEntry.is_value g.T.Countable.value g.T.Countable.place g.T.Countable.count
    law.value_is_value law.place_of_value law.place_fits law.in_order
    c.args.items.now c.args.first c.args.last c.requires c.if-first-last.false
    c.in_ok-others.field-0-0.now c.in-Some.end.now c.in-Some.rest.now
    (c.in_ok-others.ensures.cases.0 ∙ ap (λ l. c.in_ok-others.field-0-0.now ∷ l) c.in-Some.ensures.cases.0) c.known.ensures (omega (arith, c.place.ensures, c.if-place-first.true)) c.in_err-start.ensures.cases)

pub returns-then-place-first-clause-ends : goal.returns-then-place-first-clause-ends
returns-then-place-first-clause-ends g c =
    let law = g.met.T.Countable in
    subst (λ n. AreEnds g.T.Ord.cmp g.T.Countable.value g.T.Countable.count c.in-Some.rest.now n c.args.last) (sym c.place-then-place-first.ensures)
    (AreEnds-jump g.met.T.Ord.total g.T.RangeSetEntry.is_value g.T.Countable.value g.T.Countable.place g.T.Countable.count
    law.value_is_value law.place_of_value law.place_fits law.in_order
    c.args.items.now c.args.first c.args.last c.requires c.if-first-last.false
    c.in_ok-others.field-0-0.now c.in-Some.end.now c.in-Some.rest.now
    (c.in_ok-others.ensures.cases.0 ∙ ap (λ l. c.in_ok-others.field-0-0.now ∷ l) c.in-Some.ensures.cases.0) c.known.ensures (omega (arith, c.place.ensures, c.if-place-first.true))
    c.in_ok-start.start.now c.in_ok-start.field-0-1.now c.in_ok-start.ensures.cases.0 c.known-then-place-first.ensures)

pub returns-then-place-first-clause-others : goal.returns-then-place-first-clause-others
returns-then-place-first-clause-others g c =
    let law = g.met.T.Countable in
    subst (λ n. members_of g.T.Ord.cmp g.T.Countable.value c.args.items.now c.args.first (suc c.args.last - c.args.first)
    ≡ g.T.Countable.value c.args.first ∷ members_of g.T.Ord.cmp g.T.Countable.value c.in-Some.rest.now n (suc c.args.last - n)) (sym c.place-then-place-first.ensures)
    (others-jump g.met.T.Ord.total g.T.RangeSetEntry.is_value g.T.Countable.value g.T.Countable.place g.T.Countable.count
    law.value_is_value law.place_of_value law.place_fits law.in_order
    c.args.items.now c.args.first c.args.last c.requires c.if-first-last.false
    c.in_ok-others.field-0-0.now c.in-Some.end.now c.in-Some.rest.now
    (c.in_ok-others.ensures.cases.0 ∙ ap (λ l. c.in_ok-others.field-0-0.now ∷ l) c.in-Some.ensures.cases.0) c.known.ensures (omega (arith, c.place.ensures, c.if-place-first.true))
    c.in_ok-start.start.now c.in_ok-start.field-0-1.now c.in_ok-start.ensures.cases.0 c.known-then-place-first.ensures)

pub returns-clause-ends : goal.returns-clause-ends
returns-clause-ends g c =
    let law = g.met.T.Countable in
    elim c.match-split_first.branch [
      | in-Some+else-place-first w ↦
          AreEnds-next g.met.T.Ord.total g.T.RangeSetEntry.is_value g.T.Countable.value g.T.Countable.place g.T.Countable.count
          law.value_is_value law.place_of_value law.place_fits law.in_order
          c.args.items.now c.args.first c.args.last c.requires c.if-first-last.false c.in_ok-others.field-0-0.now c.in_ok-others.others.now c.in_ok-others.ensures.cases.0
          (subst (λ l. count_up_to g.T.Ord.cmp l (g.T.Countable.value (c.args.first + 1)) ≡ 0) (sym w.in-Some.ensures.cases.0)
          (free-end g.met.T.Ord.total g.T.RangeSetEntry.is_value g.T.Countable.value g.T.Countable.place g.T.Countable.count
          law.value_is_value law.place_of_value law.place_fits law.in_order
          c.args.items.now c.args.first c.args.last c.requires c.if-first-last.false c.in_ok-others.field-0-0.now w.in-Some.end.now w.in-Some.rest.now
          (c.in_ok-others.ensures.cases.0 ∙ ap (λ l. c.in_ok-others.field-0-0.now ∷ l) w.in-Some.ensures.cases.0) w.known.ensures
          (λ same. w.if-place-first.false (w.place.ensures ∙ same))))
      | in_default w ↦
          AreEnds-next g.met.T.Ord.total g.T.RangeSetEntry.is_value g.T.Countable.value g.T.Countable.place g.T.Countable.count
          law.value_is_value law.place_of_value law.place_fits law.in_order
          c.args.items.now c.args.first c.args.last c.requires c.if-first-last.false c.in_ok-others.field-0-0.now c.in_ok-others.others.now c.in_ok-others.ensures.cases.0
          (free-none g.met.T.Ord.total g.T.RangeSetEntry.is_value g.T.Countable.value g.T.Countable.place g.T.Countable.count
          law.value_is_value law.place_of_value law.place_fits law.in_order
          c.args.items.now c.args.first c.args.last c.requires c.if-first-last.false c.in_ok-others.others.now w.in_default.ensures.cases)
    ]

pub returns-clause-others : goal.returns-clause-others
returns-clause-others g c =
    let law = g.met.T.Countable in
    elim c.match-split_first.branch [
      | in-Some+else-place-first w ↦
          others-next g.met.T.Ord.total g.T.RangeSetEntry.is_value g.T.Countable.value g.T.Countable.place g.T.Countable.count
          law.value_is_value law.place_of_value law.place_fits law.in_order
          c.args.items.now c.args.first c.args.last c.requires c.if-first-last.false c.in_ok-others.field-0-0.now c.in_ok-others.others.now c.in_ok-others.ensures.cases.0
          (subst (λ l. count_up_to g.T.Ord.cmp l (g.T.Countable.value (c.args.first + 1)) ≡ 0) (sym w.in-Some.ensures.cases.0)
          (free-end g.met.T.Ord.total g.T.RangeSetEntry.is_value g.T.Countable.value g.T.Countable.place g.T.Countable.count
          law.value_is_value law.place_of_value law.place_fits law.in_order
          c.args.items.now c.args.first c.args.last c.requires c.if-first-last.false c.in_ok-others.field-0-0.now w.in-Some.end.now w.in-Some.rest.now
          (c.in_ok-others.ensures.cases.0 ∙ ap (λ l. c.in_ok-others.field-0-0.now ∷ l) w.in-Some.ensures.cases.0) w.known.ensures
          (λ same. w.if-place-first.false (w.place.ensures ∙ same))))
      | in_default w ↦
          others-next g.met.T.Ord.total g.T.RangeSetEntry.is_value g.T.Countable.value g.T.Countable.place g.T.Countable.count
          law.value_is_value law.place_of_value law.place_fits law.in_order
          c.args.items.now c.args.first c.args.last c.requires c.if-first-last.false c.in_ok-others.field-0-0.now c.in_ok-others.others.now c.in_ok-others.ensures.cases.0
          (free-none g.met.T.Ord.total g.T.RangeSetEntry.is_value g.T.Countable.value g.T.Countable.place g.T.Countable.count
          law.value_is_value law.place_of_value law.place_fits law.in_order
          c.args.items.now c.args.first c.args.last c.requires c.if-first-last.false c.in_ok-others.others.now w.in_default.ensures.cases)
    ]
