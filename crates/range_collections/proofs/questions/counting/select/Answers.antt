use Rattle.std.proofs.Common.{◌≡◌, sym, ap, ◌∙◌, true, ◌+◌, ◌-◌, ◌<◌, length, take, drop, arith}
use Rattle.range_merge.specs.Boundaries.{member}
use Rattle.range_collections.specs.Covered.{members_below}
use Rattle.range_collections.proofs.Counted.{members_below-nil, Less-pair, members_below-step}
use Rattle.range_collections.proofs.Previous.{IfSome-at_place, IfSome-when, IfNone-always}
use Rattle.range_collections.proofs.Ranked.{IfNone-past}
use Rattle.range_collections.proofs.ReadInPairs.{two-more, start-at, end-at, index-after, rest-after}
use Rattle.range_collections.proofs.Selected.{member-in_pair, rank-in_pair, member-in_last, rank-in_last, rank-past}
use Rattle.range_collections.proofs.questions.counting.select.Goals as goal

pub loop-start-init : goal.loop-start-init
loop-start-init g c =
    let all = (g.U.Unread.unread c.args.boundaries) in
    let none : length all - length all ≡ 0 = omega arith in (
      sym (ap (λ k. drop k all) none),
      omega (arith, none),
      omega (arith, ap (λ k. members_below g.T.Ord.cmp g.T.Countable.value (take k all) g.T.Countable.count) none, members_below-nil g.T.Ord.cmp g.T.Countable.value g.T.Countable.count),
    )

pub between-values-requires : goal.between-values-requires
between-values-requires g c =
    let law = g.met.T.Countable in
    let all = (g.U.Unread.unread c.args.boundaries) in
    let i = length all - length (g.U.Unread.unread c.loop-start.unread) in
    let first = sym c.loop-start.invariant.0 ∙ c.in-Some.ensures in
    let second = c.in-Some-take_first.ensures in
    Less-pair g.met.T.Ord.total g.T.RangeSetEntry.is_value g.T.Countable.value g.T.Countable.place g.T.Countable.count
    law.value_is_value law.place_of_value law.place_fits law.in_order
    all i c.in-Some.start.now c.in-Some-take_first.end.now c.requires (two-more all i _ _ _ _ first second) c.loop-start.invariant.1
    (start-at all i _ _ _ _ first second) (end-at all i _ _ _ _ first second)

pub returns-then-remaining-values-clause-member : goal.returns-then-remaining-values-clause-member
returns-then-remaining-values-clause-member g c =
    let law = g.met.T.Countable in
    let all = (g.U.Unread.unread c.args.boundaries) in
    let i = length all - length (g.U.Unread.unread c.loop-start.unread) in
    let first = sym c.loop-start.invariant.0 ∙ c.in-Some.ensures in
    let q = c.place-then-remaining-values.result + c.loop-start.remaining in
    let at : q ≡ g.T.Countable.place c.in-Some.start.now + c.loop-start.remaining = omega (arith, c.place-then-remaining-values.ensures) in
    let low : q < g.T.Countable.place c.in-Some-take_first.end.now = omega (arith, at, c.between-values.ensures.value, c.if-remaining-values.true) in
    IfSome-at_place g.T.Countable.value g.T.Countable.count q (λ at. member g.T.Ord.cmp (g.U.Unread.unread c.args.boundaries) at ≡ true) c.from_place-then-remaining-values.result c.from_place-then-remaining-values.ensures
    (member-in_pair g.met.T.Ord.total g.T.RangeSetEntry.is_value g.T.Countable.value g.T.Countable.place g.T.Countable.count
    law.value_is_value law.place_of_value law.place_fits law.in_order
    all c.requires i c.loop-start.invariant.1 c.in-Some.start.now c.between-values.ensures.start_is_value (g.U.Unread.unread c.take_first.new.self) first c.args.k c.loop-start.remaining c.loop-start.invariant.2
    c.in-Some-take_first.end.now c.between-values.ensures.end_is_value (g.U.Unread.unread c.take_first-in-Some.new.self) c.in-Some-take_first.ensures q at low)

pub returns-then-remaining-values-clause-rank : goal.returns-then-remaining-values-clause-rank
returns-then-remaining-values-clause-rank g c =
    let law = g.met.T.Countable in
    let all = (g.U.Unread.unread c.args.boundaries) in
    let i = length all - length (g.U.Unread.unread c.loop-start.unread) in
    let first = sym c.loop-start.invariant.0 ∙ c.in-Some.ensures in
    let q = c.place-then-remaining-values.result + c.loop-start.remaining in
    let at : q ≡ g.T.Countable.place c.in-Some.start.now + c.loop-start.remaining = omega (arith, c.place-then-remaining-values.ensures) in
    let low : q < g.T.Countable.place c.in-Some-take_first.end.now = omega (arith, at, c.between-values.ensures.value, c.if-remaining-values.true) in
    IfSome-at_place g.T.Countable.value g.T.Countable.count q (λ at. members_below g.T.Ord.cmp g.T.Countable.value (g.U.Unread.unread c.args.boundaries) (g.T.Countable.place at) ≡ c.args.k) c.from_place-then-remaining-values.result c.from_place-then-remaining-values.ensures
    (rank-in_pair g.met.T.Ord.total g.T.RangeSetEntry.is_value g.T.Countable.value g.T.Countable.place g.T.Countable.count
    law.value_is_value law.place_of_value law.place_fits law.in_order
    all c.requires i c.loop-start.invariant.1 c.in-Some.start.now c.between-values.ensures.start_is_value (g.U.Unread.unread c.take_first.new.self) first c.args.k c.loop-start.remaining c.loop-start.invariant.2
    c.in-Some-take_first.end.now c.between-values.ensures.end_is_value (g.U.Unread.unread c.take_first-in-Some.new.self) c.in-Some-take_first.ensures q at low)

pub returns-in_default-take_first-clause-member : goal.returns-in_default-take_first-clause-member
returns-in_default-take_first-clause-member g c =
    let law = g.met.T.Countable in
    let all = (g.U.Unread.unread c.args.boundaries) in
    let i = length all - length (g.U.Unread.unread c.loop-start.unread) in
    let first = sym c.loop-start.invariant.0 ∙ c.in-Some.ensures in
    let q = c.in_ok-checked_add.field-0 in
    let at : q ≡ g.T.Countable.place c.in-Some.start.now + c.loop-start.remaining = omega (arith, c.in_ok-checked_add.ensures.1, c.place.ensures) in
    IfSome-when g.T.Countable.value g.T.Countable.count q (λ at. member g.T.Ord.cmp (g.U.Unread.unread c.args.boundaries) at ≡ true) c.from_place.result c.from_place.ensures
    (member-in_last g.met.T.Ord.total g.T.RangeSetEntry.is_value g.T.Countable.value g.T.Countable.place g.T.Countable.count
    law.value_is_value law.place_of_value law.place_fits law.in_order
    all c.requires i c.loop-start.invariant.1 c.in-Some.start.now c.known.ensures (g.U.Unread.unread c.take_first.new.self) first c.args.k c.loop-start.remaining c.loop-start.invariant.2
    c.in_default-take_first.ensures.0 q at)

pub returns-in_default-take_first-clause-rank : goal.returns-in_default-take_first-clause-rank
returns-in_default-take_first-clause-rank g c =
    let law = g.met.T.Countable in
    let all = (g.U.Unread.unread c.args.boundaries) in
    let i = length all - length (g.U.Unread.unread c.loop-start.unread) in
    let first = sym c.loop-start.invariant.0 ∙ c.in-Some.ensures in
    let q = c.in_ok-checked_add.field-0 in
    let at : q ≡ g.T.Countable.place c.in-Some.start.now + c.loop-start.remaining = omega (arith, c.in_ok-checked_add.ensures.1, c.place.ensures) in
    IfSome-when g.T.Countable.value g.T.Countable.count q (λ at. members_below g.T.Ord.cmp g.T.Countable.value (g.U.Unread.unread c.args.boundaries) (g.T.Countable.place at) ≡ c.args.k) c.from_place.result c.from_place.ensures
    (rank-in_last g.met.T.Ord.total g.T.RangeSetEntry.is_value g.T.Countable.value g.T.Countable.place g.T.Countable.count
    law.value_is_value law.place_of_value law.place_fits law.in_order
    all c.requires i c.loop-start.invariant.1 c.in-Some.start.now c.known.ensures (g.U.Unread.unread c.take_first.new.self) first c.args.k c.loop-start.remaining c.loop-start.invariant.2
    c.in_default-take_first.ensures.0 q at)

pub returns-in_default-take_first-clause-none : goal.returns-in_default-take_first-clause-none
returns-in_default-take_first-clause-none g c =
    let law = g.met.T.Countable in
    let all = (g.U.Unread.unread c.args.boundaries) in
    let i = length all - length (g.U.Unread.unread c.loop-start.unread) in
    let first = sym c.loop-start.invariant.0 ∙ c.in-Some.ensures in
    IfNone-past c.from_place.result c.in_ok-checked_add.field-0 g.T.Countable.count _ c.from_place.ensures
    (λ past. rank-past g.met.T.Ord.total g.T.RangeSetEntry.is_value g.T.Countable.value g.T.Countable.place g.T.Countable.count
    law.value_is_value law.place_of_value law.place_fits law.in_order
    all c.requires i c.loop-start.invariant.1 c.in-Some.start.now c.known.ensures (g.U.Unread.unread c.take_first.new.self) first c.args.k c.loop-start.remaining c.loop-start.invariant.2
    (omega (arith, past, c.in_ok-checked_add.ensures.1, c.place.ensures)))

pub returns-in_err-checked_add-clause-none : goal.returns-in_err-checked_add-clause-none
returns-in_err-checked_add-clause-none g c =
    let law = g.met.T.Countable in
    let all = (g.U.Unread.unread c.args.boundaries) in
    let i = length all - length (g.U.Unread.unread c.loop-start.unread) in
    let first = sym c.loop-start.invariant.0 ∙ c.in-Some.ensures in
    IfNone-always c.from_residual.result
    (rank-past g.met.T.Ord.total g.T.RangeSetEntry.is_value g.T.Countable.value g.T.Countable.place g.T.Countable.count
    law.value_is_value law.place_of_value law.place_fits law.in_order
    all c.requires i c.loop-start.invariant.1 c.in-Some.start.now c.known.ensures (g.U.Unread.unread c.take_first.new.self) first c.args.k c.loop-start.remaining c.loop-start.invariant.2
    (omega (arith, law.count_fits, c.place.ensures, c.in_err-checked_add.ensures)))

pub loop-start-preserved : goal.loop-start-preserved
loop-start-preserved g c =
    let law = g.met.T.Countable in
    let all = (g.U.Unread.unread c.args.boundaries) in
    let i = length all - length (g.U.Unread.unread c.loop-start.unread) in
    let first = sym c.loop-start.invariant.0 ∙ c.in-Some.ensures in
    let second = c.in-Some-take_first.ensures in
    let step =
    members_below-step g.met.T.Ord.total g.T.RangeSetEntry.is_value g.T.Countable.value g.T.Countable.place g.T.Countable.count
    law.value_is_value law.place_of_value law.place_fits law.in_order
    all i c.in-Some.start.now c.in-Some-take_first.end.now c.requires (two-more all i _ _ _ _ first second) c.loop-start.invariant.1
    (start-at all i _ _ _ _ first second) (end-at all i _ _ _ _ first second)
    c.between-values.ensures.start_is_value c.between-values.ensures.end_is_value in
    let next = index-after all i _ _ _ _ first second in
    let same = ap (λ k. members_below g.T.Ord.cmp g.T.Countable.value (take k all) g.T.Countable.count) next in (
      rest-after all i _ _ _ _ first second ∙ sym (ap (λ k. drop k all) next),
      omega (arith, c.loop-start.invariant.1, next),
      omega (arith, step, same, c.loop-start.invariant.2, c.between-values.ensures.value, c.if-remaining-values.false),
    )
