use Rattle.std.proofs.Common.{◌≡◌, ℕ, ◌≤◌, ◌+◌, ◌-◌, ap, subst, length, arith}
use Rattle.std.specs.declared.cmp.Ordering.TheVariants.{Less}
use Rattle.range_merge.specs.Boundaries.{IsAscending, count_up_to}
use Rattle.range_collections.proofs.Shortest.{count_up_to-le_length}
use Rattle.range_collections.proofs.Previous.{count-none, count-above, count-below, IfSome-at_place, IfNone-always}
use Rattle.range_collections.proofs.questions.next.value_below.Goals as goal

pub returns-in_err-last-clause-none : goal.returns-in_err-last-clause-none
returns-in_err-last-clause-none g c =
    IfNone-always c.from_residual.result
    (λ x _. omega (arith, count_up_to-le_length g.T.Ord.cmp x (g.U.Unread.unread c.args.boundaries), ap length c.in_err-last.ensures.0))

pub returns-in_err-checked_sub-clause-none : goal.returns-in_err-checked_sub-clause-none
returns-in_err-checked_sub-clause-none g c =
    let law = g.met.T.Countable in
    IfNone-always c.from_residual-in_err-checked_sub.result
    (λ x w. rw c.in_ok-last.ensures
    (count-none g.met.T.Ord.total g.T.RangeSetEntry.is_value g.T.Countable.value g.T.Countable.place g.T.Countable.count
    law.value_is_value law.place_of_value law.place_fits law.in_order
    (g.U.Unread.unread c.take_last.new.self) c.in_ok-last.last.now (subst (IsAscending g.T.Ord.cmp) c.in_ok-last.ensures c.requires) c.known.ensures
    (omega (arith, c.place.ensures, c.in_err-checked_sub.ensures)) x w))

-- the place just below another that isn't the first
just_below : (m n p : ℕ) → m ≡ n → 1 ≤ m → p ≡ m - 1 → n ≡ p + 1
just_below m n p e some is = omega arith

pub returns-clause-below : goal.returns-clause-below
returns-clause-below g c =
    let law = g.met.T.Countable in
    IfSome-at_place g.T.Countable.value g.T.Countable.count c.in_ok-checked_sub.field-0
    (λ at. count_up_to g.T.Ord.cmp (g.U.Unread.unread c.args.boundaries) at + 1 ≡ length (g.U.Unread.unread c.args.boundaries)) c.from_place.result c.from_place.ensures
    (rw c.in_ok-last.ensures
    (count-below g.met.T.Ord.total g.T.RangeSetEntry.is_value g.T.Countable.value g.T.Countable.place g.T.Countable.count
    law.value_is_value law.place_of_value law.place_fits law.in_order
    (g.U.Unread.unread c.take_last.new.self) c.in_ok-last.last.now (subst (IsAscending g.T.Ord.cmp) c.in_ok-last.ensures c.requires) c.known.ensures
    c.in_ok-checked_sub.field-0 (just_below _ _ _ c.place.ensures c.in_ok-checked_sub.ensures.0 c.in_ok-checked_sub.ensures.1) c.know_last.ensures))

pub returns-clause-greatest : goal.returns-clause-greatest
returns-clause-greatest g c =
    let law = g.met.T.Countable in
    IfSome-at_place g.T.Countable.value g.T.Countable.count c.in_ok-checked_sub.field-0
    (λ at. (x : _) → g.T.RangeSetEntry.is_value x → g.T.Ord.cmp at x ≡ Less → count_up_to g.T.Ord.cmp (g.U.Unread.unread c.args.boundaries) x ≡ length (g.U.Unread.unread c.args.boundaries)) c.from_place.result c.from_place.ensures
    (λ x w past. rw c.in_ok-last.ensures
    (count-above g.met.T.Ord.total g.T.RangeSetEntry.is_value g.T.Countable.value g.T.Countable.place g.T.Countable.count
    law.value_is_value law.place_of_value law.place_fits law.in_order
    (g.U.Unread.unread c.take_last.new.self) c.in_ok-last.last.now (subst (IsAscending g.T.Ord.cmp) c.in_ok-last.ensures c.requires) c.known.ensures
    c.in_ok-checked_sub.field-0 (just_below _ _ _ c.place.ensures c.in_ok-checked_sub.ensures.0 c.in_ok-checked_sub.ensures.1) x w past))
