-- The window of a search that looks at the last item of its first half, and goes on in that half or
-- in the other one.
use Rattle.std.proofs.Common.{◌≡◌, ℕ, ◌+◌, ◌-◌, ◌/◌, ◌<◌, false, List, get_or, ap, arith, sym}
use Rattle.std.specs.Bool.{if◌then◌else◌}
use Rattle.std.specs.Cmp.{IsTotalOrder}
use Rattle.std.specs.Ordering.{is_lt, is_eq}
use Rattle.std.proofs.lemmas.Bool.{false≢true}
use Rattle.std.specs.declared.cmp.Ordering.{Ordering}
use Rattle.std.specs.declared.cmp.Ordering.TheVariants.{Less, Equal, Greater}
use Rattle.range_merge.specs.Boundaries.{IsAscending}
use Rattle.range_merge.specs.Runs.{digits}
use Rattle.range_merge.proofs.Digits.{digits-half}
use Rattle.range_merge.proofs.Fronts.{IsWindow, below_through, above_from}

-- a window's length, by where it begins
pub digits-window : (front left : ℕ) → digits (front + left - front) ≡ digits left
digits-window front left =
    let e : front + left - front ≡ left = omega arith in
    ap digits e

module _ {K : Type 0} (order : K → K → Ordering) (o : IsTotalOrder order) (items : List K) (key : K) (ascends : IsAscending order items) (front left : ℕ) (x : K) where
  -- an item that doesn't equal the key leaves half of the window, for one more comparison
  pub IsWindow-half : (start counted counted_next : ℕ) (how : Ordering) → 0 < left →
      x ≡ get_or items (front + (left - 1) / 2) x →
      order x key ≡ how → is_eq how ≡ false → counted_next ≡ counted + 1 →
      IsWindow order items key front (front + left) start counted →
      IsWindow order items key (if is_lt how then front + (left - 1) / 2 + 1 else front)
      ((if is_lt how then front + (left - 1) / 2 + 1 else front) + left / 2) start counted_next
  IsWindow-half start counted counted_next Less some read is other one w = record {
    ordered = omega arith;
    within = omega (arith, w.within);
    fits = w.fits;
    before = below_through order o items key ascends (front + (left - 1) / 2) x (omega (arith, w.within)) read is;
    after = λ k d low high. w.after k d (omega arith) high;
    at_least = omega (arith, w.at_least);
    at_most = omega (arith, digits-window front left, digits-window (front + (left - 1) / 2 + 1) (left / 2), digits-half (left / 2) left some (omega arith), w.at_most);
  }
  IsWindow-half start counted counted_next Equal some read is other one w = absurd (false≢true (sym other))
  IsWindow-half start counted counted_next Greater some read is other one w = record {
    ordered = omega arith;
    within = omega (arith, w.within);
    fits = w.fits;
    before = w.before;
    after = λ k d low high. above_from order o items key ascends (front + (left - 1) / 2) x (omega (arith, w.within)) read is k d (omega arith) high;
    at_least = omega (arith, w.at_least);
    at_most = omega (arith, digits-window front left, digits-window front (left / 2), digits-half (left / 2) left some (omega arith), w.at_most);
  }
