-- What a search of a list says of its boundaries.
use Rattle.std.proofs.Common.{◌≡◌, ◌↔◌, IsTrue, sym, ap, ◌∙◌, refl, subst, inl, inr, ℕ, zero, suc, ◌+◌, ◌-◌, ◌%◌, ◌≤◌, ◌<◌, ◌==◌, Bool, true, false, List, [], ◌∷◌, length, take, drop, get_or, slice_get, option_copied, Option, None, Some, MatchOption, not, arith}
use Rattle.std.specs.Borrow.{Bor}
use Rattle.std.specs.Cmp.{IsTotalOrder}
use Rattle.std.specs.List.{AllWithin}
use Rattle.std.proofs.lemmas.Bool.{cases_lt, true≢false}
use Rattle.std.proofs.lemmas.List.{get_or_default}
use Rattle.std.proofs.lemmas.Bool.Decides.{nat_tests}
use Rattle.std.proofs.lemmas.Option.{slice_get_within, get_or_from_slice_get}
use Rattle.std.specs.Ordering.{is_le, is_lt}
use Rattle.std.specs.declared.cmp.Ordering.{Ordering}
use Rattle.std.specs.declared.cmp.Ordering.TheVariants.{Less, Greater}
use Rattle.range_merge.specs.Boundaries.{IsAscending, is_odd}
use Rattle.range_merge.specs.Runs.{digits}
use Rattle.range_merge.proofs.Digits.{digits-pow, digits-zero, digits-double_and_one}
use Rattle.range_merge.proofs.Members.{by_Ordering}
use Rattle.range_merge.proofs.Orders.{Greater-from_less, Equal-sym}
use Rattle.range_merge.proofs.Parity.{is_odd-suc}
use Rattle.range_collections.specs.Extent.{HasAllWithin}
use Rattle.range_collections.specs.Intersects.{IsItemBelow}
use Rattle.range_collections.proofs.Ascending.{Less-from_is_lt}
use Rattle.range_collections.proofs.CountUpTo.{count_up_to-split}
use Rattle.range_collections.proofs.Points.{is_odd-at_one}
use Rattle.range_collections.proofs.Shortest.{Less-then_le, le-trans, le-from_greater, count_up_to-item}

-- a chunk's rest has fewer digits than 512
pub digits-rest : digits 511 + 1 ≤ digits 512
digits-rest =
    omega (
      arith,
      digits-pow 9 512 (omega arith),
      digits-double_and_one 255,
      digits-double_and_one 127,
      digits-double_and_one 63,
      digits-double_and_one 31,
      digits-double_and_one 15,
      digits-double_and_one 7,
      digits-double_and_one 3,
      digits-double_and_one 1,
      digits-double_and_one 0,
      digits-zero,
    )

pub is_odd-next : (n : ℕ) → is_odd (n + 1) ≡ not (is_odd n)
is_odd-next n = let e : n + 1 ≡ suc n = omega arith in ap is_odd e ∙ is_odd-suc n

-- a list of which a test says whether it is empty
pub is_nil-tested : {K : Type 0} (r : Bool) (items : List K) → (r ≡ true → items ≡ []) → (r ≡ false → 0 < length items) → r ≡ (length items == 0)
is_nil-tested true [] none some = refl
is_nil-tested true (x ∷ items) none some = absurd (omega (arith, ap length (none refl)))
is_nil-tested false [] none some = absurd (omega (arith, some refl))
is_nil-tested false (x ∷ items) none some = grind (arith, nat_tests)

-- the item that a reference leads to, if there is one
pub item-read : {K : Type 0} (items : List K) (n : ℕ) (r : Option (Bor K)) → option_copied r ≡ slice_get items n →
    MatchOption r (length items ≤ n) (λ x. (n < length items) × ((d : K) → x.now ≡ get_or items n d))
item-read items n None e = past items n (sym e)
  where
    past : {K : Type 0} (xs : List K) (i : ℕ) → slice_get xs i ≡ None → length xs ≤ i
    past [] i e = omega arith
    past (x ∷ xs) zero e = absurd (cc)
    past (x ∷ xs) (suc i) e = omega (arith, past xs i e)
item-read items n (Some x) e = (slice_get_within items n x.now (sym e), λ d. sym (get_or_from_slice_get items n x.now d (sym e)))

-- between the front and a place before which n boundaries stand
pub from-front : {K : Type 0} (items : List K) (n : ℕ) → take (n - 0) (drop 0 items) ≡ take n items
from-front items n = let e : n - 0 ≡ n = omega arith in ap (λ k. take k items) e

-- an item at place n is below the end exactly if a comparison of it says so
pub IsTrue-item_below : {K : Type 0} (order : K → K → Ordering) (items : List K) (n : ℕ) (v end : K) (r : Bool) (how : Ordering) → r ≡ is_lt how → how ≡ order v end →
    (n < length items) × ((d : K) → v ≡ get_or items n d) → IsTrue r ↔ ((n < length items) × ((d : K) → order (get_or items n d) end ≡ Less))
IsTrue-item_below order items n v end r how er eo h = (
  λ t. (h.0, λ d. ap (λ y. order y end) (sym (h.1 d)) ∙ sym eo ∙ Less-from_is_lt how (sym er ∙ t)),
  λ below. er ∙ ap is_lt (eo ∙ ap (λ y. order y end) (h.1 v) ∙ below.1 v),
)

-- from a start that is a member on, all up to the end are members exactly if no boundary is below
-- the end
module _ {K : Type 0} {order : K → K → Ordering} (o : IsTotalOrder order) (xs : List K) (start end : K) (n : ℕ)
    (up : IsAscending order xs) (within : n ≤ length xs)
    (before : AllWithin (λ y. is_le (order y start) ≡ true) xs 0 n) (from : AllWithin (λ y. order y start ≡ Greater) xs n (length xs))
    (odd : n % 2 ≡ 1) where
  is_odd-here : is_odd n ≡ true
  is_odd-here = is_odd-at_one n odd

  above : (x : K) → order x end ≡ Less → (IsItemBelow order xs n end → ⊥) → AllWithin (λ y. order y x ≡ Greater) xs n (length xs)
  above x low none k d least high =
      let some : n < length xs = omega (arith, least, high) in
      let y : K = get_or xs n d in
      let far : is_le (order end y) ≡ true =
      by_Ordering (order y end)
      (λ l. absurd (none (some, λ e. subst (λ z. order z end ≡ Less) (get_or_default xs n d e some) l)))
      (λ q. ap is_le (Equal-sym o y end q))
      (λ g. le-from_greater o y end g) in
      let first : order x y ≡ Less = Less-then_le o x end y low far in
      elim (cases_lt n k) as (λ _. order (get_or xs k d) x ≡ Greater) [
        | inl less ↦ Greater-from_less o x (get_or xs k d) (o.trans x y (get_or xs k d) first (up n k d less high))
        | inr same ↦ let e : k ≡ n = omega (arith, least, same) in rw e (Greater-from_less o x y first)
      ]

  all-from_none : (IsItemBelow order xs n end → ⊥) → HasAllWithin order xs start end
  all-from_none none x far low =
      ap is_odd (count_up_to-split order x xs n within (λ k d least high. le-trans o (get_or xs k d) start x (before k d least high) far) (above x low none)) ∙ is_odd-here

  none-from_all : HasAllWithin order xs start end → IsItemBelow order xs n end → ⊥
  none-from_all all below =
      let y : K = get_or xs n start in
      true≢false (sym (all y (le-from_greater o y start (from n start (omega arith) below.0)) (below.1 start))
      ∙ ap is_odd (count_up_to-item o xs up n start below.0) ∙ is_odd-suc n ∙ ap not is_odd-here)

  pub IsTrue-none_below : (r : Bool) → (IsTrue r ↔ IsItemBelow order xs n end) → IsTrue (not r) ↔ HasAllWithin order xs start end
  IsTrue-none_below true h = (λ t. absurd (cc), λ all. absurd (none-from_all all (h.0 refl)))
  IsTrue-none_below false h = (λ t. all-from_none (λ below. let on : false ≡ true = h.1 below in cc), λ all. refl)
