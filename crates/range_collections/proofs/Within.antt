-- Whether a set has a member in a range: the start is one, or the next boundary lies before the
-- end.
use Rattle.std.proofs.Common.{◌≡◌, ◌↔◌, Bool, IsTrue, not, refl, sym, ap, ◌∙◌, subst, ℕ, suc, inl, inr, ◌<◌, ◌≤◌, ◌%◌, ◌==◌, true, false, List, length, get_or, arith}
use Rattle.std.specs.List.{AllWithin}
use Rattle.std.specs.Ordering.{is_le}
use Rattle.std.specs.Cmp.{IsTotalOrder}
use Rattle.std.proofs.lemmas.Bool.{cases_lt, false≢true, true≢false}
use Rattle.std.proofs.lemmas.List.{get_or_default}
use Rattle.std.specs.declared.cmp.Ordering.{Ordering}
use Rattle.std.specs.declared.cmp.Ordering.TheVariants.{Less, Greater}
use Rattle.range_merge.specs.Boundaries.{IsAscending, member, is_odd}
use Rattle.range_merge.proofs.Orders.{Greater-from_less, Less-from_greater, Equal-self}
use Rattle.range_collections.specs.Extent.{HasAllWithin}
use Rattle.range_collections.specs.Intersects.{HasMemberWithin, IsItemBelow}
use Rattle.range_collections.proofs.CountUpTo.{count_up_to-split}
use Rattle.range_collections.proofs.Points.{is_odd-at_one, is_odd-at_zero}
use Rattle.range_collections.proofs.Shortest.{is_le-cases, le-trans, Less-from_le, Less-then_le, le-from_greater, count_up_to-item}

module _ {K : Type 0} {order : K → K → Ordering} (o : IsTotalOrder order) (xs : List K) (start end : K) (n : ℕ)
    (up : IsAscending order xs) (within : n ≤ length xs)
    (before : AllWithin (λ y. is_le (order y start) ≡ true) xs 0 n) (from : AllWithin (λ y. order y start ≡ Greater) xs n (length xs)) where
  -- what stands behind a boundary above x is above it too
  above_next : (x : K) → order (get_or xs n x) x ≡ Greater → n < length xs → AllWithin (λ y. order y x ≡ Greater) xs n (length xs)
  above_next x g more k d least high =
      elim (cases_lt n k) as (λ _. order (get_or xs k d) x ≡ Greater) [
        | inl less ↦
            Greater-from_less o x (get_or xs k d)
            (o.trans x (get_or xs n x) (get_or xs k d) (Less-from_greater o (get_or xs n x) x g)
            (subst (λ y. order y (get_or xs k d) ≡ Less) (get_or_default xs n d x more) (up n k d less high)))
        | inr same ↦
            let e : k ≡ n = omega arith in
            subst (λ m. order (get_or xs m d) x ≡ Greater) (sym e) (subst (λ y. order y x ≡ Greater) (get_or_default xs n x d more) g)
      ]

  -- the start itself is a member
  pub HasMemberWithin-start : order start end ≡ Less → n % 2 ≡ 1 → HasMemberWithin order xs start end
  HasMemberWithin-start less odd = (
    start,
    ap is_odd (count_up_to-split order start xs n within before from) ∙ ap (λ m. m == 1) odd,
    ap is_le (Equal-self o start),
    less,
  )

  -- the start is no member, so the next boundary begins the first range after it
  pub HasMemberWithin-next : n % 2 ≡ 0 → IsItemBelow order xs n end ↔ HasMemberWithin order xs start end
  HasMemberWithin-next even = (there, back)
    where
      odd_next : is_odd (suc n) ≡ true
      odd_next = let e : suc n % 2 ≡ 1 = omega (arith, even) in ap (λ m. m == 1) e

      there : IsItemBelow order xs n end → HasMemberWithin order xs start end
      there (more, low) = (
        get_or xs n start,
        ap is_odd (count_up_to-item o xs up n start more) ∙ odd_next,
        le-from_greater o (get_or xs n start) start (from n start (omega arith) more),
        low start,
      )

      -- with no boundary between start and end, the count at x is that at start
      none_between : (x : K) → is_le (order start x) ≡ true → AllWithin (λ y. order y x ≡ Greater) xs n (length xs) → member order xs x ≡ false
      none_between x far high =
          ap is_odd (count_up_to-split order x xs n within (λ k d low less. le-trans o (get_or xs k d) start x (before k d low less) far) high)
          ∙ ap (λ m. m == 1) even

      back : HasMemberWithin order xs start end → IsItemBelow order xs n end
      back (x, inside, far, low) =
          elim (cases_lt n (length xs)) as (λ _. IsItemBelow order xs n end) [
            | inl more ↦
                is_le-cases (order (get_or xs n x) x)
                (λ t. (more, λ d. subst (λ y. order y end ≡ Less) (get_or_default xs n x d more) (Less-from_le o (get_or xs n x) x end t low)))
                (λ g.
                absurd (true≢false (sym inside ∙ none_between x far
                (λ k d least high. above_next x g more k d least high))))
            | inr all ↦ absurd (true≢false (sym inside ∙ none_between x far (λ k d least high. absurd (omega arith))))
          ]

  -- the start is a member, so the next boundary ends the range that it is in
  ends_there : n % 2 ≡ 1 → IsItemBelow order xs n end → HasAllWithin order xs start end → ⊥
  ends_there odd (more, low) all =
      let even_next : suc n % 2 ≡ 0 = omega (arith, odd) in
      true≢false (sym (all (get_or xs n start) (le-from_greater o (get_or xs n start) start (from n start (omega arith) more)) (low start))
      ∙ ap is_odd (count_up_to-item o xs up n start more) ∙ is_odd-at_zero (suc n) even_next)

  all_before : n % 2 ≡ 1 → (IsItemBelow order xs n end → ⊥) → HasAllWithin order xs start end
  all_before odd none x far low =
      ap is_odd (count_up_to-split order x xs n within (λ k d least less. le-trans o (get_or xs k d) start x (before k d least less) far) high)
      ∙ is_odd-at_one n odd
    where
      high : AllWithin (λ y. order y x ≡ Greater) xs n (length xs)
      high k d least more =
          let some : n < length xs = omega (arith, least, more) in
          is_le-cases (order end (get_or xs n x))
          (λ t. above_next x (Greater-from_less o x (get_or xs n x) (Less-then_le o x end (get_or xs n x) low t)) some k d least more)
          (λ g. absurd (none (some, λ e. subst (λ y. order y end ≡ Less) (get_or_default xs n x e some) (Less-from_greater o end (get_or xs n x) g))))

  -- all is in the set until the next boundary
  pub IsTrue-until_next : (is_below : Bool) → IsTrue is_below ↔ IsItemBelow order xs n end → n % 2 ≡ 1 → IsTrue (not is_below) ↔ HasAllWithin order xs start end
  IsTrue-until_next true is odd = (λ f. absurd (true≢false (sym f)), λ all. absurd (ends_there odd (is.0 refl) all))
  IsTrue-until_next false is odd = (λ _. all_before odd (λ low. absurd (false≢true (is.1 low))), λ _. refl)
