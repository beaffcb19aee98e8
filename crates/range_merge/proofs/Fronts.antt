-- The items of a strictly sorted list that stand before or after a key, and the window that a
-- search narrows between them.
use Rattle.std.proofs.Common.{◌≡◌, ℕ, ◌+◌, ◌-◌, ◌/◌, ◌^◌, ◌<◌, ◌≤◌, List, length, get_or, ⊎_elim, arith, ap, refl, sym, ◌∙◌}
use Rattle.std.specs.List.{AllWithin}
use Rattle.std.specs.Cmp.{IsTotalOrder}
use Rattle.std.proofs.lemmas.Bool.{cases_eq}
use Rattle.std.proofs.lemmas.List.{get_or_read_under}
use Rattle.std.specs.declared.cmp.Ordering.{Ordering}
use Rattle.std.specs.declared.cmp.Ordering.TheVariants.{Less, Greater}
use Rattle.range_merge.specs.Boundaries.{IsAscending}
use Rattle.range_merge.specs.Runs.{digits}
use Rattle.range_merge.proofs.Digits.{digits-half}
use Rattle.range_merge.proofs.Orders.{Greater-from_less, Less-trans, Greater-trans}

module _ {K : Type 0} (order : K → K → Ordering) where
  -- the items before low are below the key, those from high on above it, and halving what is
  -- between keeps the count in bounds
  pub record IsWindow (items : List K) (key : K) (low high start counted : ℕ) : Type 0 where
    pub ordered : low ≤ high
    pub within : high ≤ length items
    pub fits : length items < 2 ^ 64
    pub before : AllWithin (λ y. order y key ≡ Less) items 0 low
    pub after : AllWithin (λ y. order y key ≡ Greater) items high (length items)
    pub at_least : start ≤ counted
    pub at_most : counted + digits (high - low) ≤ start + digits (length items)

  module _ (o : IsTotalOrder order) (items : List K) (key : K) (ascends : IsAscending order items) (i : ℕ) (x : K) (within : i < length items) (read : x ≡ get_or items i x) where
    -- with an item that is below the key, all before it are
    pub below_through : order x key ≡ Less → AllWithin (λ y. order y key ≡ Less) items 0 (i + 1)
    below_through less k d low high =
        let at : x ≡ get_or items i d = get_or_read_under items i (length items) x d read within refl in
        ⊎_elim
        (λ same. ap (λ j. order (get_or items j d) key) same ∙ ap (λ y. order y key) (sym at) ∙ less)
        (λ other.
        let before : k < i = omega arith in
        Less-trans o (get_or items k d) (get_or items i d) key (ascends k i d before within) (ap (λ y. order y key) (sym at) ∙ less))
        (cases_eq k i)

    -- with an item that is above the key, all after it are
    pub above_from : order x key ≡ Greater → AllWithin (λ y. order y key ≡ Greater) items i (length items)
    above_from greater k d low high =
        let at : x ≡ get_or items i d = get_or_read_under items i (length items) x d read within refl in
        ⊎_elim
        (λ same. ap (λ j. order (get_or items j d) key) same ∙ ap (λ y. order y key) (sym at) ∙ greater)
        (λ other.
        let after : i < k = omega arith in
        Greater-trans o (get_or items k d) (get_or items i d) key
        (Greater-from_less o (get_or items i d) (get_or items k d) (ascends i k d after high))
        (ap (λ y. order y key) (sym at) ∙ greater))
        (cases_eq k i)

    -- a window narrows to what is after an item that is below the key, for one more comparison
    pub IsWindow-after : (low high start counted counted_next : ℕ) → order x key ≡ Less → low ≤ i → i < high → high - (i + 1) ≤ (high - low) / 2 → counted_next ≡ counted + 1 → IsWindow items key low high start counted → IsWindow items key (i + 1) high start counted_next
    IsWindow-after low high start counted counted_next less from to half one w = record {
      ordered = omega arith;
      within = w.within;
      fits = w.fits;
      before = below_through less;
      after = w.after;
      at_least = omega arith;
      at_most = omega (arith, digits-half (high - (i + 1)) (high - low) (omega arith) half);
    }

    -- a window narrows to what is before an item that is above the key, for one more comparison
    pub IsWindow-before : (low high start counted counted_next : ℕ) → order x key ≡ Greater → low ≤ i → i < high → i - low ≤ (high - low) / 2 → counted_next ≡ counted + 1 → IsWindow items key low high start counted → IsWindow items key low i start counted_next
    IsWindow-before low high start counted counted_next greater from to half one w = record {
      ordered = from;
      within = omega arith;
      fits = w.fits;
      before = w.before;
      after = above_from greater;
      at_least = omega arith;
      at_most = omega (arith, digits-half (i - low) (high - low) (omega arith) half);
    }
