-- A loop that moves each item that differs from the one kept last to the front leaves what `dedup`
-- does.
use Rattle.std.proofs.Common.{◌≡◌, refl, sym, ap, ap₂, ◌∙◌, ℕ, ◌<◌, ◌≤◌, ◌+◌, ◌-◌, Bool, true, false, cond, List, [], ◌∷◌, ◌++◌, length, get_or, set, take, drop, arith, append_assoc, get_or-set_same}
use Rattle.std.specs.List.{dedup, dedup_from}
use Rattle.std.proofs.lemmas.List.{drop_more, drop_all, take_more, take-set, drop-set-lt}

module _ {X : Type 0} (E : X → X → Bool) where
  -- the items kept but the last one, and what the last one and the items from i on leave
  abbrev pub left_by : List X → ℕ → ℕ → X → List X
  left_by items kept i d = take (kept - 1) items ++ dedup_from E (get_or items (kept - 1) d) (drop i items)

  pub left_by-first : (items : List X) (d : X) → 0 < length items → left_by items 1 1 d ≡ dedup E items
  left_by-first [] d h = absurd (omega arith)
  left_by-first (x ∷ xs) d h = refl

  -- the item at i is a repeat
  pub left_by-repeat : (items : List X) (kept i : ℕ) (x d : X) → kept ≤ i → i < length items → x ≡ get_or items i x →
      E x (get_or items (kept - 1) d) ≡ true → left_by items kept (i + 1) d ≡ left_by items kept i d
  left_by-repeat items kept i x d front inside is same =
      let k = get_or items (kept - 1) d in
      ap (λ us. take (kept - 1) items ++ us)
      (sym (ap (λ b. cond b (dedup_from E k (drop (i + 1) items)) (k ∷ dedup_from E x (drop (i + 1) items))) same)
      ∙ sym (ap (dedup_from E k) (drop_more items i x inside ∙ ap (λ y. y ∷ drop (i + 1) items) (sym is))))

  -- the item at i is another
  pub left_by-other : (items : List X) (kept i : ℕ) (x d : X) → 0 < kept → kept ≤ i → i < length items → x ≡ get_or items i x →
      E x (get_or items (kept - 1) d) ≡ false → left_by (set items kept x) (kept + 1) (i + 1) d ≡ left_by items kept i d
  left_by-other items kept i x d some front inside is differs =
      let k = get_or items (kept - 1) d in
      let rest = dedup_from E x (drop (i + 1) items) in
      let within : kept < length items = omega (arith, front, inside) in
      let one : (kept + 1) - 1 ≡ kept = omega arith in
      let back : (kept - 1) + 1 ≡ kept = omega (arith, some) in
      let kept_so : take kept (set items kept x) ≡ take (kept - 1) items ++ k ∷ [] =
      take-set items kept x ∙ sym (ap (λ n. take n items) back) ∙ take_more items (kept - 1) d (omega (arith, some, within)) in
      ap (λ n. take n (set items kept x) ++ dedup_from E (get_or (set items kept x) n d) (drop (i + 1) (set items kept x))) one
      ∙ ap₂ (λ us vs. us ++ vs) kept_so
      (ap₂ (dedup_from E) (get_or-set_same items kept x d within) (drop-set-lt (i + 1) items kept x (omega (arith, front))))
      ∙ append_assoc (take (kept - 1) items) (k ∷ []) rest
      ∙ ap (λ us. take (kept - 1) items ++ us)
      (sym (ap (λ b. cond b (dedup_from E k (drop (i + 1) items)) (k ∷ rest)) differs)
      ∙ sym (ap (dedup_from E k) (drop_more items i x inside ∙ ap (λ y. y ∷ drop (i + 1) items) (sym is))))

  pub left_by-all : (items : List X) (kept i : ℕ) (d : X) → 0 < kept → kept ≤ length items → length items ≤ i → left_by items kept i d ≡ take kept items
  left_by-all items kept i d some within past =
      let back : (kept - 1) + 1 ≡ kept = omega (arith, some) in
      ap (λ us. take (kept - 1) items ++ dedup_from E (get_or items (kept - 1) d) us) (drop_all i items past)
      ∙ sym (take_more items (kept - 1) d (omega (arith, some, within)))
      ∙ ap (λ n. take n items) back
