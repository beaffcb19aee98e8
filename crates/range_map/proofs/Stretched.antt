-- The stretch around a key: from the last key of the map at or below it up to the next one.
use Rattle.std.proofs.Common.{◌≡◌, ℕ, ◌+◌, ◌-◌, ◌<◌, ◌≤◌, ◌⊎◌, ◌&&◌, zero, suc, inl, inr, Bool, true, false, None, Some, Option, List, [], ◌∷◌, length, get_or, slice_get, map, refl, sym, ap, ap₂, ◌∙◌, option_copied, arith, true≢false}
use Rattle.std.proofs.lemmas.Bool.{cases_lt}
use Rattle.std.proofs.lemmas.List.{get_or_default, get_or-map}
use Rattle.std.specs.List.{AllWithin}
use Rattle.std.specs.Option.{option_eq, IsSome}
use Rattle.std.specs.Borrow.{Bor}
use Rattle.std.specs.Cmp.{IsTotalOrder, IsEquivalence}
use Rattle.std.specs.Cmp.Lexicographic.{options_equiv}
use Rattle.std.proofs.lemmas.Cmp.{tied_itself}
use Rattle.std.specs.declared.cmp.Ordering.{Ordering}
use Rattle.std.specs.declared.cmp.Ordering.TheVariants.{Less, Greater}
use Rattle.std.specs.Ordering.{is_le, is_lt}
use Rattle.range_merge.specs.Boundaries.{IsAscending}
use Rattle.range_merge.proofs.Orders.{Greater-from_less, Less-from_greater, Equal-self}
use Rattle.range_collections.proofs.Ascending.{Less-from_is_lt}
use Rattle.range_collections.proofs.CountUpTo.{count_up_to-split, count_up_to-found}
use Rattle.range_collections.proofs.Shortest.{is_le-cases, le-trans, le-from_greater, Less-from_le, Less-then_le}
use Rattle.range_map.specs.Steps.{Steps, value_at, AreAlike, IsCanonical}
use Rattle.range_map.specs.Changed.{is_before_end}
use Rattle.range_map.specs.Stretches.{is_from_start, IsBetween, IsStretch}
use Rattle.range_map.proofs.UpToEnd.{not_before}

pub by_bool : {G : Type 0} (c : Bool) → (c ≡ true → G) → (c ≡ false → G) → G
by_bool true t f = t refl
by_bool false t f = f refl

module _ {K : Type 0} (order : K → K → Ordering) (o : IsTotalOrder order) (ks : List K) (up : IsAscending order ks) where
  -- the keys up to one at or below z are at or below it
  pub up_to-last : (i : ℕ) (d z : K) → i < length ks → is_le (order (get_or ks i d) z) ≡ true → AllWithin (λ y. is_le (order y z) ≡ true) ks 0 (i + 1)
  up_to-last i d z within h j f low high =
      elim (cases_lt j i) as (λ _. is_le (order (get_or ks j f) z) ≡ true) [
        | inl less ↦
            ap is_le (Less-then_le o (get_or ks j f) (get_or ks i f) z (up j i f less within) (ap (λ k. is_le (order k z)) (get_or_default ks i f d within) ∙ h))
        | inr more ↦
            let same : j ≡ i = omega (arith, more, high) in
            rw same (ap (λ k. is_le (order k z)) (get_or_default ks i f d within) ∙ h)
      ]

  -- the keys from one above z on are above it
  pub from-first : (i : ℕ) (d z : K) → i < length ks → order (get_or ks i d) z ≡ Greater → AllWithin (λ y. order y z ≡ Greater) ks i (length ks)
  from-first i d z within h j f low high =
      let here : order (get_or ks i f) z ≡ Greater = ap (λ k. order k z) (get_or_default ks i f d within) ∙ h in
      elim (cases_lt i j) as (λ _. order (get_or ks j f) z ≡ Greater) [
        | inl less ↦
            Greater-from_less o z (get_or ks j f) (o.trans z (get_or ks i f) (get_or ks j f) (Less-from_greater o (get_or ks i f) z here) (up i j f less high))
        | inr more ↦ let same : j ≡ i = omega (arith, more, low) in rw same here
      ]

pub both : (b c : Bool) → (b && c) ≡ true → (b ≡ true) × (c ≡ true)
both true true h = (refl, refl)
both true false h = absurd (true≢false (sym h))
both false c h = absurd (true≢false (sym h))

-- an item at a place, or none
pub slice_get-cases : {X : Type 0} (xs : List X) (n : ℕ) →
    ((x : X) × (n < length xs) × (slice_get xs n ≡ Some x) × (get_or xs n x ≡ x)) ⊎ ((length xs ≤ n) × (slice_get xs n ≡ None))
slice_get-cases [] n = inr (omega arith, refl)
slice_get-cases (x ∷ xs) zero = inl (x, omega arith, refl, refl)
slice_get-cases (x ∷ xs) (suc n) =
    elim (slice_get-cases xs n) [
      | inl k ↦ inl (k.0, omega (arith, k.1), k.2, k.3)
      | inr none ↦ inr (omega (arith, none.0), none.1)
    ]

-- what was read is there
pub some-read : {X : Type 0} (r : Option (Bor X)) (x : X) → option_copied r ≡ Some x → IsSome r
some-read None x h = absurd (cc)
some-read (Some y) x h = refl

-- the key before a place
pub start_from : {K : Type 0} (n : ℕ) (ks : List K) (r : Option K) → r ≡ get_or (None ∷ map Some ks) n None → n ≤ length ks →
    (n ≡ 0 → r ≡ None) × (0 < n → (s : K) × (r ≡ Some s) × (get_or ks (n - 1) s ≡ s))
start_from zero ks r h within = (λ _. h, λ some. absurd (omega (arith, some)))
start_from (suc n) ks r h within =
    let one : suc n - 1 ≡ n = omega arith in (
      λ none. absurd (omega (arith, none)),
      λ _. elim (slice_get-cases ks n) [
        | inl k ↦ (k.0, h ∙ get_or-map Some ks n k.0 None k.1 ∙ ap Some k.3, ap (λ m. get_or ks m k.0) one ∙ k.3)
        | inr none ↦ absurd (omega (arith, none.0, within))
      ],
    )

module _ {K V : Type 0} (order : K → K → Ordering) (o : IsTotalOrder order) (E : V → V → Bool) (e : IsEquivalence E)
    (m : Steps K V) (canonical : IsCanonical order E m) where
  -- the option before place n
  abbrev pub option_before : ℕ → Option V
  option_before n = get_or (None ∷ m.options) n None

  -- the option before place n holds where the keys before it, and no others, are at or below
  pub value_at-place : (z : K) (n : ℕ) → n ≤ length m.keys → AllWithin (λ y. is_le (order y z) ≡ true) m.keys 0 n →
      AllWithin (λ y. order y z ≡ Greater) m.keys n (length m.keys) → value_at order m z ≡ option_before n
  value_at-place z n within before from = ap option_before (count_up_to-split order z m.keys n within before from)

  -- at a key of the map holds its own option
  pub value_at-key : (i : ℕ) (d : K) → i < length m.keys → value_at order m (get_or m.keys i d) ≡ option_before (i + 1)
  value_at-key i d within =
      let k : K = get_or m.keys i d in
      ap option_before
      (count_up_to-found order o k m.keys i canonical.ascending within
      (λ f. ap (λ y. order y k) (get_or_default m.keys i f d within) ∙ Equal-self o k))

  -- neighbours differ
  pub neighbours : (n : ℕ) → n < length m.keys → option_eq E (option_before n) (option_before (n + 1)) ≡ false
  neighbours n within = canonical.changes n None (omega (arith, within, canonical.one_each))

  module _ (x : K) (n : ℕ) (within : n ≤ length m.keys) (before : AllWithin (λ y. is_le (order y x) ≡ true) m.keys 0 n)
      (from : AllWithin (λ y. order y x ≡ Greater) m.keys n (length m.keys)) where
    -- the options from x up to y are like that of x
    abbrev AllAlike : K → Type 0
    AllAlike y = (z : K) → IsBetween order x z y → AreAlike E (value_at order m z) (value_at order m x)

    pub at_x : value_at order m x ≡ option_before n
    at_x = value_at-place x n within before from

    off_below : (z : K) → 0 < n → value_at order m z ≡ option_before (n - 1) → AreAlike E (value_at order m z) (value_at order m x) → ⊥
    off_below z some at alike =
        let one : n - 1 + 1 ≡ n = omega (arith, some) in
        absurd (true≢false (sym alike ∙ ap₂ (option_eq E) at (at_x ∙ ap option_before (sym one)) ∙ neighbours (n - 1) (omega (arith, some, within))))

    off_above : (z : K) → n < length m.keys → value_at order m z ≡ option_before (n + 1) → AreAlike E (value_at order m z) (value_at order m x) → ⊥
    off_above z more at alike =
        absurd (true≢false (sym alike ∙ ap₂ (option_eq E) at at_x ∙ (options_equiv e).symm (option_before (n + 1)) (option_before n) ∙ neighbours n more))

    -- below the last key at or below x, another option is met
    below_start : (s y : K) → 0 < n → get_or m.keys (n - 1) s ≡ s → order y s ≡ Less → AllAlike y → ⊥
    below_start s y some key less all =
        elim (cases_lt 1 n) as (λ _. ⊥) [
          | inl two ↦
              let k : K = get_or m.keys (n - 2) s in
              let k_in : n - 2 < length m.keys = omega (arith, two, within) in
              let one : n - 2 + 1 ≡ n - 1 = omega (arith, two) in
              let k_below : order k s ≡ Less = ap (order k) (sym key) ∙ canonical.ascending (n - 2) (n - 1) s (omega (arith, two)) (omega (arith, within, two)) in
              is_le-cases (order k y)
              (λ h. at_y (rw (← one) (up_to-last order o m.keys canonical.ascending (n - 2) s y k_in h)))
              (λ h. off_below k some (value_at-key (n - 2) s k_in ∙ ap option_before one)
              (all k (inr (le-from_greater o k y h, ap is_le (Less-then_le o k s x k_below s_x)))))
          | inr one ↦ at_y (λ i d low high. absurd (omega (arith, high, one, some)))
        ]
      where
        s_x : is_le (order s x) ≡ true
        s_x = ap (λ k. is_le (order k x)) (sym key) ∙ before (n - 1) s (omega arith) (omega (arith, some))

        at_y : AllWithin (λ k. is_le (order k y) ≡ true) m.keys 0 (n - 1) → ⊥
        at_y upto =
            off_below y some
            (value_at-place y (n - 1) (omega (arith, within)) upto
            (from-first order o m.keys canonical.ascending (n - 1) s y (omega (arith, some, within)) (ap (λ k. order k y) key ∙ Greater-from_less o y s less)))
            (all y (inr (ap is_le (tied_itself o y), ap is_le (Less-then_le o y s x less s_x))))

    -- from the first key above x on, another option is met
    above_end : (k y : K) → n < length m.keys → get_or m.keys n k ≡ k → is_le (order k y) ≡ true → AllAlike y → ⊥
    above_end k y more key h all =
        off_above k more (ap (value_at order m) (sym key) ∙ value_at-key n k more)
        (all k (inl (ap is_le (Less-from_greater o k x (ap (λ l. order l x) (sym key) ∙ from n k (omega arith) more)), h)))

    from_start_on : (start : Option K) (y z : K) → is_from_start order start y ≡ true → is_le (order y z) ≡ true → is_from_start order start z ≡ true
    from_start_on None y z h l = refl
    from_start_on (Some s) y z h l = le-trans o s y z h l

    before_end_on : (end : Option K) (z y : K) → is_before_end order end y ≡ true → is_le (order z y) ≡ true → is_before_end order end z ≡ true
    before_end_on None z y h l = refl
    before_end_on (Some s) z y h l = ap is_lt (Less-from_le o z y s l (Less-from_is_lt (order y s) h))

    module _ (start end : Option K) (start_is : (n ≡ 0 → start ≡ None) × (0 < n → (s : K) × (start ≡ Some s) × (get_or m.keys (n - 1) s ≡ s))) (end_is : end ≡ slice_get m.keys n) where
      -- the keys in the stretch have as many keys of the map at or below them
      in_stretch : (z : K) → is_from_start order start z ≡ true → is_before_end order end z ≡ true → value_at order m z ≡ option_before n
      in_stretch z h l = value_at-place z n within (upto h) (above l)
        where
          upto : is_from_start order start z ≡ true → AllWithin (λ y. is_le (order y z) ≡ true) m.keys 0 n
          upto h =
              elim (cases_lt 0 n) as (λ _. AllWithin (λ y. is_le (order y z) ≡ true) m.keys 0 n) [
                | inl some ↦
                    let s = start_is.1 some in
                    let one : n - 1 + 1 ≡ n = omega (arith, some) in
                    let at : is_le (order s.0 z) ≡ true = rw s.1 at h in
                    rw (← one) (up_to-last order o m.keys canonical.ascending (n - 1) s.0 z (omega (arith, some, within)) (ap (λ k. is_le (order k z)) s.2 ∙ at))
                | inr none ↦ λ i d low high. absurd (omega (arith, none, high))
              ]

          above : is_before_end order end z ≡ true → AllWithin (λ y. order y z ≡ Greater) m.keys n (length m.keys)
          above l =
              elim (slice_get-cases m.keys n) as (λ _. AllWithin (λ y. order y z ≡ Greater) m.keys n (length m.keys)) [
                | inl k ↦
                    let less : is_lt (order z k.0) ≡ true = rw (end_is, k.2) at l in
                    from-first order o m.keys canonical.ascending n k.0 z k.1
                    (ap (λ y. order y z) k.3 ∙ Greater-from_less o z k.0 (Less-from_is_lt (order z k.0) less))
                | inr none ↦ λ i d low high. absurd (omega (arith, none.0, low, high))
              ]

      -- where a key isn't in the stretch, another option is met on the way to it
      out_below : (y : K) → is_from_start order start y ≡ false → AllAlike y → ⊥
      out_below y out all =
          elim (cases_lt 0 n) as (λ _. ⊥) [
            | inl some ↦
                let s = start_is.1 some in
                let off : is_le (order s.0 y) ≡ false = rw s.1 at out in
                is_le-cases (order s.0 y) (λ h. absurd (true≢false (sym h ∙ off)))
                (λ g. below_start s.0 y some s.2 (Less-from_greater o s.0 y g) all)
            | inr none ↦
                let off : true ≡ false = rw (start_is.0 (omega (arith, none))) at out in
                absurd (true≢false off)
          ]

      out_above : (y : K) → is_before_end order end y ≡ false → AllAlike y → ⊥
      out_above y out all =
          elim (slice_get-cases m.keys n) as (λ _. ⊥) [
            | inl k ↦
                let off : is_lt (order y k.0) ≡ false = rw (end_is, k.2) at out in
                above_end k.0 y k.1 k.3 (not_before order o y k.0 off) all
            | inr none ↦
                let off : true ≡ false = rw (end_is, none.1) at out in
                absurd (true≢false off)
          ]

      between : (y z : K) → is_from_start order start x ≡ true → is_before_end order end x ≡ true →
          is_from_start order start y ≡ true → is_before_end order end y ≡ true → IsBetween order x z y →
          (is_from_start order start z ≡ true) × (is_before_end order end z ≡ true)
      between y z sx ex sy ey (inl b) = (from_start_on start x z sx b.0, before_end_on end z y ey b.1)
      between y z sx ex sy ey (inr b) = (from_start_on start y z sy b.0, before_end_on end z x ex b.1)

      x_from : is_from_start order start x ≡ true
      x_from =
          elim (cases_lt 0 n) as (λ _. is_from_start order start x ≡ true) [
            | inl some ↦
                let s = start_is.1 some in
                rw s.1 (ap (λ k. is_le (order k x)) (sym s.2) ∙ before (n - 1) s.0 (omega arith) (omega (arith, some)))
            | inr none ↦ rw (start_is.0 (omega (arith, none))) refl
          ]

      x_before : is_before_end order end x ≡ true
      x_before =
          elim (slice_get-cases m.keys n) as (λ _. is_before_end order end x ≡ true) [
            | inl k ↦
                rw (end_is, k.2) (ap is_lt (Less-from_greater o k.0 x (ap (λ y. order y x) (sym k.3) ∙ from n k.0 (omega arith) k.1)))
            | inr none ↦ rw (end_is, none.1) refl
          ]

      pub IsStretch-around : IsStretch order E m x start end
      IsStretch-around y = (
        λ inside z b.
            let i = both (is_from_start order start y) (is_before_end order end y) inside in
            let at = between y z x_from x_before i.0 i.1 b in
            ap₂ (option_eq E) (in_stretch z at.0 at.1) at_x ∙ (options_equiv e).refl (option_before n),
        λ all.
            by_bool (is_from_start order start y)
            (λ s. by_bool (is_before_end order end y) (λ l. ap₂ (λ b c. b && c) s l) (λ l. absurd (out_above y l all)))
            (λ s. absurd (out_below y s all)),
      )
