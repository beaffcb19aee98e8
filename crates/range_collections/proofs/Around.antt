-- The range whose start stands before a place.
use Rattle.std.proofs.Common.{◌≡◌, sym, ap, ◌∙◌, ℕ, zero, suc, ◌+◌, ◌-◌, ◌≤◌, ◌<◌, List, [], ◌∷◌, length, drop, map, get_or, option_copied, Option, None, Some, MatchOption, IsSome, arith, refl}
use Rattle.std.specs.Borrow.{Bor}
use Rattle.std.proofs.lemmas.List.{get_or-map}
use Rattle.std.proofs.lemmas.Option.{none-some, same_Some}
use Rattle.std.specs.Iterator.{YieldsFirstBy}
use Rattle.range_collections.specs.Ranges.{ranges_of, range_now}
use Rattle.range_collections.specs.declared.range_set_range.RangeSetRange.{RangeSetRange}
use Rattle.range_collections.specs.declared.range_set_range.RangeSetRange.TheVariants.{Range, RangeFrom}

module _ {K : Type 0} where
  drop-item : (xs : List K) (n : ℕ) (x : K) → n < length xs → x ≡ get_or xs n x → drop n xs ≡ x ∷ drop (suc n) xs
  drop-item [] n x within read = absurd (omega arith)
  drop-item (y ∷ ys) zero x within read = ap (λ z. z ∷ ys) (sym read)
  drop-item (y ∷ ys) (suc n) x within read = drop-item ys n x (omega arith) read

  drop-past : (n : ℕ) (xs : List K) → length xs ≤ n → drop n xs ≡ []
  drop-past zero [] le = refl
  drop-past (suc n) [] le = refl
  drop-past zero (x ∷ xs) le = absurd (omega (arith, le))
  drop-past (suc n) (x ∷ xs) le = drop-past n xs (omega (arith, le))

  module _ (xs : List K) (n : ℕ) (start : K) (some : 0 < n) (within : n ≤ length xs) (first : (d : K) → start ≡ get_or xs (n - 1) d) where
    from-start : drop (n - 1) xs ≡ start ∷ drop n xs
    from-start =
        let one : suc (n - 1) ≡ n = omega (arith, some) in
        drop-item xs (n - 1) start (omega (arith, some, within)) (first start) ∙ ap (λ k. start ∷ drop k xs) one

    pub ranges_of-two : (end : K) → n < length xs → ((d : K) → end ≡ get_or xs n d) →
        ranges_of (drop (n - 1) xs) ≡ Range (record { start = start; end = end }) ∷ ranges_of (drop (n + 1) xs)
    ranges_of-two end more last =
        let next : suc n ≡ n + 1 = omega arith in
        ap ranges_of (from-start ∙ ap (λ ys. start ∷ ys) (drop-item xs n end more (last end) ∙ ap (λ k. end ∷ drop k xs) next))

    pub ranges_of-one : length xs ≤ n → ranges_of (drop (n - 1) xs) ≡ RangeFrom (record { start = start }) ∷ ranges_of (drop (n + 1) xs)
    ranges_of-one none =
        ap ranges_of (from-start ∙ ap (λ ys. start ∷ ys) (drop-past n xs none))
        ∙ ap (λ ys. RangeFrom (record { start = start }) ∷ ranges_of ys) (sym (drop-past (n + 1) xs (omega (arith, none))))

  -- the item before a place: at the front there is none
  pub item-before : (xs : List K) (n : ℕ) (r : Option (Bor K)) → n ≤ length xs → option_copied r ≡ get_or (None ∷ map Some xs) n None →
      MatchOption r (n ≡ 0) (λ x. (0 < n) × ((d : K) → x.now ≡ get_or xs (n - 1) d))
  item-before xs zero None within e = refl
  item-before xs zero (Some y) within e = absurd (none-some y.now (sym e))
  item-before [] (suc n) r within e = absurd (omega (arith, within))
  item-before (x ∷ xs) (suc n) None within e = absurd (none-some (get_or (x ∷ xs) n x) (e ∙ get_or-map Some (x ∷ xs) n x None (omega (arith, within))))
  item-before (x ∷ xs) (suc n) (Some y) within e =
      let one : n ≡ suc n - 1 = omega arith in (
        omega arith,
        λ d. same_Some y.now (get_or (x ∷ xs) n d) (e ∙ get_or-map Some (x ∷ xs) n d None (omega (arith, within))) ∙ ap (λ k. get_or (x ∷ xs) k d) one,
      )

  -- before a place that isn't the front there is an item, so the range around it is there
  module _ (n : ℕ) (ys zs : List K) where
    pub first-around : (r : Option (RangeSetRange (Bor K))) → 0 < n → MatchOption r (n ≡ 0) (λ range. ranges_of ys ≡ range_now range ∷ ranges_of zs) → YieldsFirstBy range_now ranges_of ys r zs
    first-around None some h = absurd (omega (arith, some, h))
    first-around (Some range) some h = h

    pub is_some-around : (r : Option (RangeSetRange (Bor K))) → 0 < n → MatchOption r (n ≡ 0) (λ range. ranges_of ys ≡ range_now range ∷ ranges_of zs) → IsSome r
    is_some-around None some h = absurd (omega (arith, some, h))
    is_some-around (Some range) some h = refl
