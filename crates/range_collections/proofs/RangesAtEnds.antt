-- The ranges of a list of boundaries, taken from the end, and the first and the last of them.
use Rattle.std.proofs.Common.{◌≡◌, refl, sym, ap, ◌∙◌, ◌<◌, ◌%◌, List, [], ◌∷◌, ◌++◌, length, arith, Option, Some, None, append_assoc, length-append, MatchOption}
use Rattle.std.specs.List.{last_or}
use Rattle.std.specs.Borrow.{Bor}
use Rattle.std.specs.Iterator.{YieldsLastBy}
use Rattle.range_collections.specs.Ranges.{ranges_of, range_now}
use Rattle.range_collections.specs.declared.range_set_range.RangeSetRange.{RangeSetRange}
use Rattle.range_collections.specs.declared.range_set_range.RangeSetRange.TheVariants.{Range, RangeFrom}

module _ {K : Type 0} where
  -- an even number of boundaries at the start has its own ranges
  pub ranges_of-append : (xs ys : List K) → length xs % 2 ≡ 0 → ranges_of (xs ++ ys) ≡ ranges_of xs ++ ranges_of ys
  ranges_of-append [] ys even = refl
  ranges_of-append (x ∷ []) ys even = absurd (omega (arith, even))
  ranges_of-append (x ∷ y ∷ rest) ys even =
      ap (λ rs. Range (record { start = x; end = y }) ∷ rs) (ranges_of-append rest ys (omega (arith, even)))

  -- the last boundary alone has no end
  pub ranges_of-last_one : (items before : List K) (last : K) → items ≡ before ++ last ∷ [] → length before % 2 ≡ 0 →
      ranges_of items ≡ ranges_of before ++ RangeFrom (record { start = last }) ∷ []
  ranges_of-last_one items before last is even = ap ranges_of is ∙ ranges_of-append before (last ∷ []) even

  -- the last two boundaries are a range
  pub ranges_of-last_two : (items before rest : List K) (start last : K) → items ≡ before ++ last ∷ [] → before ≡ rest ++ start ∷ [] → length rest % 2 ≡ 0 →
      ranges_of items ≡ ranges_of rest ++ Range (record { start = start; end = last }) ∷ []
  ranges_of-last_two items before rest start last is was even =
      ap ranges_of (is ∙ ap (λ xs. xs ++ last ∷ []) was ∙ append_assoc rest (start ∷ []) (last ∷ []))
      ∙ ranges_of-append rest (start ∷ last ∷ []) even

module _ {X : Type 0} where
  pub last_or-append : (o : Option X) (xs : List X) (x : X) → last_or o (xs ++ x ∷ []) ≡ Some x
  last_or-append o [] x = refl
  last_or-append o (y ∷ ys) x = last_or-append (Some y) ys x

  pub shorter-append : (all rest : List X) (x : X) → all ≡ rest ++ x ∷ [] → length rest < length all
  shorter-append all rest x is = omega (arith, ap length is, length-append rest (x ∷ []))

module _ {K : Type 0} where
  pub nil-from_ranges : (items : List K) → ranges_of items ≡ [] → items ≡ []
  nil-from_ranges [] e = refl
  nil-from_ranges (x ∷ []) e = cc
  nil-from_ranges (x ∷ y ∷ rest) e = cc

  -- what a call from the end gave is the last range
  pub MatchOption-last : (items from to : List K) (r : Option (RangeSetRange (Bor K))) → from ≡ items → YieldsLastBy range_now ranges_of from r to →
      MatchOption r (items ≡ []) (λ range. last_or None (ranges_of items) ≡ Some (range_now range))
  MatchOption-last items from to None is h = nil-from_ranges items (sym (ap ranges_of is) ∙ h.0)
  MatchOption-last items from to (Some range) is h =
      ap (last_or None) (sym (ap ranges_of is) ∙ h) ∙ last_or-append None (ranges_of to) (range_now range)
