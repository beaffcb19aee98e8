-- Texts of ranges whose ends are printed in a way that is known: all whole numbers, and characters
-- where they are ASCII.
use Rattle.std.proofs.Common.{◌≡◌, refl, ap, ℕ, Bool, true, false, cond, ◌&&◌, List, [], ◌∷◌, Option, Some, None, IfSome}
use Rattle.std.specs.Char.{is_ascii}
use Rattle.std.specs.Fmt.{debug_char}
use Rattle.std.specs.List.{list_all}
use Rattle.std.proofs.lemmas.List.Elements.{All-nil, All-cons}
use Rattle.range_collections.specs.Ranges.{ranges_of, range_ends, AllEnds}
use Rattle.range_collections.specs.Text.{IsText, AreTexts, quoted, if_ascii}
use Rattle.range_collections.specs.declared.range_set_range.RangeSetRange.{RangeSetRange}
use Rattle.range_collections.specs.declared.range_set_range.RangeSetRange.TheVariants.{Range, RangeFrom}

and-true : (p q : Bool) → (p && q) ≡ true → (p ≡ true) × (q ≡ true)
and-true true true e = (refl, refl)
and-true true false e = absurd (cc)
and-true false q e = absurd (cc)

module _ {K : Type 0} (output : K → Option (List ℕ)) (text : K → List ℕ) (all : (x : K) → IsText output text x) where
  pub IsText-range : (range : RangeSetRange K) → AllEnds (IsText output text) range
  IsText-range (Range r) = (all r.start, all r.end)
  IsText-range (RangeFrom r) = all r.start

  pub AreTexts-all : (ranges : List (RangeSetRange K)) → AreTexts output text ranges
  AreTexts-all [] = All-nil (AllEnds (IsText output text))
  AreTexts-all (r ∷ ranges) = All-cons (AllEnds (IsText output text)) r ranges (IsText-range r) (AreTexts-all ranges)

IsText-quoted : (c : ℕ) → is_ascii c ≡ true → IsText debug_char quoted c
IsText-quoted c h = ap (λ b. cond b (Some (quoted c)) None) h

pub IsText-ascii_range : (range : RangeSetRange ℕ) → list_all is_ascii (range_ends range) ≡ true → AllEnds (IsText debug_char quoted) range
IsText-ascii_range (Range r) h =
    let both = and-true (is_ascii r.start) (list_all is_ascii (r.end ∷ [])) h in
    (IsText-quoted r.start both.0, IsText-quoted r.end (and-true (is_ascii r.end) true both.1).0)
IsText-ascii_range (RangeFrom r) h = IsText-quoted r.start (and-true (is_ascii r.start) true h).0

pub AreTexts-ascii : (items : List ℕ) → list_all is_ascii items ≡ true → AreTexts debug_char quoted (ranges_of items)
AreTexts-ascii [] h = All-nil (AllEnds (IsText debug_char quoted))
AreTexts-ascii (x ∷ []) h =
    All-cons (AllEnds (IsText debug_char quoted)) (RangeFrom (record { start = x })) [] (IsText-quoted x (and-true (is_ascii x) true h).0)
    (All-nil (AllEnds (IsText debug_char quoted)))
AreTexts-ascii (x ∷ y ∷ rest) h =
    let one = and-true (is_ascii x) (list_all is_ascii (y ∷ rest)) h in
    let two = and-true (is_ascii y) (list_all is_ascii rest) one.1 in
    All-cons (AllEnds (IsText debug_char quoted)) (Range (record { start = x; end = y })) (ranges_of rest)
    (IsText-quoted x one.0, IsText-quoted y two.0) (AreTexts-ascii rest two.1)

-- what holds of the text where the characters are ASCII holds of the text that is known
pub IfSome-ascii : (characters text : List ℕ) (P : List ℕ → Type 0) → (list_all is_ascii characters ≡ true → P text) → IfSome (if_ascii characters text) P
IfSome-ascii characters text P h = by_truth (list_all is_ascii characters) h
  where
    by_truth : (b : Bool) → (b ≡ true → P text) → IfSome (cond b (Some text) None) P
    by_truth true k = k refl
    by_truth false k = tt
