-- The ends of ranges as they stand in a list behind its first number.
use Rattle.std.proofs.Common.{◌≡◌, refl, sym, ap, ◌∙◌, ℕ, List, [], ◌∷◌, ◌++◌, append_assoc, codes}
use Rattle.std.specs.Prelude.{decimal, flat_map}
use Rattle.range_collections.specs.Ranges.{ranges_of}
use Rattle.range_collections.specs.declared.range_set_range.RangeSetRange.{RangeSetRange}
use Rattle.range_collections.specs.declared.range_set_range.RangeSetRange.TheVariants.{Range, RangeFrom}
use Rattle.std.specs.declared.ops.Range.{Range as Ends}
use Rattle.range_track_answers.specs.Answers.{list_text}

-- a comma and a number
abbrev pub number : ℕ → List ℕ
number n = codes "," ++ decimal n

-- both ends of a range, or its start
abbrev pub ends_of : RangeSetRange ℕ → List ℕ
ends_of (Range ends) = number ends.start ++ number ends.end
ends_of (RangeFrom from) = number from.start

abbrev pub ends_text : List (RangeSetRange ℕ) → List ℕ
ends_text ranges = flat_map ends_of ranges

pub numbers-are_ends : (items : List ℕ) → flat_map number items ≡ ends_text (ranges_of items)
numbers-are_ends [] = refl
numbers-are_ends (x ∷ []) = refl
numbers-are_ends (x ∷ y ∷ rest) =
    ap (λ zs. number x ++ (number y ++ zs)) (numbers-are_ends rest)
    ∙ sym (append_assoc (number x) (number y) (ends_text (ranges_of rest)))

pub list-none : (items : List ℕ) → ranges_of items ≡ [] → list_text items ≡ codes "-"
unfolding list_text
list-none [] e = refl
list-none (x ∷ []) e = cc
list-none (x ∷ y ∷ rest) e = cc

pub list-some : (items : List ℕ) (ends : Ends ℕ) (rs : List (RangeSetRange ℕ)) → ranges_of items ≡ Range ends ∷ rs →
    list_text items ≡ (decimal ends.start ++ (codes "," ++ decimal ends.end)) ++ ends_text rs
unfolding list_text
list-some [] ends rs e = cc
list-some (x ∷ []) ends rs e = cc
list-some (x ∷ y ∷ rest) ends rs e =
    let start : x ≡ ends.start = cc in
    let end : y ≡ ends.end = cc in
    let others : ranges_of rest ≡ rs = cc in
    ap (λ zs. decimal x ++ (number y ++ zs)) (numbers-are_ends rest)
    ∙ sym (append_assoc (decimal x) (number y) (ends_text (ranges_of rest)))
    ∙ ap (λ n. (decimal n ++ number y) ++ ends_text (ranges_of rest)) start
    ∙ ap (λ n. (decimal ends.start ++ number n) ++ ends_text (ranges_of rest)) end
    ∙ ap (λ zs. (decimal ends.start ++ number ends.end) ++ ends_text zs) others
