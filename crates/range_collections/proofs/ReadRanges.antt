-- A text of ranges with numbers of any size, as it is read character by character.
use Rattle.std.proofs.Common.{◌≡◌, refl, sym, ap, ◌∙◌, ℕ, ◌==◌, Bool, true, false, cond, ◌&&◌, ◌||◌, List, [], ◌∷◌, length, arith, Option, Some, None, inl, inr}
use Rattle.std.specs.List.{list_all, onto_first}
use Rattle.std.specs.Option.{is_some}
use Rattle.std.specs.Str.{skip_leading_whitespace, drop_trailing_whitespace}
use Rattle.std.proofs.lemmas.Bool.Decides.{eqb_tells}
use Rattle.range_collections.specs.Reading.{any_number, range_of, parts_of}
use Rattle.range_collections.specs.Scanning.{kind_of, is_range_end, is_end, after}
use Rattle.range_collections.specs.declared.parse.Kind.{Kind}
use Rattle.range_collections.specs.declared.parse.Kind.TheVariants.{Blank, Comma, Dot, Sign, Digit, Other}
use Rattle.range_collections.specs.declared.parse.State.{State}
use Rattle.range_collections.specs.declared.parse.State.TheVariants.{First, Start, End, InEnd, After}
use Rattle.range_collections.proofs.ReadRange.{is_blank, is_comma, has_kind, follow, within, ends_range, is_range}

-- a part between commas

-- the state after a character of a part
abbrev along : State → Kind → Option State
along state Comma = None
along state kind = after state kind

-- the characters go on from the state to the end of a range, or to blanks after one
abbrev pub ends_part : List ℕ → State → Bool
ends_part [] state = is_range_end state
ends_part (c ∷ cs) state = follow (along state (kind_of c)) (ends_part cs)

-- no characters but blanks
abbrev are_blanks : List ℕ → Bool
are_blanks cs = length (drop_trailing_whitespace cs) == 0

trailing : (c : ℕ) (cs : List ℕ) →
    drop_trailing_whitespace (c ∷ cs) ≡ cond (is_blank (kind_of c) && are_blanks cs) [] (c ∷ drop_trailing_whitespace cs)
trailing c cs = ap (λ t. cond (t && are_blanks cs) [] (c ∷ drop_trailing_whitespace cs)) (has_kind c).blank

leading : (c : ℕ) (cs : List ℕ) → skip_leading_whitespace (c ∷ cs) ≡ cond (is_blank (kind_of c)) (skip_leading_whitespace cs) (c ∷ cs)
leading c cs = ap (λ t. cond t (skip_leading_whitespace cs) (c ∷ cs)) (has_kind c).blank

not_empty : (c : ℕ) (cs : List ℕ) → (length (c ∷ cs) == 0) ≡ false
not_empty c cs =
    elim (eqb_tells (length (c ∷ cs)) 0) as (λ _. (length (c ∷ cs) == 0) ≡ false) [
      | inl same ↦ absurd (omega (arith, same.1))
      | inr other ↦ other.0
    ]

more_blanks : (c : ℕ) (cs : List ℕ) → are_blanks (c ∷ cs) ≡ (is_blank (kind_of c) && are_blanks cs)
more_blanks c cs = ap (λ ds. length ds == 0) (trailing c cs) ∙ go (is_blank (kind_of c) && are_blanks cs) where
  go : (b : Bool) → (length (cond b [] (c ∷ drop_trailing_whitespace cs)) == 0) ≡ b
  go true = refl
  go false = not_empty c (drop_trailing_whitespace cs)

after_part : (cs : List ℕ) → ends_part cs After ≡ are_blanks cs
after_part [] = refl
after_part (c ∷ cs) = go (after_part cs) (kind_of c) ∙ sym (more_blanks c cs) where
  go : ends_part cs After ≡ are_blanks cs → (kind : Kind) → follow (along After kind) (ends_part cs) ≡ (is_blank kind && are_blanks cs)
  go h Blank = h
  go h _ = refl

-- the state is inside of a range
abbrev is_inside : State → Bool
is_inside First = false
is_inside Start = false
is_inside After = false
is_inside _ = true

abbrev all_inside : Option State → Bool
all_inside None = true
all_inside (Some state) = is_inside state

within_inside : (state : State) (kind : Kind) → all_inside (within state kind) ≡ true
within_inside state Blank = refl
within_inside state Comma = refl
within_inside state Other = refl
within_inside First Dot = refl
within_inside _ Dot = refl
within_inside First Sign = refl
within_inside _ Sign = refl
within_inside First Digit = refl
within_inside _ Digit = refl

same_inside : (f g : State → Bool) → ((state : State) → is_inside state ≡ true → f state ≡ g state) → (o : Option State) → all_inside o ≡ true → follow o f ≡ follow o g
same_inside f g h None e = refl
same_inside f g h (Some state) e = h state e

-- by the kind of a character that is not blank
no_blank : (kind : Kind) (state : State) → is_blank kind ≡ false → along state kind ≡ within state kind
no_blank Blank state e = cc
no_blank Comma state e = refl
no_blank Dot state e = refl
no_blank Sign state e = refl
no_blank Digit state e = refl
no_blank Other state e = refl

no_range_of_blank : (c : ℕ) (cs : List ℕ) (state : State) → is_blank (kind_of c) ≡ true → ends_range (c ∷ cs) state ≡ false
no_range_of_blank c cs state e = go (kind_of c) e where
  go : (kind : Kind) → is_blank kind ≡ true → follow (within state kind) (ends_range cs) ≡ false
  go Blank e = refl
  go Comma e = refl
  go Dot e = cc
  go Sign e = cc
  go Digit e = cc
  go Other e = refl

and_true : (b : Bool) → (b && true) ≡ b
and_true true = refl
and_true false = refl

and_false : (b : Bool) → (b && false) ≡ false
and_false true = refl
and_false false = refl

blank_inside : (cs : List ℕ) (state : State) → is_inside state ≡ true → follow (along state Blank) (ends_part cs) ≡ (are_blanks cs && is_range_end state)
blank_inside cs First e = cc
blank_inside cs Start e = cc
blank_inside cs After e = cc
blank_inside cs End e = after_part cs ∙ sym (and_true (are_blanks cs))
blank_inside cs InEnd e = after_part cs ∙ sym (and_true (are_blanks cs))
blank_inside cs state e = sym (and_false (are_blanks cs))

inside_part : (cs : List ℕ) (state : State) → is_inside state ≡ true → ends_part cs state ≡ ends_range (drop_trailing_whitespace cs) state
inside_part [] state e = refl
inside_part (c ∷ cs) state e = go (inside_part cs) (kind_of c) refl ∙ ap (λ ds. ends_range ds state) (sym (trailing c cs)) where
  go : ((q : State) → is_inside q ≡ true → ends_part cs q ≡ ends_range (drop_trailing_whitespace cs) q) → (kind : Kind) → kind_of c ≡ kind → follow (along state (kind_of c)) (ends_part cs) ≡
      ends_range (cond (is_blank (kind_of c) && are_blanks cs) [] (c ∷ drop_trailing_whitespace cs)) state
  go h Blank k =
      ap (λ t. follow (along state t) (ends_part cs)) k ∙ blank_inside cs state e ∙ blank (are_blanks cs)
      ∙ ap (λ t. ends_range (cond (is_blank t && are_blanks cs) [] (c ∷ drop_trailing_whitespace cs)) state) (sym k)
    where
      blank : (b : Bool) → (b && is_range_end state) ≡ ends_range (cond b [] (c ∷ drop_trailing_whitespace cs)) state
      blank true = refl
      blank false = sym (no_range_of_blank c (drop_trailing_whitespace cs) state (ap is_blank k))
  go h kind k =
      ap (λ o. follow o (ends_part cs)) (no_blank (kind_of c) state (ap is_blank k))
      ∙ same_inside (ends_part cs) (ends_range (drop_trailing_whitespace cs)) h (within state (kind_of c)) (within_inside state (kind_of c))
      ∙ ap (λ t. ends_range (cond (t && are_blanks cs) [] (c ∷ drop_trailing_whitespace cs)) state) (sym (ap is_blank k))

-- the characters without blanks at both ends
abbrev pub between_blanks : List ℕ → List ℕ
between_blanks cs = drop_trailing_whitespace (skip_leading_whitespace cs)

pub start_part : (cs : List ℕ) → ends_part cs Start ≡ ends_range (between_blanks cs) Start
start_part [] = refl
start_part (c ∷ cs) = go (start_part cs) (kind_of c) refl ∙ ap (λ ds. ends_range (drop_trailing_whitespace ds) Start) (sym (leading c cs)) where
  go : ends_part cs Start ≡ ends_range (between_blanks cs) Start → (kind : Kind) → kind_of c ≡ kind → follow (along Start (kind_of c)) (ends_part cs) ≡
      ends_range (drop_trailing_whitespace (cond (is_blank (kind_of c)) (skip_leading_whitespace cs) (c ∷ cs))) Start
  go h Blank k =
      ap (λ t. follow (along Start t) (ends_part cs)) k ∙ h
      ∙ ap (λ t. ends_range (drop_trailing_whitespace (cond (is_blank t) (skip_leading_whitespace cs) (c ∷ cs))) Start) (sym k)
  go h kind k =
      ap (λ o. follow o (ends_part cs)) (no_blank (kind_of c) Start (ap is_blank k))
      ∙ same_inside (ends_part cs) (ends_range (drop_trailing_whitespace cs)) (inside_part cs) (within Start (kind_of c)) (within_inside Start (kind_of c))
      ∙ ap (λ t. ends_range (cond (t && are_blanks cs) [] (c ∷ drop_trailing_whitespace cs)) Start) (sym (ap is_blank k))
      ∙ ap (λ ds. ends_range ds Start) (sym (trailing c cs))
      ∙ ap (λ t. ends_range (drop_trailing_whitespace (cond t (skip_leading_whitespace cs) (c ∷ cs))) Start) (sym (ap is_blank k))

-- a part is a range between blanks
part_is_range : (cs : List ℕ) → ends_part cs Start ≡ is_some (range_of any_number (between_blanks cs))
part_is_range cs = start_part cs ∙ is_range (between_blanks cs)

-- all parts

-- the characters go on from the state to the end of the text after a range
abbrev ends_ranges : List ℕ → State → Bool
ends_ranges [] state = is_range_end state
ends_ranges (c ∷ cs) state = follow (after state (kind_of c)) (ends_ranges cs)

-- the first part goes on from the state, and each later one is a range
abbrev parts_end : List (List ℕ) → State → Bool
parts_end [] state = false
parts_end (part ∷ parts) state = ends_part part state && list_all (λ p. ends_part p Start) parts

pub first_part : (cs : List ℕ) → (part : List ℕ) × (parts : List (List ℕ)) × (parts_of cs ≡ part ∷ parts)
first_part [] = ([], [], refl)
first_part (c ∷ cs) = go (first_part cs) (c == 44) where
  go : (part : List ℕ) × (parts : List (List ℕ)) × (parts_of cs ≡ part ∷ parts) → (b : Bool) →
      (part : List ℕ) × (parts : List (List ℕ)) × (cond b ([] ∷ parts_of cs) (onto_first c (parts_of cs)) ≡ part ∷ parts)
  go h true = ([], parts_of cs, refl)
  go h false = (c ∷ h.0, h.1, ap (onto_first c) h.2)

follow_and : (o : Option State) (f g : State → Bool) (t : Bool) → ((state : State) → f state ≡ (g state && t)) → follow o f ≡ (follow o g && t)
follow_and None f g t h = refl
follow_and (Some state) f g t h = h state

ranges_by_parts : (cs : List ℕ) (state : State) → ends_ranges cs state ≡ parts_end (parts_of cs) state
ranges_by_parts [] state = sym (and_true (is_range_end state))
ranges_by_parts (c ∷ cs) state =
    let split = first_part cs in
    go (ranges_by_parts cs) split.0 split.1 split.2 (kind_of c) refl ∙ ap (λ t. parts_end (cond t ([] ∷ parts_of cs) (onto_first c (parts_of cs))) state) (sym (has_kind c).comma)
  where
    go : ((q : State) → ends_ranges cs q ≡ parts_end (parts_of cs) q) → (part : List ℕ) (parts : List (List ℕ)) → parts_of cs ≡ part ∷ parts → (kind : Kind) → kind_of c ≡ kind →
        follow (after state (kind_of c)) (ends_ranges cs) ≡ parts_end (cond (is_comma (kind_of c)) ([] ∷ parts_of cs) (onto_first c (parts_of cs))) state
    go h part parts split Comma k =
        ap (λ t. follow (after state t) (ends_ranges cs)) k ∙ comma (is_range_end state)
        ∙ ap (λ t. parts_end (cond (is_comma t) ([] ∷ parts_of cs) (onto_first c (parts_of cs))) state) (sym k)
      where
        comma : (b : Bool) → follow (cond b (Some Start) None) (ends_ranges cs) ≡ (b && list_all (λ p. ends_part p Start) (parts_of cs))
        comma true = h Start ∙ ap (λ ps. parts_end ps Start) split ∙ ap (list_all (λ p. ends_part p Start)) (sym split)
        comma false = refl
    go h part parts split kind k =
        follow_and (after state (kind_of c)) (ends_ranges cs) (ends_part part) (list_all (λ p. ends_part p Start) parts)
        (λ q. h q ∙ ap (λ ps. parts_end ps q) split)
        ∙ ap (λ o. follow o (ends_part part) && list_all (λ p. ends_part p Start) parts) (no_comma (kind_of c) (ap is_comma k))
        ∙ ap (λ ps. parts_end (onto_first c ps) state) (sym split)
        ∙ ap (λ t. parts_end (cond t ([] ∷ parts_of cs) (onto_first c (parts_of cs))) state) (sym (ap is_comma k))
      where
        no_comma : (kind : Kind) → is_comma kind ≡ false → after state kind ≡ along state kind
        no_comma Comma e = cc
        no_comma Blank e = refl
        no_comma Dot e = refl
        no_comma Sign e = refl
        no_comma Digit e = refl
        no_comma Other e = refl

-- the characters go on from the state to the end of a text of ranges
abbrev pub ends : List ℕ → State → Bool
ends [] state = is_end state
ends (c ∷ cs) state = follow (after state (kind_of c)) (ends cs)

-- the state is not at the start of the text
abbrev is_later : State → Bool
is_later First = false
is_later _ = true

abbrev all_later : Option State → Bool
all_later None = true
all_later (Some state) = is_later state

after_later : (state : State) (kind : Kind) → is_later state ≡ true → all_later (after state kind) ≡ true
after_later First kind e = cc
after_later Start Blank e = refl
after_later _ Blank e = refl
after_later Start Comma e = refl
after_later _ Comma e = refl
after_later Start Dot e = refl
after_later _ Dot e = refl
after_later Start Sign e = refl
after_later _ Sign e = refl
after_later Start Digit e = refl
after_later _ Digit e = refl
after_later Start Other e = refl
after_later _ Other e = refl

same_later : (f g : State → Bool) → ((state : State) → is_later state ≡ true → f state ≡ g state) → (o : Option State) → all_later o ≡ true → follow o f ≡ follow o g
same_later f g h None e = refl
same_later f g h (Some state) e = h state e

later_ends : (cs : List ℕ) (state : State) → is_later state ≡ true → ends cs state ≡ ends_ranges cs state
later_ends [] First e = cc
later_ends [] state e = refl
later_ends (c ∷ cs) state e = same_later (ends cs) (ends_ranges cs) (later_ends cs) (after state (kind_of c)) (after_later state (kind_of c) e)

first_ends : (cs : List ℕ) → ends cs First ≡ ((length (between_blanks cs) == 0) || ends_ranges cs Start)
first_ends [] = refl
first_ends (c ∷ cs) = go (first_ends cs) (kind_of c) refl ∙ ap (λ ds. (length (drop_trailing_whitespace ds) == 0) || ends_ranges (c ∷ cs) Start) (sym (leading c cs)) where
  go : ends cs First ≡ ((length (between_blanks cs) == 0) || ends_ranges cs Start) → (kind : Kind) → kind_of c ≡ kind → follow (after First (kind_of c)) (ends cs) ≡
      ((length (drop_trailing_whitespace (cond (is_blank (kind_of c)) (skip_leading_whitespace cs) (c ∷ cs))) == 0) || follow (after Start (kind_of c)) (ends_ranges cs))
  go h Blank k =
      ap (λ t. follow (after First t) (ends cs)) k ∙ h
      ∙ ap (λ t. (length (drop_trailing_whitespace (cond (is_blank t) (skip_leading_whitespace cs) (c ∷ cs))) == 0) || follow (after Start t) (ends_ranges cs)) (sym k)
  go h kind k =
      ap (λ o. follow o (ends cs)) (same (kind_of c) (ap is_blank k))
      ∙ same_later (ends cs) (ends_ranges cs) (later_ends cs) (after Start (kind_of c)) (after_later Start (kind_of c) refl)
      ∙ ap (λ t. t || follow (after Start (kind_of c)) (ends_ranges cs)) (sym (more_blanks c cs ∙ ap (λ t. t && are_blanks cs) (ap is_blank k)))
      ∙ ap (λ t. (length (drop_trailing_whitespace (cond t (skip_leading_whitespace cs) (c ∷ cs))) == 0) || follow (after Start (kind_of c)) (ends_ranges cs)) (sym (ap is_blank k))
    where
      same : (kind : Kind) → is_blank kind ≡ false → after First kind ≡ after Start kind
      same Blank e = cc
      same Comma e = refl
      same Dot e = refl
      same Sign e = refl
      same Digit e = refl
      same Other e = refl

-- in characters, what the text of ranges is in bytes
pub ends_by_parts : (cs : List ℕ) → ends cs First ≡ ((length (between_blanks cs) == 0) || list_all (λ p. ends_part p Start) (parts_of cs))
ends_by_parts cs =
    let split = first_part cs in
    first_ends cs ∙ ap (λ t. (length (between_blanks cs) == 0) || t) (ranges_by_parts cs Start ∙ ap (λ ps. parts_end ps Start) split.2 ∙ ap (list_all (λ p. ends_part p Start)) (sym split.2))
