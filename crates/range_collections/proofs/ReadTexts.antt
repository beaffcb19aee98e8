-- Texts of ranges in bytes: which fronts begin one, and what may follow.
use Rattle.std.proofs.Common.{◌≡◌, ◌≢◌, refl, sym, ap, ap₂, subst, ◌∙◌, ℕ, suc, ◌<◌, ◌≤◌, ◌==◌, Bool, true, false, cond, ◌&&◌, ◌||◌, List, [], ◌∷◌, ◌++◌, length, get_or, map, arith, tests, Option, Some, None, inl, inr, ◌⊎◌}
use Rattle.std.specs.Char.{is_whitespace, IsScalar, encode_utf8}
use Rattle.std.specs.List.{AllByRecursion, list_all, onto_first}
use Rattle.std.specs.Option.{is_some, option_and_then}
use Rattle.std.specs.Str.{all_scalars, encode_utf8_all, trim, trim_start, trim_end, skip_leading_whitespace, drop_trailing_whitespace}
use Rattle.std.proofs.lemmas.Bool.{cases_lt}
use Rattle.std.proofs.lemmas.Bool.Decides.{eqb_tells}
use Rattle.std.proofs.lemmas.List.{append-nil}
use Rattle.std.proofs.lemmas.List.Splits.{slice_split-cons_yes, slice_split-cons_no}
use Rattle.std.proofs.lemmas.Str.{chars-encodes, encodes-append, encode_ascii, inside_one, char_from_byte, length-encode, len_utf8_bounds}
use Rattle.std.proofs.Math.ListN.{length-append}
use Rattle.range_collections.specs.ParseErrors.{BeginsRanges, MayFollow}
use Rattle.range_collections.specs.Reading.{any_number, range_of, range_in, is_ranges, parts_of}
use Rattle.range_collections.specs.Scanning.{kind_of, after}
use Rattle.range_collections.specs.declared.parse.Kind.{Kind}
use Rattle.range_collections.specs.declared.parse.Kind.TheVariants.{Blank, Comma, Dot, Sign, Digit, Other}
use Rattle.range_collections.specs.declared.parse.State.{State}
use Rattle.range_collections.specs.declared.parse.State.TheVariants.{First, Start, StartSign, InStart, OneDot, EndSign}
use Rattle.range_collections.proofs.ReadRange.{IsOfKind, has_kind, follow, within, ends_range, is_range}
use Rattle.range_collections.proofs.ReadRanges.{ends_part, between_blanks, start_part, first_part, ends, ends_by_parts}

-- a range in bytes

high_stops : (b : ℕ) (state : State) → 128 ≤ b → within state (kind_of b) ≡ None
high_stops b state high = go (kind_of b) (has_kind b) where
  go : (kind : Kind) → IsOfKind b kind → within state kind ≡ None
  go Blank h = refl
  go Comma h = refl
  go Other h = refl
  go Dot h = let e = h.dot in absurd (grind (arith, tests))
  go Sign h = let e = h.sign in absurd (grind (arith, tests))
  go Digit h = let e = h.digit in absurd (grind (arith, tests))

same_follow : (o : Option State) (f g : State → Bool) → ((state : State) → f state ≡ g state) → follow o f ≡ follow o g
same_follow None f g h = refl
same_follow (Some state) f g h = h state

high_first : (bs rest : List ℕ) (c : ℕ) (state : State) → bs ≡ encode_utf8 c ++ rest → 128 ≤ c → ends_range bs state ≡ false
high_first [] rest c state e high = absurd (omega (arith, ap length e, length-append (encode_utf8 c) rest, length-encode c, (len_utf8_bounds c).0))
high_first (b ∷ bs) rest c state e high =
    elim (cases_lt b 128) as (λ _. ends_range (b ∷ bs) state ≡ false) [
      | inl low ↦ absurd (omega (arith, char_from_byte (b ∷ bs) rest c e low (omega arith)))
      | inr high ↦ ap (λ o. follow o (ends_range bs)) (high_stops b state high)
    ]

range_in_bytes : (cs : List ℕ) (state : State) → ends_range (encode_utf8_all cs) state ≡ ends_range cs state
range_in_bytes [] state = refl
range_in_bytes (c ∷ cs) state = go (range_in_bytes cs) (cases_lt c 128) where
  go : ((q : State) → ends_range (encode_utf8_all cs) q ≡ ends_range cs q) → (c < 128) ⊎ (128 ≤ c) → ends_range (encode_utf8_all (c ∷ cs)) state ≡ ends_range (c ∷ cs) state
  go h (inl low) =
      ap (λ w. ends_range (w ++ encode_utf8_all cs) state) (encode_ascii c low)
      ∙ same_follow (within state (kind_of c)) (ends_range (encode_utf8_all cs)) (ends_range cs) h
  go h (inr high) =
      high_first (encode_utf8_all (c ∷ cs)) (encode_utf8_all cs) c state refl high ∙ sym (ap (λ o. follow o (ends_range cs)) (high_stops c state high))

-- the parts in bytes

abbrev IsNoComma : ℕ → Type 0
IsNoComma b = (b == 44) ≡ false

by_index : (w : List ℕ) → ((k : ℕ) → k < length w → IsNoComma (get_or w k 0)) → AllByRecursion IsNoComma w
by_index [] h = tt
by_index (b ∷ w) h = (h 0 (omega arith), by_index w (λ k l. h (suc k) (omega arith)))

no_comma_within : (c : ℕ) → (c == 44) ≡ false → AllByRecursion IsNoComma (encode_utf8 c)
no_comma_within c e = by_index (encode_utf8 c) at where
  at : (k : ℕ) → k < length (encode_utf8 c) → IsNoComma (get_or (encode_utf8 c) k 0)
  at k l =
      elim (eqb_tells (get_or (encode_utf8 c) k 0) 44) as (λ _. IsNoComma (get_or (encode_utf8 c) k 0)) [
        | inl same ↦
            let one : c ≡ get_or (encode_utf8 c) k 0 = inside_one c [] (encode_utf8 c) k (sym (append-nil (encode_utf8 c))) l (omega (arith, same.1)) in
            let here : (44 == 44) ≡ false = subst (λ b. (b == 44) ≡ false) (one ∙ same.1) e in
            cc
        | inr other ↦ other.0
      ]

abbrev onto : List ℕ → List (List ℕ) → List (List ℕ)
onto [] parts = parts
onto (b ∷ w) parts = onto_first b (onto w parts)

onto_part : (w part : List ℕ) (parts : List (List ℕ)) → onto w (part ∷ parts) ≡ (w ++ part) ∷ parts
onto_part [] part parts = refl
onto_part (b ∷ w) part parts = ap (onto_first b) (onto_part w part parts)

parts_onto : (w bs : List ℕ) → AllByRecursion IsNoComma w → parts_of (w ++ bs) ≡ onto w (parts_of bs)
parts_onto [] bs h = refl
parts_onto (b ∷ w) bs h = slice_split-cons_no (λ b. b == 44) b (w ++ bs) h.0 ∙ ap (onto_first b) (parts_onto w bs h.1)

parts_in_bytes : (cs : List ℕ) → parts_of (encode_utf8_all cs) ≡ map encode_utf8_all (parts_of cs)
parts_in_bytes [] = refl
parts_in_bytes (c ∷ cs) = go (parts_in_bytes cs) (first_part cs) (eqb_tells c 44) where
  go : parts_of (encode_utf8_all cs) ≡ map encode_utf8_all (parts_of cs) → (part : List ℕ) × (parts : List (List ℕ)) × (parts_of cs ≡ part ∷ parts) →
      (((c == 44) ≡ true) × (c ≡ 44)) ⊎ (((c == 44) ≡ false) × (c ≢ 44)) → parts_of (encode_utf8_all (c ∷ cs)) ≡ map encode_utf8_all (parts_of (c ∷ cs))
  go h split (inl same) =
      ap (λ w. parts_of (w ++ encode_utf8_all cs)) (encode_ascii c (omega (arith, same.1)))
      ∙ slice_split-cons_yes (λ b. b == 44) c (encode_utf8_all cs) same.0 ∙ ap (λ ps. [] ∷ ps) h
      ∙ sym (ap (map encode_utf8_all) (slice_split-cons_yes (λ b. b == 44) c cs same.0))
  go h split (inr other) =
      parts_onto (encode_utf8 c) (encode_utf8_all cs) (no_comma_within c other.0) ∙ ap (onto (encode_utf8 c)) (h ∙ ap (map encode_utf8_all) split.2)
      ∙ onto_part (encode_utf8 c) (encode_utf8_all split.0) (map encode_utf8_all split.1)
      ∙ sym (ap (map encode_utf8_all) (slice_split-cons_no (λ b. b == 44) c cs other.0 ∙ ap (onto_first c) split.2))

-- blanks in bytes

and_left : (a b : Bool) → (a && b) ≡ true → a ≡ true
and_left true b e = refl
and_left false b e = e

and_right : (a b : Bool) → (a && b) ≡ true → b ≡ true
and_right true b e = e
and_right false b e = cc

skipped_scalars : (cs : List ℕ) → all_scalars cs ≡ true → all_scalars (skip_leading_whitespace cs) ≡ true
skipped_scalars [] h = refl
skipped_scalars (c ∷ cs) h = go (is_whitespace c) (skipped_scalars cs (and_right _ _ h)) where
  go : (b : Bool) → all_scalars (skip_leading_whitespace cs) ≡ true → all_scalars (cond b (skip_leading_whitespace cs) (c ∷ cs)) ≡ true
  go true k = k
  go false k = h

trim_in_bytes : (cs : List ℕ) → all_scalars cs ≡ true → trim (encode_utf8_all cs) ≡ encode_utf8_all (between_blanks cs)
unfolding trim_start trim_end
trim_in_bytes cs h =
    ap (λ ds. trim_end (encode_utf8_all (skip_leading_whitespace ds))) (chars-encodes cs h)
    ∙ ap (λ ds. encode_utf8_all (drop_trailing_whitespace ds)) (chars-encodes (skip_leading_whitespace cs) (skipped_scalars cs h))

abbrev AreScalars : List ℕ → Type 0
AreScalars cs = all_scalars cs ≡ true

one_more_scalar : (c : ℕ) (cs : List ℕ) → IsScalar c → AreScalars cs → AreScalars (c ∷ cs)
one_more_scalar c cs h k = ap₂ (λ a b. a && b) h k

onto_scalars : (c : ℕ) (cs : List ℕ) → AreScalars (c ∷ cs) → (parts : List (List ℕ)) → AllByRecursion AreScalars parts → AllByRecursion AreScalars (onto_first c parts)
onto_scalars c cs h [] k = (one_more_scalar c [] (and_left _ _ h) refl, tt)
onto_scalars c cs h (part ∷ parts) k = (one_more_scalar c part (and_left _ _ h) k.0, k.1)

parts_scalars : (cs : List ℕ) → AreScalars cs → AllByRecursion AreScalars (parts_of cs)
parts_scalars [] h = (refl, tt)
parts_scalars (c ∷ cs) h = go (c == 44) (parts_scalars cs (and_right _ _ h)) where
  go : (b : Bool) → AllByRecursion AreScalars (parts_of cs) → AllByRecursion AreScalars (cond b ([] ∷ parts_of cs) (onto_first c (parts_of cs)))
  go true k = (refl, k)
  go false k = onto_scalars c cs h (parts_of cs) k

part_in_bytes : (part : List ℕ) → AreScalars part → is_some (range_in any_number (encode_utf8_all part)) ≡ ends_part part Start
unfolding range_in
part_in_bytes part h =
    ap (λ w. is_some (range_of any_number w)) (trim_in_bytes part h) ∙ sym (is_range (encode_utf8_all (between_blanks part)))
    ∙ range_in_bytes (between_blanks part) Start ∙ sym (start_part part)

all_in_bytes : (parts : List (List ℕ)) → AllByRecursion AreScalars parts →
    list_all (λ part. is_some (range_in any_number part)) (map encode_utf8_all parts) ≡ list_all (λ p. ends_part p Start) parts
all_in_bytes [] h = refl
all_in_bytes (part ∷ parts) h = ap₂ (λ a b. a && b) (part_in_bytes part h.0) (all_in_bytes parts h.1)

not_zero : (n : ℕ) → 0 < n → (n == 0) ≡ false
not_zero n h =
    elim (eqb_tells n 0) as (λ _. (n == 0) ≡ false) [
      | inl same ↦ absurd (omega (arith, same.1))
      | inr other ↦ other.0
    ]

empty_in_bytes : (cs : List ℕ) → (length (encode_utf8_all cs) == 0) ≡ (length cs == 0)
empty_in_bytes [] = refl
empty_in_bytes (c ∷ cs) =
    not_zero (length (encode_utf8_all (c ∷ cs))) (omega (arith, length-append (encode_utf8 c) (encode_utf8_all cs), length-encode c, (len_utf8_bounds c).0))
    ∙ sym (not_zero (length (c ∷ cs)) (omega arith))

-- a text of ranges is one whose characters go on to its end
pub text_ends : (cs : List ℕ) → AreScalars cs → is_ranges any_number (encode_utf8_all cs) ≡ ends cs First
unfolding is_ranges
text_ends cs h =
    ap (λ w. (length w == 0) || list_all (λ part. is_some (range_in any_number part)) (parts_of (encode_utf8_all cs))) (trim_in_bytes cs h)
    ∙ ap₂ (λ a b. a || b) (empty_in_bytes (between_blanks cs))
    (ap (list_all (λ part. is_some (range_in any_number part))) (parts_in_bytes cs) ∙ all_in_bytes (parts_of cs) (parts_scalars cs h))
    ∙ sym (ends_by_parts cs)

-- fronts

-- the state after the characters, if they may stand after a state
abbrev pub state_after : List ℕ → State → Option State
state_after [] state = Some state
state_after (c ∷ cs) state = option_and_then (state_after cs) (after state (kind_of c))

followed_on : (o : Option State) (f : State → Option State) (g h : State → Bool) → ((state : State) → g state ≡ follow (f state) h) → follow o g ≡ follow (option_and_then f o) h
followed_on None f g h e = refl
followed_on (Some state) f g h e = e state

pub ends_on : (cs ds : List ℕ) (state : State) → ends (cs ++ ds) state ≡ follow (state_after cs state) (ends ds)
ends_on [] ds state = refl
ends_on (c ∷ cs) ds state = followed_on (after state (kind_of c)) (state_after cs) (ends (cs ++ ds)) (ends ds) (ends_on cs ds)

and_then_on : (o : Option State) (f g h : State → Option State) → ((state : State) → f state ≡ option_and_then h (g state)) → option_and_then f o ≡ option_and_then h (option_and_then g o)
and_then_on None f g h e = refl
and_then_on (Some state) f g h e = e state

pub state_on : (cs ds : List ℕ) (state : State) → state_after (cs ++ ds) state ≡ option_and_then (state_after ds) (state_after cs state)
state_on [] ds state = refl
state_on (c ∷ cs) ds state = and_then_on (after state (kind_of c)) (state_after (cs ++ ds)) (state_after cs) (state_after ds) (state_on cs ds)

pub more_scalars : (cs ds : List ℕ) → AreScalars cs → AreScalars ds → AreScalars (cs ++ ds)
more_scalars [] ds h k = k
more_scalars (c ∷ cs) ds h k = one_more_scalar c (cs ++ ds) (and_left _ _ h) (more_scalars cs ds (and_right _ _ h) k)

-- characters that lead from a state to the end
abbrev rest_from : State → List ℕ
rest_from First = []
rest_from Start = 48 ∷ 46 ∷ 46 ∷ []
rest_from StartSign = 48 ∷ 46 ∷ 46 ∷ []
rest_from InStart = 46 ∷ 46 ∷ []
rest_from OneDot = 46 ∷ []
rest_from EndSign = 48 ∷ []
rest_from _ = []

rest_ends : (state : State) → ends (rest_from state) state ≡ true
rest_ends First = refl
rest_ends _ = refl

rest_scalars : (state : State) → AreScalars (rest_from state)
rest_scalars First = refl
rest_scalars _ = refl

pub begins : (cs : List ℕ) (state : State) → AreScalars cs → state_after cs First ≡ Some state → BeginsRanges (encode_utf8_all cs)
begins cs state h e =
    record {
      is_text = (cs, (h, refl));
      rest = encode_utf8_all (rest_from state);
      rest_is_text = (rest_from state, (rest_scalars state, refl));
      are_ranges =
          ap (is_ranges any_number) (sym (encodes-append cs (rest_from state))) ∙ text_ends (cs ++ rest_from state) (more_scalars cs (rest_from state) h (rest_scalars state))
          ∙ ends_on cs (rest_from state) First ∙ ap (λ o. follow o (ends (rest_from state))) e ∙ rest_ends state;
    }

pub stops : (cs : List ℕ) → AreScalars cs → state_after cs First ≡ None → ¬ (BeginsRanges (encode_utf8_all cs))
stops cs h e b =
    let ds : List ℕ = b.rest_is_text.0 in
    let none : is_ranges any_number (encode_utf8_all cs ++ b.rest) ≡ false =
    ap (λ w. is_ranges any_number (encode_utf8_all cs ++ w)) (sym b.rest_is_text.1.1) ∙ ap (is_ranges any_number) (sym (encodes-append cs ds))
    ∙ text_ends (cs ++ ds) (more_scalars cs ds h b.rest_is_text.1.0) ∙ ends_on cs ds First ∙ ap (λ o. follow o (ends ds)) e
    in
    let both : true ≡ false = sym b.are_ranges ∙ none in
    cc

-- what may follow a front

front_on : (cs : List ℕ) (c : ℕ) → c < 128 → encode_utf8_all (cs ++ c ∷ []) ≡ encode_utf8_all cs ++ c ∷ []
front_on cs c low = encodes-append cs (c ∷ []) ∙ ap (λ w. encode_utf8_all cs ++ w) (append-nil (encode_utf8 c) ∙ encode_ascii c low)

one_more : (cs : List ℕ) (c : ℕ) (state : State) → state_after cs First ≡ Some state → state_after (cs ++ c ∷ []) First ≡ option_and_then (λ q. Some q) (after state (kind_of c))
one_more cs c state e = state_on cs (c ∷ []) First ∙ ap (option_and_then (state_after (c ∷ []))) e

pub may : (cs : List ℕ) (c : ℕ) (state next : State) → AreScalars cs → state_after cs First ≡ Some state → c < 128 → IsScalar c → after state (kind_of c) ≡ Some next → MayFollow (encode_utf8_all cs) c
may cs c state next h e low scalar k =
    subst BeginsRanges (front_on cs c low)
    (begins (cs ++ c ∷ []) next (more_scalars cs (c ∷ []) h (ap (λ t. t && true) scalar)) (one_more cs c state e ∙ ap (option_and_then (λ q. Some q)) k))

pub may_not : (cs : List ℕ) (c : ℕ) (state : State) → AreScalars cs → state_after cs First ≡ Some state → c < 128 → IsScalar c → after state (kind_of c) ≡ None → ¬ (MayFollow (encode_utf8_all cs) c)
may_not cs c state h e low scalar k b =
    stops (cs ++ c ∷ []) (more_scalars cs (c ∷ []) h (ap (λ t. t && true) scalar)) (one_more cs c state e ∙ ap (option_and_then (λ q. Some q)) k)
    (subst BeginsRanges (sym (front_on cs c low)) b)
