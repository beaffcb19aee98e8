-- Where a text stops being one of ranges, by the characters before it.
use Rattle.std.proofs.Common.{◌≡◌, refl, sym, ap, ap₂, subst, ◌∙◌, ℕ, ◌+◌, ◌<◌, ◌≤◌, Bool, true, false, ◌&&◌, List, [], ◌∷◌, ◌++◌, length, take, drop, append_assoc, length-append, arith, Some, None}
use Rattle.std.specs.Char.{encode_utf8}
use Rattle.std.specs.Option.{option_and_then}
use Rattle.std.specs.Str.{IsUtf8, all_scalars, chars, encode_utf8_all}
use Rattle.std.proofs.Math.Seq.{take-append_seam}
use Rattle.std.proofs.lemmas.List.{append-nil, length-take-le, take-append-drop}
use Rattle.std.proofs.lemmas.Str.{encodes-append, encode_same, cons_from_encodes, encodes-chars, scalars-chars, length-encode, len_utf8_bounds}
use Rattle.range_collections.specs.ParseErrors.{BeginsRanges, IsExpected, IsFaultIn}
use Rattle.range_collections.specs.Reading.{any_number, is_ranges}
use Rattle.range_collections.specs.Scanning.{kind_of, is_end, expected, after}
use Rattle.range_collections.specs.declared.parse.Expected.{Expected}
use Rattle.range_collections.specs.declared.parse.ParseError.TheVariants.{Malformed}
use Rattle.range_collections.specs.declared.parse.State.{State}
use Rattle.range_collections.specs.declared.parse.State.TheVariants.{First, Start, StartSign, InStart, OneDot, End, EndSign, InEnd, After}
use Rattle.range_collections.proofs.ReadRange.{follow}
use Rattle.range_collections.proofs.ReadTexts.{text_ends, state_after, state_on, ends_on, begins, stops, may, may_not}
use Rattle.range_collections.proofs.ReadRanges.{ends}

-- the characters of the text before byte `at` lead to the state, and the rest is left
pub record IsReadTo (text rest : List ℕ) (at : ℕ) (state : State) : Type 0 where
  pub done : List ℕ
  pub left : List ℕ
  pub split : chars text ≡ done ++ left
  pub spells : encode_utf8_all left ≡ rest
  pub ends_at : at ≡ length (encode_utf8_all done)
  pub leads_to : state_after done First ≡ Some state

pub nothing_read : (text : List ℕ) → IsUtf8 text → IsReadTo text text 0 First
nothing_read text h = record { done = []; left = chars text; split = refl; spells = encodes-chars text h; ends_at = refl; leads_to = refl }

length_one : (c : ℕ) → length (encode_utf8_all (c ∷ [])) ≡ length (encode_utf8 c)
length_one c = ap length (append-nil (encode_utf8 c))

pub one_read : (text rest later : List ℕ) (at next : ℕ) (c : ℕ) (state later_state : State) → IsReadTo text rest at state → rest ≡ encode_utf8 c ++ later → next ≡ at + length (encode_utf8 c) →
    Some later_state ≡ after state (kind_of c) → IsReadTo text later next later_state
one_read text rest later at next c state later_state h e n k =
    let more = cons_from_encodes h.left later c (h.spells ∙ e) in
    record {
      done = h.done ++ c ∷ [];
      left = more.0;
      split = h.split ∙ ap (λ w. h.done ++ w) more.1 ∙ sym (append_assoc h.done (c ∷ []) more.0);
      spells = more.2;
      ends_at =
          n ∙ ap (λ m. m + length (encode_utf8 c)) h.ends_at ∙ ap (λ m. length (encode_utf8_all h.done) + m) (sym (length_one c))
          ∙ sym (length-append (encode_utf8_all h.done) (encode_utf8_all (c ∷ []))) ∙ ap length (sym (encodes-append h.done (c ∷ [])));
      leads_to = state_on h.done (c ∷ []) First ∙ ap (option_and_then (state_after (c ∷ []))) h.leads_to ∙ ap (option_and_then (λ q. Some q)) (sym k);
    }

-- the front that was read

ends_here : (done : List ℕ) (state : State) → state_after done First ≡ Some state → ends done First ≡ is_end state
ends_here done state e = ap (λ w. ends w First) (sym (append-nil done)) ∙ ends_on done [] First ∙ ap (λ o. follow o (ends [])) e

front_scalars : (cs ds : List ℕ) → all_scalars (cs ++ ds) ≡ true → all_scalars cs ≡ true
front_scalars [] ds h = refl
front_scalars (c ∷ cs) ds h = go _ (front_scalars cs ds) h where
  go : (b : Bool) → (all_scalars (cs ++ ds) ≡ true → all_scalars cs ≡ true) → (b && all_scalars (cs ++ ds)) ≡ true → (b && all_scalars cs) ≡ true
  go true f h = f h
  go false f h = h

-- a longer front goes on with the character after it
goes_on : (ds done rest later : List ℕ) (c : ℕ) → encode_utf8_all ds ++ later ≡ encode_utf8_all done ++ (encode_utf8 c ++ rest) →
    length (encode_utf8_all done) < length (encode_utf8_all ds) → (es : List ℕ) × (ds ≡ done ++ c ∷ es)
goes_on [] [] rest later c e l = absurd (omega arith)
goes_on [] (d ∷ done) rest later c e l = absurd (omega arith)
goes_on (b ∷ ds) [] rest later c e l =
    let same = encode_same b c (encode_utf8_all ds ++ later) rest (sym (append_assoc (encode_utf8 b) (encode_utf8_all ds) later) ∙ e) in
    (ds, ap (λ x. x ∷ ds) same.0)
goes_on (b ∷ ds) (d ∷ done) rest later c e l =
    let same = encode_same b d (encode_utf8_all ds ++ later) (encode_utf8_all done ++ (encode_utf8 c ++ rest))
    (sym (append_assoc (encode_utf8 b) (encode_utf8_all ds) later) ∙ e ∙ append_assoc (encode_utf8 d) (encode_utf8_all done) (encode_utf8 c ++ rest))
    in
    let shorter : length (encode_utf8_all done) < length (encode_utf8_all ds) =
    omega (arith, length-append (encode_utf8 b) (encode_utf8_all ds), length-append (encode_utf8 d) (encode_utf8_all done), ap (λ x. length (encode_utf8 x)) same.0)
    in
    let more = goes_on ds done rest later c same.1 shorter in
    (more.0, ap₂ (λ x xs. x ∷ xs) same.0 more.1)

-- what may follow, state by state
expected_after : (done : List ℕ) (state : State) → all_scalars done ≡ true → state_after done First ≡ Some state → IsExpected (encode_utf8_all done) (expected state)
expected_after done First h e =
    (may done 48 First InStart h e (omega arith) refl refl, may_not done 46 First h e (omega arith) refl refl, λ _. may done 43 First StartSign h e (omega arith) refl refl)
expected_after done Start h e =
    (may done 48 Start InStart h e (omega arith) refl refl, may_not done 46 Start h e (omega arith) refl refl, λ _. may done 43 Start StartSign h e (omega arith) refl refl)
expected_after done StartSign h e = (
  may done 48 StartSign InStart h e (omega arith) refl refl,
  may_not done 46 StartSign h e (omega arith) refl refl,
  λ k. absurd (may_not done 44 StartSign h e (omega arith) refl refl k),
)
expected_after done InStart h e = may done 46 InStart OneDot h e (omega arith) refl refl
expected_after done OneDot h e = may done 46 OneDot End h e (omega arith) refl refl
expected_after done End h e =
    (may done 48 End InEnd h e (omega arith) refl refl, may_not done 46 End h e (omega arith) refl refl, λ _. may done 43 End EndSign h e (omega arith) refl refl)
expected_after done EndSign h e = (
  may done 48 EndSign InEnd h e (omega arith) refl refl,
  may_not done 46 EndSign h e (omega arith) refl refl,
  λ k. absurd (may_not done 44 EndSign h e (omega arith) refl refl k),
)
expected_after done InEnd h e =
    (may done 44 InEnd Start h e (omega arith) refl refl, text_ends done h ∙ ends_here done InEnd e, may_not done 43 InEnd h e (omega arith) refl refl)
expected_after done After h e =
    (may done 44 After Start h e (omega arith) refl refl, text_ends done h ∙ ends_here done After e, may_not done 43 After h e (omega arith) refl refl)

module _ (text rest : List ℕ) (at : ℕ) (state : State) (utf8 : IsUtf8 text) (h : IsReadTo text rest at state) where
  scalars : all_scalars h.done ≡ true
  scalars = front_scalars h.done h.left (ap all_scalars (sym h.split) ∙ scalars-chars text utf8)

  parts : text ≡ encode_utf8_all h.done ++ rest
  parts = sym (encodes-chars text utf8) ∙ ap encode_utf8_all h.split ∙ encodes-append h.done h.left ∙ ap (λ w. encode_utf8_all h.done ++ w) h.spells

  front : take at text ≡ encode_utf8_all h.done
  front = ap₂ take h.ends_at parts ∙ take-append_seam (encode_utf8_all h.done) rest

  whole : is_ranges any_number text ≡ follow (Some state) (ends h.left)
  whole =
      ap (is_ranges any_number) (sym (encodes-chars text utf8)) ∙ text_ends (chars text) (scalars-chars text utf8) ∙ ap (λ w. ends w First) h.split
      ∙ ends_on h.done h.left First ∙ ap (λ o. follow o (ends h.left)) h.leads_to

  within_text : at ≤ length text
  within_text = omega (arith, h.ends_at, ap length parts, length-append (encode_utf8_all h.done) rest)

  front_begins : BeginsRanges (take at text)
  front_begins = subst BeginsRanges (sym front) (begins h.done state scalars h.leads_to)

  expected_there : (e : Expected) → e ≡ expected state → IsExpected (take at text) e
  expected_there e k = subst (λ x. IsExpected (take at text) x) (sym k) (subst (λ w. IsExpected w (expected state)) (sym front) (expected_after h.done state scalars h.leads_to))

  longer_begins : (later : List ℕ) (c n : ℕ) → rest ≡ encode_utf8 c ++ later → None ≡ after state (kind_of c) → at < n → n ≤ length text → ¬ (BeginsRanges (take n text))
  longer_begins later c n e k above most b =
      let ds : List ℕ = b.is_text.0 in
      let spelt : encode_utf8_all ds ≡ take n text = b.is_text.1.1 in
      let more = goes_on ds h.done later (drop n text) c
      (ap (λ w. w ++ drop n text) spelt ∙ take-append-drop n text ∙ parts ∙ ap (λ w. encode_utf8_all h.done ++ w) e)
      (omega (arith, h.ends_at, ap length spelt, length-take-le n text most))
      in
      stops ds b.is_text.1.0
      (ap (λ w. state_after w First) more.1 ∙ state_on h.done (c ∷ more.0) First ∙ ap (option_and_then (state_after (c ∷ more.0))) h.leads_to
      ∙ ap (option_and_then (state_after more.0)) (sym k))
      (subst BeginsRanges (sym spelt) b)

  -- a character that may not stand there
  pub fault_there : (later : List ℕ) (c : ℕ) (e : Expected) → rest ≡ encode_utf8 c ++ later → None ≡ after state (kind_of c) → e ≡ expected state → IsFaultIn text (Malformed at e)
  fault_there later c e r k x =
      let more = cons_from_encodes h.left later c (h.spells ∙ r) in (
        whole ∙ ap (λ w. ends w state) more.1 ∙ ap (λ o. follow o (ends more.0)) (sym k),
        record { within = within_text; begins = front_begins; longest = λ n above most. longer_begins later c n r k above most },
        expected_there e x,
      )

-- at the end of the text
module _ (text rest : List ℕ) (at : ℕ) (state : State) (utf8 : IsUtf8 text) (h : IsReadTo text rest at state) (none : length rest ≡ 0) where
  no_rest : (ds : List ℕ) → encode_utf8_all ds ≡ rest → ds ≡ []
  no_rest [] e = refl
  no_rest (d ∷ ds) e = absurd (omega (arith, none, ap length e, length-append (encode_utf8 d) (encode_utf8_all ds), length-encode d, (len_utf8_bounds d).0))

  pub whole_text : is_ranges any_number text ≡ is_end state
  whole_text = whole text rest at state utf8 h ∙ ap (λ w. ends w state) (no_rest h.left h.spells)

  at_end : at ≡ length text
  at_end = omega (arith, h.ends_at, none, ap length (parts text rest at state utf8 h), length-append (encode_utf8_all h.done) rest)

  pub fault_at_end : (e : Expected) → is_end state ≡ false → e ≡ expected state → IsFaultIn text (Malformed (length text) e)
  fault_at_end e k x =
      subst (λ n. IsFaultIn text (Malformed n e)) at_end (
        whole_text ∙ k,
        record { within = within_text text rest at state utf8 h; begins = front_begins text rest at state utf8 h; longest = λ n above most. absurd (omega (arith, at_end, above, most)) },
        expected_there text rest at state utf8 h e x,
      )
