-- The kinds of characters, and numbers of any size between dots as they are read character by
-- character.
use Rattle.std.proofs.Common.{◌≡◌, refl, sym, ap, subst, ◌∙◌, ℕ, suc, ◌+◌, ◌==◌, Bool, true, false, not, cond, ◌&&◌, ◌||◌, ℤ, List, [], ◌∷◌, length, take, drop, arith, tests, Option, Some, None, inl, inr}
use Rattle.std.specs.Char.{is_whitespace, is_ascii_digit}
use Rattle.std.specs.List.{before_first, after_first, position_or_len}
use Rattle.std.specs.Option.{is_some, option_and_then, option_map}
use Rattle.std.specs.Str.{all_ascii_digits}
use Rattle.std.specs.Str.Parse.{without_leading_sign, signed_digits_value}
use Rattle.std.proofs.lemmas.Bool.Decides.{Decides-ltb, eqb_tells}
use Rattle.range_collections.specs.Reading.{is_numeral, any_number, range_up_to, range_after_dot, range_of}
use Rattle.range_collections.specs.Scanning.{kind_of, is_range_end, after_dot, after_sign, after_digit}
use Rattle.range_collections.specs.declared.parse.Kind.{Kind}
use Rattle.range_collections.specs.declared.parse.Kind.TheVariants.{Blank, Comma, Dot, Sign, Digit, Other}
use Rattle.range_collections.specs.declared.parse.State.{State}
use Rattle.range_collections.specs.declared.parse.State.TheVariants.{Start, StartSign, InStart, OneDot, End, EndSign, InEnd}

-- kinds, by the tests of a character

abbrev pub is_blank : Kind → Bool
is_blank Blank = true
is_blank _ = false

abbrev pub is_comma : Kind → Bool
is_comma Comma = true
is_comma _ = false

abbrev pub is_dot : Kind → Bool
is_dot Dot = true
is_dot _ = false

abbrev pub is_sign : Kind → Bool
is_sign Sign = true
is_sign _ = false

abbrev pub is_digit : Kind → Bool
is_digit Digit = true
is_digit _ = false

-- the tests of a character, of that kind
pub record IsOfKind (c : ℕ) (kind : Kind) : Type 0 where
  pub blank : is_whitespace c ≡ is_blank kind
  pub comma : (c == 44) ≡ is_comma kind
  pub dot : (c == 46) ≡ is_dot kind
  pub sign : (c == 43 || c == 45) ≡ is_sign kind
  pub digit : is_ascii_digit c ≡ is_digit kind

abbrev pick : Bool → Bool → Bool → Bool → Bool → Bool → Kind
pick comma dot plus minus digit blank = cond comma Comma (cond dot Dot (cond (plus || minus) Sign (cond digit Digit (cond blank Blank Other))))

picked : (c : ℕ) → (c == 44) ≡ false → (c == 46) ≡ false → (c == 43) ≡ false → (c == 45) ≡ false → (digit blank : Bool) → is_ascii_digit c ≡ digit → is_whitespace c ≡ blank →
    kind_of c ≡ cond digit Digit (cond blank Blank Other)
picked c comma dot plus minus digit blank e f =
    ap (λ t. pick t (c == 46) (c == 43) (c == 45) (is_ascii_digit c) (is_whitespace c)) comma
    ∙ ap (λ t. pick false t (c == 43) (c == 45) (is_ascii_digit c) (is_whitespace c)) dot
    ∙ ap (λ t. pick false false t (c == 45) (is_ascii_digit c) (is_whitespace c)) plus
    ∙ ap (λ t. pick false false false t (is_ascii_digit c) (is_whitespace c)) minus
    ∙ ap (λ t. pick false false false false t (is_whitespace c)) e ∙ ap (λ t. pick false false false false digit t) f

digit_not_blank : (c : ℕ) → is_ascii_digit c ≡ true → is_whitespace c ≡ false
digit_not_blank c h = grind (arith, tests)

other_kind : (c : ℕ) → (c == 44) ≡ false → (c == 46) ≡ false → (c == 43) ≡ false → (c == 45) ≡ false → (digit blank : Bool) → is_ascii_digit c ≡ digit → is_whitespace c ≡ blank → IsOfKind c (kind_of c)
other_kind c comma dot plus minus true blank e f =
    subst (IsOfKind c) (sym (picked c comma dot plus minus true blank e f))
    (record { blank = digit_not_blank c e; comma = comma; dot = dot; sign = ap (λ t. t || c == 45) plus ∙ minus; digit = e })
other_kind c comma dot plus minus false true e f =
    subst (IsOfKind c) (sym (picked c comma dot plus minus false true e f))
    (record { blank = f; comma = comma; dot = dot; sign = ap (λ t. t || c == 45) plus ∙ minus; digit = e })
other_kind c comma dot plus minus false false e f =
    subst (IsOfKind c) (sym (picked c comma dot plus minus false false e f))
    (record { blank = f; comma = comma; dot = dot; sign = ap (λ t. t || c == 45) plus ∙ minus; digit = e })

pub has_kind : (c : ℕ) → IsOfKind c (kind_of c)
has_kind c =
    elim (eqb_tells c 44) as (λ _. IsOfKind c (kind_of c)) [
      | inl same ↦ subst (λ d. IsOfKind d (kind_of d)) (sym same.1) (record { blank = refl; comma = refl; dot = refl; sign = refl; digit = refl })
      | inr comma ↦ elim (eqb_tells c 46) as (λ _. IsOfKind c (kind_of c)) [
        | inl same ↦ subst (λ d. IsOfKind d (kind_of d)) (sym same.1) (record { blank = refl; comma = refl; dot = refl; sign = refl; digit = refl })
        | inr dot ↦ elim (eqb_tells c 43) as (λ _. IsOfKind c (kind_of c)) [
          | inl same ↦ subst (λ d. IsOfKind d (kind_of d)) (sym same.1) (record { blank = refl; comma = refl; dot = refl; sign = refl; digit = refl })
          | inr plus ↦ elim (eqb_tells c 45) as (λ _. IsOfKind c (kind_of c)) [
            | inl same ↦ subst (λ d. IsOfKind d (kind_of d)) (sym same.1) (record { blank = refl; comma = refl; dot = refl; sign = refl; digit = refl })
            | inr minus ↦ other_kind c comma.0 dot.0 plus.0 minus.0 (is_ascii_digit c) (is_whitespace c) refl refl
          ]
        ]
      ]
    ]

-- a walk of places over a range without blanks

-- what holds of the state, if there is one
abbrev pub follow : Option State → (State → Bool) → Bool
follow None f = false
follow (Some state) f = f state

-- the state after a character within a range
abbrev pub within : State → Kind → Option State
within state Dot = after_dot state
within state Sign = after_sign state
within state Digit = after_digit state
within state _ = None

-- the characters go on from the state to the end of a range
abbrev pub ends_range : List ℕ → State → Bool
ends_range [] state = is_range_end state
ends_range (c ∷ cs) state = follow (within state (kind_of c)) (ends_range cs)

-- by the kind of the first character
by_kind : (c : ℕ) (cs : List ℕ) (state : State) (f : Bool → Bool) → ((kind : Kind) → follow (within state kind) (ends_range cs) ≡ f (is_digit kind)) →
    ends_range (c ∷ cs) state ≡ f (is_ascii_digit c)
by_kind c cs state f h = h (kind_of c) ∙ ap f (sym (has_kind c).digit)

in_end : (cs : List ℕ) → ends_range cs InEnd ≡ all_ascii_digits cs
in_end [] = refl
in_end (c ∷ cs) = by_kind c cs InEnd (λ t. t && all_ascii_digits cs) (go (in_end cs)) where
  go : ends_range cs InEnd ≡ all_ascii_digits cs → (kind : Kind) → follow (within InEnd kind) (ends_range cs) ≡ (is_digit kind && all_ascii_digits cs)
  go h Digit = h
  go h _ = refl

numeral : (c : ℕ) (cs : List ℕ) → is_numeral (c ∷ cs) ≡ (is_ascii_digit c && all_ascii_digits cs)
numeral c cs = ap (λ t. t && all_ascii_digits (c ∷ cs)) ((Decides-ltb 0 (suc (length cs))).1 (omega arith))

end_sign : (cs : List ℕ) → ends_range cs EndSign ≡ is_numeral cs
end_sign [] = refl
end_sign (c ∷ cs) = by_kind c cs EndSign (λ t. t && all_ascii_digits cs) go ∙ sym (numeral c cs) where
  go : (kind : Kind) → follow (within EndSign kind) (ends_range cs) ≡ (is_digit kind && all_ascii_digits cs)
  go Digit = in_end cs
  go _ = refl

-- a sign is dropped
unsigned : (c : ℕ) (cs : List ℕ) → without_leading_sign (c ∷ cs) ≡ cond (is_sign (kind_of c)) cs (c ∷ cs)
unsigned c cs = go (c == 45) (c == 43) ∙ ap (λ t. cond t cs (c ∷ cs)) (has_kind c).sign where
  go : (minus plus : Bool) → cond minus cs (drop (cond plus 1 0) (c ∷ cs)) ≡ cond (plus || minus) cs (c ∷ cs)
  go true true = refl
  go true false = refl
  go false true = refl
  go false false = refl

signed_numeral : (c : ℕ) (cs : List ℕ) → is_numeral (without_leading_sign (c ∷ cs)) ≡ cond (is_sign (kind_of c)) (is_numeral cs) (is_digit (kind_of c) && all_ascii_digits cs)
signed_numeral c cs = ap is_numeral (unsigned c cs) ∙ go (is_sign (kind_of c)) where
  go : (sign : Bool) → is_numeral (cond sign cs (c ∷ cs)) ≡ cond sign (is_numeral cs) (is_digit (kind_of c) && all_ascii_digits cs)
  go true = refl
  go false = numeral c cs ∙ ap (λ t. t && all_ascii_digits cs) (has_kind c).digit

is_any_number : (text : List ℕ) → is_some (any_number text) ≡ is_numeral (without_leading_sign text)
unfolding any_number
is_any_number text = go (is_numeral (without_leading_sign text)) where
  go : (b : Bool) → is_some (cond b (Some (signed_digits_value 10 text)) None) ≡ b
  go true = refl
  go false = refl

some_mapped : {A B : Type 0} (f : A → B) (o : Option A) → is_some (option_map f o) ≡ is_some o
some_mapped f None = refl
some_mapped f (Some a) = refl

up_to : (start : ℤ) (cs : List ℕ) → ends_range cs End ≡ is_some (range_up_to any_number start cs)
up_to start [] = refl
up_to start (c ∷ cs) = go (kind_of c) ∙ sym (some_mapped _ (any_number (c ∷ cs)) ∙ is_any_number (c ∷ cs) ∙ signed_numeral c cs) where
  go : (kind : Kind) → follow (within End kind) (ends_range cs) ≡ cond (is_sign kind) (is_numeral cs) (is_digit kind && all_ascii_digits cs)
  go Sign = end_sign cs
  go Digit = in_end cs
  go _ = refl

one_dot : (start : ℤ) (cs : List ℕ) → ends_range cs OneDot ≡ is_some (range_after_dot any_number start cs)
one_dot start [] = refl
one_dot start (c ∷ cs) = go (kind_of c) ∙ ap (λ t. is_some (cond t (range_up_to any_number start cs) None)) (sym (has_kind c).dot) where
  go : (kind : Kind) → follow (within OneDot kind) (ends_range cs) ≡ is_some (cond (is_dot kind) (range_up_to any_number start cs) None)
  go Dot = up_to start cs
  go _ = refl

-- what stands before the first dot, and after it

abbrev before_dot : List ℕ → List ℕ
before_dot cs = before_first (λ b. b == 46) cs

abbrev past_dot : List ℕ → List ℕ
past_dot cs = after_first (λ b. b == 46) cs

add_one : (n : ℕ) → 1 + n ≡ suc n
add_one n = omega arith

before : (c : ℕ) (cs : List ℕ) → before_dot (c ∷ cs) ≡ cond (is_dot (kind_of c)) [] (c ∷ before_dot cs)
before c cs = go (c == 46) ∙ ap (λ t. cond t [] (c ∷ before_dot cs)) (has_kind c).dot where
  go : (dot : Bool) → take (cond (not dot) (1 + position_or_len (λ b. b == 46) cs) 0) (c ∷ cs) ≡ cond dot [] (c ∷ before_dot cs)
  go true = refl
  go false = ap (λ n. take n (c ∷ cs)) (add_one (position_or_len (λ b. b == 46) cs))

suc_add_one : (n : ℕ) → (1 + n) + 1 ≡ suc (n + 1)
suc_add_one n = omega arith

after : (c : ℕ) (cs : List ℕ) → past_dot (c ∷ cs) ≡ cond (is_dot (kind_of c)) cs (past_dot cs)
after c cs = go (c == 46) ∙ ap (λ t. cond t cs (past_dot cs)) (has_kind c).dot where
  go : (dot : Bool) → drop (cond (not dot) (1 + position_or_len (λ b. b == 46) cs) 0 + 1) (c ∷ cs) ≡ cond dot cs (past_dot cs)
  go true = refl
  go false = ap (λ n. drop n (c ∷ cs)) (suc_add_one (position_or_len (λ b. b == 46) cs))

-- what is tested before the first dot, and the end of a range after it
abbrev around : (List ℕ → Bool) → List ℕ → Bool
around test cs = test (before_dot cs) && ends_range (past_dot cs) OneDot

around_first : (test : List ℕ → Bool) (c : ℕ) (cs : List ℕ) →
    around test (c ∷ cs) ≡ cond (is_dot (kind_of c)) (test [] && ends_range cs OneDot) (around (λ w. test (c ∷ w)) cs)
around_first test c cs =
    ap (λ w. test w && ends_range (past_dot (c ∷ cs)) OneDot) (before c cs)
    ∙ ap (λ w. test (cond (is_dot (kind_of c)) [] (c ∷ before_dot cs)) && ends_range w OneDot) (after c cs) ∙ go (is_dot (kind_of c))
  where
    go : (dot : Bool) → (test (cond dot [] (c ∷ before_dot cs)) && ends_range (cond dot cs (past_dot cs)) OneDot) ≡
        cond dot (test [] && ends_range cs OneDot) (around (λ w. test (c ∷ w)) cs)
    go true = refl
    go false = refl

around_digit : (c : ℕ) (cs : List ℕ) → around (λ w. all_ascii_digits (c ∷ w)) cs ≡ (is_digit (kind_of c) && around all_ascii_digits cs)
around_digit c cs = ap (λ t. (t && all_ascii_digits (before_dot cs)) && ends_range (past_dot cs) OneDot) (has_kind c).digit ∙ go (is_digit (kind_of c)) where
  go : (digit : Bool) → ((digit && all_ascii_digits (before_dot cs)) && ends_range (past_dot cs) OneDot) ≡ (digit && around all_ascii_digits cs)
  go true = refl
  go false = refl

around_numeral : (c : ℕ) (cs : List ℕ) → around (λ w. is_numeral (c ∷ w)) cs ≡ (is_digit (kind_of c) && around all_ascii_digits cs)
around_numeral c cs = ap (λ t. t && ends_range (past_dot cs) OneDot) (numeral c (before_dot cs)) ∙ around_digit c cs

in_start : (cs : List ℕ) → ends_range cs InStart ≡ around all_ascii_digits cs
in_start [] = refl
in_start (c ∷ cs) =
    go (in_start cs) (kind_of c) ∙ ap (cond (is_dot (kind_of c)) (ends_range cs OneDot)) (sym (around_digit c cs)) ∙ sym (around_first all_ascii_digits c cs)
  where
    go : ends_range cs InStart ≡ around all_ascii_digits cs → (kind : Kind) →
        follow (within InStart kind) (ends_range cs) ≡ cond (is_dot kind) (ends_range cs OneDot) (is_digit kind && around all_ascii_digits cs)
    go h Dot = refl
    go h Digit = h
    go h _ = refl

start_sign : (cs : List ℕ) → ends_range cs StartSign ≡ around is_numeral cs
start_sign [] = refl
start_sign (c ∷ cs) = go (kind_of c) ∙ ap (cond (is_dot (kind_of c)) false) (sym (around_numeral c cs)) ∙ sym (around_first is_numeral c cs) where
  go : (kind : Kind) → follow (within StartSign kind) (ends_range cs) ≡ cond (is_dot kind) false (is_digit kind && around all_ascii_digits cs)
  go Dot = refl
  go Digit = in_start cs
  go _ = refl

around_signed : (c : ℕ) (cs : List ℕ) →
    around (λ w. is_numeral (without_leading_sign (c ∷ w))) cs ≡ cond (is_sign (kind_of c)) (around is_numeral cs) (is_digit (kind_of c) && around all_ascii_digits cs)
around_signed c cs =
    ap (λ t. t && ends_range (past_dot cs) OneDot) (signed_numeral c (before_dot cs)) ∙ go (is_sign (kind_of c)) (is_digit (kind_of c))
  where
    go : (sign digit : Bool) → (cond sign (is_numeral (before_dot cs)) (digit && all_ascii_digits (before_dot cs)) && ends_range (past_dot cs) OneDot) ≡
        cond sign (around is_numeral cs) (digit && around all_ascii_digits cs)
    go true digit = refl
    go false true = refl
    go false false = refl

start : (cs : List ℕ) → ends_range cs Start ≡ around (λ w. is_numeral (without_leading_sign w)) cs
start [] = refl
start (c ∷ cs) =
    go (kind_of c) ∙ ap (cond (is_dot (kind_of c)) false) (sym (around_signed c cs)) ∙ sym (around_first (λ w. is_numeral (without_leading_sign w)) c cs)
  where
    go : (kind : Kind) → follow (within Start kind) (ends_range cs) ≡
        cond (is_dot kind) false (cond (is_sign kind) (around is_numeral cs) (is_digit kind && around all_ascii_digits cs))
    go Sign = start_sign cs
    go Digit = in_start cs
    go Dot = refl
    go _ = refl

both : {A B : Type 0} (f : A → Option B) (o : Option A) (t : Bool) → ((a : A) → t ≡ is_some (f a)) → (is_some o && t) ≡ is_some (option_and_then f o)
both f None t h = refl
both f (Some a) t h = h a

-- a range without blanks, where its numbers may have any size
pub is_range : (cs : List ℕ) → ends_range cs Start ≡ is_some (range_of any_number cs)
is_range cs =
    start cs ∙ ap (λ t. t && ends_range (past_dot cs) OneDot) (sym (is_any_number (before_dot cs)))
    ∙ both (λ s. range_after_dot any_number s (past_dot cs)) (any_number (before_dot cs)) (ends_range (past_dot cs) OneDot) (λ s. one_dot s (past_dot cs))
