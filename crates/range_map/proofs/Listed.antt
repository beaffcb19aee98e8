-- The steps of a list, and a map's keys and options.
use Rattle.std.proofs.Common.{◌≡◌, sym, ap, ◌∙◌, refl, ℕ, zero, suc, ◌+◌, ◌^◌, ◌<◌, ◌≤◌, Bool, true, false, not, Option, Some, None, List, [], ◌∷◌, ◌++◌, map, length, get_or, slice_get, option_copied, arith}
use Rattle.std.specs.Option.{option_eq, is_some}
use Rattle.std.specs.Borrow.{Bor}
use Rattle.std.proofs.lemmas.List.{length-map}
use Rattle.range_merge.specs.Counting.{AddsAtMost}
use Rattle.range_merge.specs.Runs.{digits}
use Rattle.range_merge.proofs.Digits.{digits-mono, digits-le, digits-suc, digits-zero}
use Rattle.range_list.specs.Lists.{joined}
use Rattle.range_map.specs.Listed.{steps_of, steps_in}
use Rattle.range_map.specs.declared.step.Step.{Step}

module _ {K V : Type 0} where
  pub length-keys : (items : List (Step K V)) → length (steps_of items).keys ≡ length items
  length-keys items = length-map items (λ (s : Step K V). s.key)

  pub length-options : (items : List (Step K V)) → length (steps_of items).options ≡ length items
  length-options items = length-map items (λ (s : Step K V). s.option)

  -- the option of a step, if there is one
  abbrev opt-of : Option (Step K V) → Option V
  opt-of None = None
  opt-of (Some s) = s.option

  option-read : (items : List (Step K V)) (n : ℕ) → get_or (steps_of items).options n None ≡ opt-of (get_or (map Some items) n None)
  option-read [] n = refl
  option-read (x ∷ xs) zero = refl
  option-read (x ∷ xs) (suc n) = option-read xs n

  option-at : (items : List (Step K V)) (n : ℕ) → get_or (None ∷ (steps_of items).options) n None ≡ opt-of (get_or (None ∷ map Some items) n None)
  option-at items zero = refl
  option-at items (suc n) = option-read items n

  -- what was read before a place
  pub option-of_step : (items : List (Step K V)) (n : ℕ) (r : Option (Bor (Step K V))) (s : Step K V) → option_copied r ≡ get_or (None ∷ map Some items) n None → option_copied r ≡ Some s →
      s.option ≡ get_or (None ∷ (steps_of items).options) n None
  option-of_step items n r s h e = ap opt-of (sym e ∙ h) ∙ sym (option-at items n)

  pub option-of_none : (items : List (Step K V)) (n : ℕ) (r : Option (Bor (Step K V))) → option_copied r ≡ get_or (None ∷ map Some items) n None → option_copied r ≡ None →
      None ≡ get_or (None ∷ (steps_of items).options) n None
  option-of_none items n r h e = ap opt-of (sym e ∙ h) ∙ sym (option-at items n)

  abbrev key-of : Option (Step K V) → Option K
  key-of None = None
  key-of (Some s) = Some s.key

  key-read : (items : List (Step K V)) (n : ℕ) → get_or (map Some (steps_of items).keys) n None ≡ key-of (get_or (map Some items) n None)
  key-read [] n = refl
  key-read (x ∷ xs) zero = refl
  key-read (x ∷ xs) (suc n) = key-read xs n

  key-at : (items : List (Step K V)) (n : ℕ) → get_or (None ∷ map Some (steps_of items).keys) n None ≡ key-of (get_or (None ∷ map Some items) n None)
  key-at items zero = refl
  key-at items (suc n) = key-read items n

  pub key-of_step : (items : List (Step K V)) (n : ℕ) (r : Option (Bor (Step K V))) (s : Step K V) → option_copied r ≡ get_or (None ∷ map Some items) n None → option_copied r ≡ Some s →
      Some s.key ≡ get_or (None ∷ map Some (steps_of items).keys) n None
  key-of_step items n r s h e = ap key-of (sym e ∙ h) ∙ sym (key-at items n)

  pub key-of_none : (items : List (Step K V)) (n : ℕ) (r : Option (Bor (Step K V))) → option_copied r ≡ get_or (None ∷ map Some items) n None → option_copied r ≡ None →
      None ≡ get_or (None ∷ map Some (steps_of items).keys) n None
  key-of_none items n r h e = ap key-of (sym e ∙ h) ∙ sym (key-at items n)

  slice_get-keys : (items : List (Step K V)) (n : ℕ) → slice_get (steps_of items).keys n ≡ key-of (slice_get items n)
  slice_get-keys [] n = refl
  slice_get-keys (x ∷ xs) zero = refl
  slice_get-keys (x ∷ xs) (suc n) = slice_get-keys xs n

  -- the key of what was read at a place
  pub key-got : (items : List (Step K V)) (n : ℕ) (r : Option (Bor (Step K V))) (q : Option (Step K V)) → option_copied r ≡ slice_get items n → option_copied r ≡ q → key-of q ≡ slice_get (steps_of items).keys n
  key-got items n r q h e = ap key-of (sym e ∙ h) ∙ sym (slice_get-keys items n)

pub none-eq : {V : Type 0} (E : V → V → Bool) (p : Option V) (b : Bool) → is_some p ≡ not b → b ≡ option_eq E None p
none-eq E None true e = refl
none-eq E None false e = absurd (cc)
none-eq E (Some v) true e = absurd (cc)
none-eq E (Some v) false e = refl

-- a full chunk has 127 items behind its first one
digits-full : digits 127 ≡ 7
digits-full =
    let a : digits 127 ≡ digits 63 + 1 = digits-suc 127 (omega arith) in
    let b : digits 63 ≡ digits 31 + 1 = digits-suc 63 (omega arith) in
    let c : digits 31 ≡ digits 15 + 1 = digits-suc 31 (omega arith) in
    let d : digits 15 ≡ digits 7 + 1 = digits-suc 15 (omega arith) in
    let e : digits 7 ≡ digits 3 + 1 = digits-suc 7 (omega arith) in
    let f : digits 3 ≡ digits 1 + 1 = digits-suc 3 (omega arith) in
    let g : digits 1 ≡ digits 0 + 1 = digits-suc 1 (omega arith) in
    omega (arith, digits-zero)

module _ {K V : Type 0} (lists : List (List (Step K V))) (old new : ℕ) (few : length lists < 2 ^ 64) (fewer : length lists ≤ length (joined lists))
    (counted : AddsAtMost old new (digits (length lists) + digits 127)) where
  -- a bound by the number of chunks, as one by the number of keys
  pub counted-keys : AddsAtMost old new (digits (length (steps_in lists).keys) + 7)
  counted-keys = record {
    at_least = counted.at_least;
    at_most = omega (
      arith,
      counted.at_most,
      digits-full,
      digits-mono (length lists) (length (steps_in lists).keys) (omega (arith, fewer, length-keys (joined lists))),
    );
  }

  pub counted-few : new < old + 2 ^ 65
  counted-few = omega (arith, counted.at_most, digits-full, digits-le (length lists), few)

-- what was read at a place
pub item-read : {X : Type 0} (xs : List X) (n : ℕ) (r : Option (Bor X)) (s d : X) → option_copied r ≡ slice_get xs n → option_copied r ≡ Some s → get_or xs n d ≡ s
item-read [] n r s d h e = let off : Some s ≡ None = sym e ∙ h in absurd (cc)
item-read (x ∷ xs) zero r s d h e = let same : Some x ≡ Some s = sym h ∙ e in cc
item-read (x ∷ xs) (suc n) r s d h e = item-read xs n r s d h e

pub item-within : {X : Type 0} (xs : List X) (n : ℕ) (r : Option (Bor X)) → option_copied r ≡ slice_get xs n → is_some r ≡ true → n < length xs
item-within [] n None h some = absurd (cc)
item-within [] n (Some x) h some = absurd (cc)
item-within (x ∷ xs) zero r h some = omega arith
item-within (x ∷ xs) (suc n) r h some = omega (arith, item-within xs n r h some)

pub item-past : {X : Type 0} (xs : List X) (n : ℕ) (r : Option (Bor X)) → option_copied r ≡ slice_get xs n → is_some r ≡ false → length xs ≤ n
item-past [] n r h none = omega arith
item-past (x ∷ xs) zero None h none = absurd (cc)
item-past (x ∷ xs) zero (Some y) h none = absurd (cc)
item-past (x ∷ xs) (suc n) r h none = omega (arith, item-past xs n r h none)

pub step-option : {K V : Type 0} (items : List (Step K V)) (n : ℕ) (r : Option (Bor (Step K V))) (s : Step K V) → option_copied r ≡ slice_get items n → option_copied r ≡ Some s →
    s.option ≡ get_or (steps_of items).options n None
step-option [] n r s h e = let off : Some s ≡ None = sym e ∙ h in absurd (cc)
step-option (x ∷ xs) zero r s h e = let same : Some x ≡ Some s = sym h ∙ e in ap (λ (t : Option (Step _ _)). opt-of t) (sym same)
step-option (x ∷ xs) (suc n) r s h e = step-option xs n r s h e

-- the last step of a list is the last one behind others
pub last-behind : {K V : Type 0} (p : Option V) (front list : List (Step K V)) (n : ℕ) → suc n ≡ length list →
    get_or (steps_of list).options n None ≡ get_or (p ∷ (steps_of (front ++ list)).options) (length (front ++ list)) None
last-behind p [] list n e = ap (λ m. get_or (p ∷ (steps_of list).options) m None) e
last-behind p (s ∷ front) list n e = last-behind s.option front list n e
