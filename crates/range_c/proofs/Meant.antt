-- A list that means an operation, and the buffer in which a set makes way for it.
use Rattle.std.proofs.Common.{◌≡◌, refl, sym, ap, ◌∙◌, ℕ, zero, suc, ◌+◌, ◌-◌, ◌≤◌, false, List, [], ◌∷◌, ◌++◌, length, take, drop, arith}
use Rattle.std.specs.Cmp.{IsTotalOrder}
use Rattle.std.specs.declared.cmp.Ordering.{Ordering}
use Rattle.range_merge.specs.Changes.{changes, taken_items}
use Rattle.range_merge.specs.Connective.{Table, Means}
use Rattle.range_merge.proofs.ChangesLemmas.{Means-changes}
use Rattle.range_merge.proofs.OwnersLemmas.{IsOwners-owners}
use Rattle.range_collections.proofs.Combined.{length-means}
use Rattle.range_c.specs.Answers.{AreAscending, AnswersList}
use Rattle.std.proofs.Math.Seq.{paste, drop-append_seam}
use Rattle.std.proofs.lemmas.List.{length-take-le, nil_from_length, take_all}
use Rattle.std.proofs.lemmas.List.Edits.{take-paste, length-paste}

-- the one list that means the connective has the length of the changes
pub length-meant : {K : Type 0} {order : K → K → Ordering} → IsTotalOrder order → (f : Table) (a b items : List K) →
    f false false ≡ false → AreAscending order a b → Means order f items a b → length items ≡ length (changes order f a b)
length-meant {K} {order} o f a b items off up means =
    length-means o f (changes order f a b) items a b (length (changes order f a b)) refl
    (Means-changes o f a b off up.0 up.1 (IsOwners-owners o a b up.0 up.1)) means

-- of a list that has no room only the length is told
pub AnswersList-counted : {K : Type 0} {order : K → K → Ordering} → IsTotalOrder order → (f : Table) (a b xs : List K) (n : ℕ) →
    f false false ≡ false → AreAscending order a b → length xs ≡ 0 → n ≡ length (changes order f a b) → AnswersList order f a b xs xs n
AnswersList-counted {order} o f a b [] zero off up none counted =
    let nothing : changes order f a b ≡ [] = nil_from_length (changes order f a b) (sym counted) in
    record {
      counted = counted;
      means = λ fits. rw nothing at (Means-changes o f a b off up.0 up.1 (IsOwners-owners o a b up.0 up.1));
      left_own_item = λ fits. sym (ap taken_items nothing);
      after = λ fits. refl;
    }
AnswersList-counted o f a b [] (suc n) off up none counted = record {
  counted = counted;
  means = λ fits. absurd (omega (arith, fits));
  left_own_item = λ fits. absurd (omega (arith, fits));
  after = λ fits. absurd (omega (arith, fits));
}
AnswersList-counted o f a b (x ∷ xs) n off up none counted = absurd (omega (arith, none))

module _ {K : Type 0} where
  drop-first : (k : ℕ) (us vs : List K) → length us ≡ k → drop k (us ++ vs) ≡ vs
  drop-first k us vs h = ap (λ j. drop j (us ++ vs)) (sym h) ∙ drop-append_seam us vs

  -- the front, moved to the end
  pub moved-to_end : (xs ys : List K) (len start : ℕ) → len + start ≡ length xs → ys ≡ paste xs start xs (len - 0) → drop start ys ≡ take len xs
  moved-to_end xs ys len start e copied =
      let none : len - 0 ≡ len = omega arith in
      let moved : ys ≡ paste xs start xs len = copied ∙ ap (paste xs start xs) none in
      let within : start ≤ length xs = omega (arith, e) in
      let few : len ≤ length xs = omega (arith, e) in
      let whole : start + len ≡ length ys = omega (arith, e, ap length moved, length-paste xs start xs len (omega (arith, e)) few) in
      ap (drop start)
      (sym (take_all (start + len) ys (omega (arith, whole)))
      ∙ ap (take (start + len)) moved
      ∙ take-paste xs start xs len within few)
      ∙ drop-first start (take start xs) (take len xs) (length-take-le start xs within)
