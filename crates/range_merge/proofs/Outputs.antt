-- What a merge over two slices hands to its output.
use Rattle.std.proofs.Common.{◌≡◌, ℕ, ◌+◌, ◌-◌, ◌≤◌, All, Bool, true, false, ◌||◌, List, [], ◌∷◌, ◌++◌, length, take, drop, Result, Ok, Err, IfOk, refl, ap, ◌∙◌, arith}
use Rattle.std.proofs.lemmas.List.{length-drop, length-take-le}
use Rattle.std.proofs.lemmas.List.Elements.{All-drop, All-take}
use Rattle.range_merge.specs.Changes.{Taken, taken_items}
use Rattle.range_merge.specs.Copies.{items_if}
use Rattle.range_merge.specs.States.{any_item}

-- what holds of every answer
pub IfOk-always : {T E : Type 0} (r : Result T E) (P : T → Type 0) → ((x : T) → P x) → IfOk r P
IfOk-always (Ok x) P h = h x
IfOk-always (Err e) P h = tt

module _ {K : Type 0} where
  -- a front is as long as it was to be
  pub length-front : (n : ℕ) (xs front : List K) → n ≤ length xs → front ≡ take n xs → length front ≡ n
  length-front n xs front within is = ap length is ∙ length-take-le n xs within

  -- a front and its rest are as long as the list
  pub length-parted : (n : ℕ) (xs front rest : List K) → n ≤ length xs → front ≡ take n xs → rest ≡ drop n xs → length front + length rest ≡ length xs
  length-parted n xs front rest within is_front is_rest =
      let many : length front ≡ n = length-front n xs front within is_front in
      let left : length rest ≡ length xs - n = ap length is_rest ∙ length-drop n xs in
      omega arith

  -- what holds of each item holds of each of a front, and of each of its rest
  pub All-front : (P : K → Type 0) (n : ℕ) (xs front : List K) → front ≡ take n xs → All P xs → All P front
  All-front P n xs front is h = rw is (All-take P n xs h)

  pub All-rest : (P : K → Type 0) (n : ℕ) (xs rest : List K) → rest ≡ drop n xs → All P xs → All P rest
  All-rest P n xs rest is h = rw is (All-drop P n xs h)

-- a truth remembers whether there were items in all
pub remembers : {K : Type 0} (was wanted : Bool) (before ts : List (Taken K)) (items : List K) → 1 ≤ length items → taken_items ts ≡ items_if wanted items
    → was ≡ any_item before → (was || wanted) ≡ any_item (before ++ ts)
remembers was wanted (t ∷ before) ts items some are so_far = rw so_far refl
remembers was true [] [] [] some are so_far = absurd (omega arith)
remembers was true [] [] (x ∷ items) some are so_far = cc
remembers was true [] (t ∷ ts) items some are so_far = rw so_far refl
remembers was false [] [] items some are so_far = rw so_far refl
remembers was false [] (t ∷ ts) items some are so_far = cc
