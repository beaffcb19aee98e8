-- How many changes there are.
use Rattle.std.proofs.Common.{◌≡◌, ℕ, ◌+◌, ◌≤◌, Bool, not, List, ◌++◌, length, map, filter, refl, ap, sym, ◌∙◌, arith}
use Rattle.std.proofs.lemmas.List.{length-append, length-map}
use Rattle.std.proofs.lemmas.List.Filters.{length-filter_both}
use Rattle.std.specs.declared.cmp.Ordering.{Ordering}
use Rattle.range_merge.specs.Changes.{Taken, taken_item, taken_items, taken_of, answer_at, answer_just_below, changes}
use Rattle.range_merge.specs.Connective.{Table, differ}
use Rattle.range_merge.specs.Copies.{items_if}
use Rattle.range_merge.specs.Owners.{owners}
use Rattle.range_merge.proofs.Digits.{length-owners}

-- a count goes on by the items that were taken
pub counts : {K : Type 0} (was : ℕ) (wanted : Bool) (before ts : List (Taken K)) (items : List K) → taken_items ts ≡ items_if wanted items
    → was ≡ length before → was + length (items_if wanted items) ≡ length (before ++ ts)
counts was wanted before ts items are so_far =
    let many : length ts ≡ length (items_if wanted items) = sym (length-map ts taken_item) ∙ ap length are in
    omega (arith, length-append before ts)

length-filter-le : {X : Type 0} (p : X → Bool) (xs : List X) → length (filter p xs) ≤ length xs
length-filter-le p xs = omega (arith, length-filter_both p (λ x. not (p x)) (λ _. refl) xs)

-- the changes are some of the owners
pub length-changes : {K : Type 0} (order : K → K → Ordering) (f : Table) (a b : List K) → length (changes order f a b) ≤ length a + length b
unfolding changes
length-changes order f a b =
    omega
    (arith, length-filter-le (λ t. differ (answer_just_below order f a b (taken_item t)) (answer_at order f a b (taken_item t))) (map taken_of (owners order a b)), length-map (owners order a b) taken_of, length-owners order a b)
