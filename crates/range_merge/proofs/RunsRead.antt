-- The first run of two strictly sorted lists, from what the code reads of them.
use Rattle.std.proofs.Common.{◌≡◌, ℕ, List, get_or, slice_get, Some, ap, sym, ◌∙◌, ◌-◌}
use Rattle.std.specs.Cmp.{IsTotalOrder}
use Rattle.std.proofs.lemmas.Option.{get_or_from_slice_get, slice_get_within}
use Rattle.std.specs.declared.cmp.Ordering.{Ordering}
use Rattle.std.specs.declared.cmp.Ordering.TheVariants.{Equal}
use Rattle.range_merge.specs.Boundaries.{IsAscending}
use Rattle.range_merge.specs.Galloping.{IsBracket}
use Rattle.range_merge.specs.Runs.{runs}
use Rattle.range_merge.specs.declared.runs.Run.TheVariants.{Left, Right, Both}
use Rattle.range_merge.proofs.RunsFound.{runs-left, runs-right, runs-both}

module _ {K : Type 0} {order : K → K → Ordering} (o : IsTotalOrder order) (a b : List K) (a_ascends : IsAscending order a) (b_ascends : IsAscending order b) where
  -- the items of the left before the right's first end at n
  pub first_run-left : (n : ℕ) (key : K) → slice_get b 0 ≡ Some key → IsBracket order a key n n → slice_get (runs order a b) 0 ≡ Some (Left n)
  first_run-left n key read w =
      runs-left o a b a_ascends b_ascends n w.some w.within (slice_get_within b 0 key read)
      (λ d. ap (λ k. order (get_or a (n - 1) d) k) (get_or_from_slice_get b 0 key d read) ∙ w.last d)
      (λ d past less. w.next past d (ap (λ k. order (get_or a n d) k) (sym (get_or_from_slice_get b 0 key d read)) ∙ less))

  -- the items of the right before the left's first end at n
  pub first_run-right : (n : ℕ) (key : K) → slice_get a 0 ≡ Some key → IsBracket order b key n n → slice_get (runs order a b) 0 ≡ Some (Right n)
  first_run-right n key read w =
      runs-right o a b a_ascends b_ascends n w.some w.within (slice_get_within a 0 key read)
      (λ d. ap (λ k. order (get_or b (n - 1) d) k) (get_or_from_slice_get a 0 key d read) ∙ w.last d)
      (λ d past less. w.next past d (ap (λ k. order (get_or b n d) k) (sym (get_or_from_slice_get a 0 key d read)) ∙ less))

  -- the first items are equal
  pub first_run-both : (x y : K) → slice_get a 0 ≡ Some x → slice_get b 0 ≡ Some y → order x y ≡ Equal → slice_get (runs order a b) 0 ≡ Some Both
  first_run-both x y read_a read_b equal =
      runs-both o a b a_ascends b_ascends (slice_get_within a 0 x read_a) (slice_get_within b 0 y read_b)
      (λ d. ap (λ v. order v (get_or b 0 d)) (get_or_from_slice_get a 0 x d read_a) ∙ ap (λ v. order x v) (get_or_from_slice_get b 0 y d read_b) ∙ equal)
