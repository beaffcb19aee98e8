-- How the first items stand after a run, from what the search for the run's end saw.
use Rattle.std.proofs.Common.{◌≡◌, ℕ, ◌≤◌, List, Option, Some, None, get_or, slice_get, drop, ap, ◌∙◌, get_or-drop, add-zero, length-drop, arith}
use Rattle.std.specs.Option.{option_map}
use Rattle.std.specs.Ordering.{ordering_reverse}
use Rattle.std.specs.Cmp.{IsTotalOrder}
use Rattle.std.proofs.lemmas.Option.{get_or_from_slice_get, slice_get_within}
use Rattle.std.specs.declared.cmp.Ordering.{Ordering}
use Rattle.range_merge.specs.Galloping.{StandsAt}
use Rattle.range_merge.specs.OneRun.{FirstsStand, ahead_of}

module _ {K : Type 0} (order : K → K → Ordering) (a b : List K) where
  -- after a run of the left's items that are below the right's first
  pub FirstsStand-left : (n : ℕ) (key : K) (next : Option Ordering) → slice_get b 0 ≡ Some key → StandsAt order a key n next → FirstsStand order (drop n a) b next
  FirstsStand-left n key None read at = λ some. absurd (omega (arith, length-drop n a, at, some))
  FirstsStand-left n key (Some how) read at = (
    omega (arith, length-drop n a, at.0),
    slice_get_within b 0 key read,
    λ d. ap (λ k. order (get_or (drop n a) 0 d) k) (get_or_from_slice_get b 0 key d read) ∙ rw (get_or-drop n a 0 d, add-zero) (at.1 d),
  )

  -- after a run of the right's items that are below the left's first
  pub FirstsStand-right : IsTotalOrder order → (n : ℕ) (key : K) (next : Option Ordering) → slice_get a 0 ≡ Some key → StandsAt order b key n next
      → FirstsStand order a (drop n b) (option_map ordering_reverse next)
  FirstsStand-right o n key None read at = λ some. omega (arith, length-drop n b, at)
  FirstsStand-right o n key (Some how) read at = (
    slice_get_within a 0 key read,
    omega (arith, length-drop n b, at.0),
    λ d. ap (λ k. order k (get_or (drop n b) 0 d)) (get_or_from_slice_get a 0 key d read)
        ∙ o.antisymm key (get_or (drop n b) 0 d) ∙ ap ordering_reverse (rw (get_or-drop n b 0 d, add-zero) (at.1 d)),
  )

-- one comparison at most is made ahead
pub ahead_of-le : (how : Option Ordering) → ahead_of how ≤ 1
ahead_of-le None = omega arith
ahead_of-le (Some how) = omega arith
