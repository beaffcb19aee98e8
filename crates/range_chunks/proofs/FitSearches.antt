-- What a walk through the gaps of a set says of the set.
use Rattle.std.proofs.Common.{◌≡◌, sym, subst, ℕ, inl, inr, ◌<◌, ◌≤◌, ◌-◌, true, false, List, arith}
use Rattle.std.specs.Cmp.{IsTotalOrder}
use Rattle.std.specs.Ordering.{nat_cmp}
use Rattle.std.specs.declared.cmp.Ordering.{Ordering}
use Rattle.std.proofs.lemmas.Bool.{cases_lt}
use Rattle.range_merge.specs.Connective.{Means, difference_table}
use Rattle.range_collections.specs.Fits.{IsOneOf, IsFit, IsStopped}
use Rattle.range_collections.specs.Ranges.{range_items}
use Rattle.range_collections.specs.declared.countable.multiples.Multiples.{Multiples}
use Rattle.range_collections.proofs.FitSearches.{from_parts, to_parts}
use Rattle.range_chunks.specs.Bounds.{IsPast}

-- free values in a row between two ends are so from a lower start on, and from a higher one at or
-- below them
module _ {K : Type 0} (order : K → K → Ordering) (value : ℕ → K) (place : K → ℕ) (items old : List K) (same : items ≡ old) (start from end : K) (count at : ℕ) where
  pub widened : place start ≤ place from → IsFit order value false items (place from) (place end) count at → IsFit order value false old (place start) (place end) count at
  widened low fit =
      subst (λ list. IsFit order value false list (place start) (place end) count at) same
      (record { from = omega (arith, low, fit.from); up_to = fit.up_to; alike = fit.alike })

  pub narrowed : place from ≤ at → IsFit order value false old (place start) (place end) count at → IsFit order value false items (place from) (place end) count at
  narrowed low fit =
      subst (λ list. IsFit order value false list (place from) (place end) count at) (sym same)
      (record { from = low; up_to = fit.up_to; alike = fit.alike })

module _ {K : Type 0} {order : K → K → Ordering} (o : IsTotalOrder order) (is_value : K → Type 0) (value : ℕ → K) (place : K → ℕ) (total : ℕ)
    (value_is_value : (n : ℕ) → n < total → is_value (value n))
    (place_of_value : (n : ℕ) → n < total → place (value n) ≡ n)
    (place_fits : (x : K) → is_value x → place x < total)
    (in_order : (x y : K) → is_value x → is_value y → order x y ≡ nat_cmp (place x) (place y)) where
  -- the gaps of a set between two ends, and what a walk says of the set that stopped between them
  module _ (items gaps : List K) (start end : K) (v : is_value start) (w : is_value end) (means : Means order difference_table gaps (range_items order start end) items) where
    to_gaps : (n at : ℕ) → IsFit order value false items (place start) (place end) n at → IsFit order value true gaps 0 total n at
    to_gaps = to_parts o is_value value place total value_is_value place_of_value place_fits in_order start end items gaps v w false means

    from_gaps : (n at : ℕ) → 0 < n → IsFit order value true gaps 0 total n at → IsFit order value false items (place start) (place end) n at
    from_gaps = from_parts o is_value value place total value_is_value place_of_value place_fits in_order start end items gaps v w false means

    module _ (count : ℕ) (m : Multiples) (x : K) (most : ℕ) (it : IsStopped order value place total gaps count m x most) where
      last_free : IsFit order value false items (place start) (place end) 1 (place x - 1)
      last_free = from_gaps 1 (place x - 1) (omega arith) it.last

      is_past : place start < place x
      is_past = omega (arith, last_free.from, it.positive)

      pub is_above : place start ≤ place x
      is_above = omega (arith, is_past)

      pub IsPast-stopped : IsPast order value place items start end count m x
      IsPast-stopped = record {
        past = is_past;
        above = λ at even fit. it.above at even (to_gaps count at fit);
      }

      up_to_end : (n at : ℕ) → IsFit order value false items (place start) (place x) n at → IsFit order value true gaps 0 total n at
      up_to_end n at fit = to_gaps n at (record { from = fit.from; up_to = omega (arith, fit.up_to, last_free.up_to, it.positive); alike = fit.alike })

      -- no gap up to there is longer
      pub most_between : (n at : ℕ) → IsFit order value false items (place start) (place x) n at → n ≤ most
      most_between n at fit =
          elim (cases_lt most n) as (λ _. n ≤ most) [
            | inl more ↦
                let high = it.longer n at more (up_to_end n at fit) in
                absurd (omega (arith, high, fit.up_to, more))
            | inr fine ↦ fine
          ]

      -- nor has one `count` values from one of the multiples on
      pub none_between : 0 < count → (at : ℕ) → IsOneOf m at → IsFit order value false items (place start) (place x) count at → ⊥
      none_between some at even fit =
          let high = it.above at even (up_to_end count at fit) in
          omega (arith, high, fit.up_to, some)
