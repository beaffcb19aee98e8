-- What a tracker in chunks keeps, and how a range is set in it; contracts of private functions use
-- these words.
--     IsAllOrNone len items                            the first `len` items are all of them or none
--     IsTracking items len limit                       what is always so of a tracker
--     IsSetWithin inside limit old range new result    a range was set, or refused
use Rattle.std.specs.Prelude.{◌≡◌, ◌≢◌, ◌↔◌, ◌⊎◌, ℕ, ◌-◌, ◌^◌, ◌<◌, ◌≤◌, Bool, false, List, length, take, Result, Err, IfOk}
use Rattle.std.specs.Ordering.{nat_cmp}
use Rattle.std.specs.declared.ops.Range.{Range}
use Rattle.range_merge.specs.Boundaries.{IsAscending, is_odd}
use Rattle.range_merge.specs.Connective.{Means}
use Rattle.range_collections.specs.Ranges.{range_items}
use Rattle.range_collections.specs.Splicing.{range_table}
use Rattle.range_tracker.specs.declared.track_error.TrackError.{TrackError}
use Rattle.range_tracker.specs.declared.track_error.TrackError.TheVariants.{TooMany, OutOfMemory}

-- the first `len` items are all of them or none, and there are two at least
pub record IsAllOrNone (len : ℕ) (items : List ℕ) : Type 0 where
  pub all_or_none : (len ≡ 0) ⊎ (len ≡ length items)
  pub room : 2 ≤ length items

-- the items are strictly sorted; those that are there are none or all, have an even number, which
-- is within the limit, and the limit leaves room for two more
pub record IsTracking (items : List ℕ) (len limit : ℕ) : Type 0 where
  pub sorted : IsAscending nat_cmp items
  pub front : IsAllOrNone len items
  pub ended : is_odd len ≡ false
  pub within : len ≤ limit
  pub room : limit ≤ 2 ^ 64 - 3

-- how a range was set in the old items, or refused: an Ok has how many of the new ones are there
pub record IsSetWithin (inside : Bool) (limit : ℕ) (old : List ℕ) (range : Range ℕ)
    (new : List ℕ) (result : Result ℕ TrackError) : Type 0 where
  -- the list that the range is to leave
  pub left : List ℕ
  pub means : Means nat_cmp (range_table inside) left old (range_items nat_cmp range.start range.end)
  pub taken : IfOk result (λ n. take n new ≡ left)
  pub front : IfOk result (λ n. IsAllOrNone n new)
  pub within : IfOk result (λ n. n ≤ limit)
  -- too many, with their number, exactly where that list is longer than the limit
  pub too_many : (n : ℕ) → (result ≡ Err (TooMany n)) ↔ ((length left ≡ n) × (limit < n))
  -- memory doesn't run out where it is no longer than the old one, or where that has none
  pub no_memory : (length left ≤ length old) ⊎ (length old ≡ 0) → result ≢ Err OutOfMemory
