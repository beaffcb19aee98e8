-- Where a connective changes between two lists, and what a merge takes of them.
--     changes order f a b         the items at which f's answer differs from f just below
--     taken_items ts              the items that were taken
use Rattle.std.specs.Prelude.{◌≡◌, ◌≢◌, ℕ, ◌≤◌, All, Contains, Bool, true, false, List, [], ◌++◌, length, map, take, filter}
use Rattle.std.specs.declared.cmp.Ordering.{Ordering}
use Rattle.std.specs.declared.cmp.Ordering.TheVariants.{Equal}
use Rattle.range_merge.specs.Boundaries.{is_odd, count_below, member}
use Rattle.range_merge.specs.Connective.{Table, differ}
use Rattle.range_merge.specs.Owners.{Owner, left_only, right_only, shared, owners}
use Rattle.range_merge.specs.Runs.{runs_of}

-- an item, marked by the side that it is taken from
pub data Taken (K : Type 0) : Type 0 where
  from_left : K → Taken K
  from_right : K → Taken K

module _ {K : Type 0} where
  -- the item
  abbrev pub taken_item : Taken K → K
  taken_item (from_left x) = x
  taken_item (from_right y) = y

  -- the items, without their marks
  abbrev pub taken_items : List (Taken K) → List K
  taken_items ts = map taken_item ts

  -- an owner's item, marked: of a shared one the left's is taken
  abbrev pub taken_of : Owner K → Taken K
  taken_of (left_only x) = from_left x
  taken_of (right_only y) = from_right y
  taken_of (shared x y) = from_left x

  -- the first n of the left's items if they are taken, else none
  abbrev pub taken_left : Bool → ℕ → List K → List (Taken K)
  taken_left true n items = map from_left (take n items)
  taken_left false n items = []

  -- the first n of the right's items if they are taken, else none
  abbrev pub taken_right : Bool → ℕ → List K → List (Taken K)
  taken_right true n items = map from_right (take n items)
  taken_right false n items = []

  -- these items stand one after the other among the owners, all in one run
  abbrev pub AreOfOneRun : List (Owner K) → List (Taken K) → Type 0
  AreOfOneRun os ts =
      (earlier these later : List (Owner K)) × (os ≡ earlier ++ (these ++ later))
      × (ts ≡ map taken_of these) × (length (runs_of these) ≡ 1)

  -- an output before and after a merge that stopped: a front of the items was appended, one item or
  -- more, all of one run
  abbrev pub StopsAmong : List (Owner K) → (List (Taken K) → Type 0) → (List (Taken K) → Type 0) →
      List (Taken K) → Type 0
  StopsAmong os old new items =
      (n : ℕ) × (1 ≤ n) × (n ≤ length items)
      × ((before : List (Taken K)) → old before → new (before ++ take n items))
      × AreOfOneRun os (take n items)

  -- the mark is true: an item of the left list, or one of the right list that equals none of the
  -- left's
  abbrev pub IsMarkedTruly : (K → K → Ordering) → List K → List K → Taken K → Type 0
  IsMarkedTruly order a b (from_left x) = Contains a x
  IsMarkedTruly order a b (from_right y) = Contains b y × All (λ x. order x y ≢ Equal) a

  module _ (order : K → K → Ordering) (f : Table) (a b : List K) where
    -- f of whether x is in a and in b
    abbrev pub answer_at : K → Bool
    answer_at x = f (member order a x) (member order b x)

    -- f of whether what lies just below x is in a and in b
    abbrev pub answer_just_below : K → Bool
    answer_just_below x = f (is_odd (count_below order a x)) (is_odd (count_below order b x))

    -- the owners' items at which f's answer changes, in order
    unfoldable pub changes : List (Taken K)
    changes =
        filter (λ t. differ (answer_just_below (taken_item t)) (answer_at (taken_item t)))
        (map taken_of (owners order a b))
