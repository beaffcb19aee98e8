-- The headline: what each operation on two sets gives, in every form.
--     IsTheResult order is_value f a b as_left as_right items    items is the one list that f makes of a and b
--     GivesTheResult order is_copy f a b r                       the answer of a call that makes a new list
--     BecomesTheResult order is_copy f a b new r                 the left list after a call in place with a borrowed right side
--     BecomesTheOwnResult order f a b new r                      the same with an owned right side
--     CostsTwiceWeight order a b before after Fact               the fact, after at most twice the weight in comparisons
--     IsTheNegation order is_value a items                       items is the one list that `!` makes of a
use Rattle.std.specs.Prelude.{◌≡◌, ◌≢◌, ◌⊎◌, ℕ, ◌*◌, true, false, List, All, Any, Result, IfOk, OnOk, OnErr, IfErr}
use Rattle.std.specs.Ordering.{is_le}
use Rattle.std.specs.declared.alloc.AllocError.{AllocError}
use Rattle.std.specs.declared.cmp.Ordering.{Ordering}
use Rattle.std.specs.declared.cmp.Ordering.TheVariants.{Equal}
use Rattle.range_merge.specs.Boundaries.{IsAscending, member}
use Rattle.range_merge.specs.Connective.{Table}
use Rattle.range_merge.specs.Counting.{AddsAtMost}
use Rattle.range_merge.specs.Runs.{weight}
use Rattle.range_collections.specs.Sets.{AreEqual}
use Rattle.range_collections.specs.Values.{Negates}

module _ {K : Type 0} where
  -- no element is left out
  abbrev pub EveryElement : K → Type 0
  EveryElement x = Unit {0}

  -- y is x itself
  abbrev pub IsItself : K → K → Type 0
  IsItself x y = y ≡ x

  -- y is x itself, or stands for it as is_copy says
  abbrev pub IsItselfOr : (K → K → Type 0) → K → K → Type 0
  IsItselfOr is_copy x y = (y ≡ x) ⊎ is_copy x y

module _ {K : Type 0} (order : K → K → Ordering) where
  module _ (is_value : K → Type 0) (f : Table) (a b : List K) where
    -- an element is a member exactly if f says so of whether it is one of a and of b; where f is on
    -- while both sides are off, that is said of values alone
    abbrev pub HasTheMembers : List K → Type 0
    HasTheMembers items =
        (x : K) → (f false false ≡ true → is_value x) →
        member order items x ≡ f (member order a x) (member order b x)

    -- y stands for one of a; or for one of b, and none of a equals it; or where f is on while both
    -- sides are off, it is at or below every value
    abbrev pub IsTaken : (K → K → Type 0) → (K → K → Type 0) → K → Type 0
    IsTaken as_left as_right y =
        Any (λ x. as_left x y) a
        ⊎ ((Any (λ x. as_right x y) b × All (λ x. order x y ≢ Equal) a)
        ⊎ ((f false false ≡ true) × ((x : K) → is_value x → is_le (order y x) ≡ true)))

    -- the one list that f makes of a and b, where an item of a stands as as_left says, one of b as
    -- as_right: itself, or as a copy
    pub record IsTheResult (as_left as_right : K → K → Type 0) (items : List K) : Type 0 where
      -- it is strictly sorted: each boundary is below every later one
      pub sorted : IsAscending order items
      -- its members are the connective of its sides' members
      pub members : HasTheMembers items
      -- any strictly sorted list with these members equals it item by item; where f is on while
      -- both sides are off, if both are lists of values
      pub unique : (other : List K) → IsAscending order other → HasTheMembers other →
          (f false false ≡ true → All is_value items × All is_value other) →
          AreEqual order items other
      -- where a has an equal boundary, that one stays, or in a new list a copy of it
      pub left_own_item : All (IsTaken as_left as_right) items

  -- a new list: an Ok is the one list, and holds copies
  abbrev pub GivesTheResult : (K → K → Type 0) → Table → List K → List K →
      Result (List K) AllocError → Type 0
  GivesTheResult is_copy f a b r = IfOk r (IsTheResult EveryElement f a b is_copy is_copy)

  -- in place with a borrowed right side
  pub record BecomesTheResult (is_copy : K → K → Type 0) (f : Table) (a b new : List K)
      (r : Result (Unit {0}) AllocError) : Type 0 where
    -- an Ok leaves the one list, of the left's own items and copies of the right's
    pub ok : OnOk r (IsTheResult EveryElement f a b IsItself is_copy new)
    -- an Err changes nothing
    pub unchanged : OnErr r (new ≡ a)

  -- in place with an owned right side
  pub record BecomesTheOwnResult (f : Table) (a b new : List K)
      (r : Result (Unit {0}) (AllocError × List K)) : Type 0 where
    -- an Ok leaves the one list, of the two sides' own items
    pub ok : OnOk r (IsTheResult EveryElement f a b IsItself IsItself new)
    -- an Err changes nothing
    pub unchanged : OnErr r (new ≡ a)
    -- and gives the right side back
    pub handed_back : IfErr r (λ refused. refused.1 ≡ b)

  -- a counted call on a and b, from one count to the other
  pub record CostsTwiceWeight (a b : List K) (before after : ℕ) (Fact : Type 0) : Type 0 where
    -- what it says of its result
    pub fact : Fact
    -- whatever the result, it adds at most twice the sum of the binary digits of the runs' lengths
    pub comparisons : AddsAtMost before after (2 * weight order a b)

  -- the list that `!` makes of a: of lists of values, the one
  pub record IsTheNegation (is_value : K → Type 0) (a items : List K) : Type 0 where
    -- it is strictly sorted, and has the values that a lacks
    pub negates : Negates order is_value items a
    -- of lists of values, any other that does so equals it item by item
    pub unique : (other : List K) → Negates order is_value other a →
        All is_value items → All is_value other → AreEqual order items other
