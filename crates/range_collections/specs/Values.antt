-- Sets among the values of their element type, each at the order and the predicate of a type.
--     Negates order is_value items a              the members of items among values are what is no member of a
--     AreSameAmongValues order is_value a b       both have the same members among values
--     IsEverything order is_value items           every value is a member
--     BeginsAt order least a                      the first item of a equals the least value
--     IsFlipped order least xs items              the items are xs with the least value removed from the front, or put there
--     AreFlipped order least IsList items         the same of a list of which IsList holds
--     MeansAmong order is_value f items a b       the members of items are f of the members of a and b, among values where f is on while both sides are off
--     HasLeastInFront order least rest items      the items are `rest` after an item that equals the least value
--     EqualsAreValues order is_value              whatever equals a value is a value
--     GivesNegation order is_value is_copy least infallible a r what `!` answers of a set by reference: the negation and its list, or out of memory unless it is infallible
--     GivesOwnNegation ..                         what `!` answers of an owned set: the same, with the set's own items
use Rattle.std.specs.Prelude.{◌≡◌, true, false, not, List, [], ◌∷◌, drop, All, Result, IsOk, IfOk}
use Rattle.std.specs.List.{AllZip}
use Rattle.std.specs.declared.alloc.AllocError.{AllocError}
use Rattle.std.specs.declared.cmp.Ordering.{Ordering}
use Rattle.std.specs.declared.cmp.Ordering.TheVariants.{Equal}
use Rattle.range_merge.specs.Boundaries.{IsAscending, member}
use Rattle.range_merge.specs.Connective.{Table}

module _ {K : Type 0} (order : K → K → Ordering) where
  -- the first item equals the least value
  abbrev pub BeginsAt : K → List K → Type 0
  BeginsAt least [] = ⊥
  BeginsAt least (x ∷ xs) = order x least ≡ Equal

  -- the items are `rest` itself, after an item that equals the least value
  abbrev pub HasLeastInFront : K → List K → List K → Type 0
  HasLeastInFront least rest items = (x : K) × (order x least ≡ Equal) × (items ≡ x ∷ rest)

  -- the items are xs itself without a first item that equals the least value, or else after such an
  -- item
  pub record IsFlipped (least : K) (xs items : List K) : Type 0 where
    pub removed : BeginsAt least xs → items ≡ drop 1 xs
    pub put : ¬ (BeginsAt least xs) → HasLeastInFront least xs items

  -- the items are a list of which IsList holds, flipped so
  abbrev pub AreFlipped : K → (List K → Type 0) → List K → Type 0
  AreFlipped least IsList items = (xs : List K) × IsList xs × IsFlipped least xs items

  module _ (is_value : K → Type 0) where
    -- whatever equals a value is a value
    abbrev pub EqualsAreValues : Type 0
    EqualsAreValues = (x y : K) → order x y ≡ Equal → is_value x → is_value y

    -- the first item, if there is one, is a value
    abbrev pub BeginsWithValue : List K → Type 0
    BeginsWithValue [] = Unit {0}
    BeginsWithValue (x ∷ xs) = is_value x

    -- the items are strictly sorted, and a value is a member of theirs exactly if it is none of a's
    pub record Negates (items a : List K) : Type 0 where
      pub sorted : IsAscending order items
      pub members : (x : K) → is_value x → member order items x ≡ not (member order a x)

    -- the items are strictly sorted, and their members are f of the members of a and of b: among
    -- values alone where f is on while both sides are off
    pub record MeansAmong (f : Table) (items a b : List K) : Type 0 where
      pub sorted : IsAscending order items
      pub members : (x : K) → (f false false ≡ true → is_value x) →
          member order items x ≡ f (member order a x) (member order b x)

    -- both have the same members among values
    abbrev pub AreSameAmongValues : List K → List K → Type 0
    AreSameAmongValues a b = (x : K) → is_value x → member order a x ≡ member order b x

    -- every value is a member
    abbrev pub IsEverything : List K → Type 0
    IsEverything items = (x : K) → is_value x → member order items x ≡ true

    -- an answer to `!` of a: an Ok is the negation, copies of the items of a without a first one
    -- that is the least value, or else after the least value; of values it holds values alone, if
    -- what equals a value is one; and where it is infallible it is an Ok
    pub record GivesNegation (is_copy : K → K → Type 0) (least : K) (infallible : Type 0) (a : List K)
        (r : Result (List K) AllocError) : Type 0 where
      pub negates : IfOk r (λ items. Negates items a)
      pub flipped : IfOk r (λ items. AreFlipped least (AllZip is_copy a) items)
      pub values : EqualsAreValues → All is_value a → IfOk r (λ items. All is_value items)
      pub succeeds : infallible → IsOk r

    -- the same of an owned set: the items of a are its own
    pub record GivesOwnNegation (least : K) (infallible : Type 0) (a : List K)
        (r : Result (List K) AllocError) : Type 0 where
      pub negates : IfOk r (λ items. Negates items a)
      pub flipped : IfOk r (λ items. IsFlipped least a items)
      pub values : EqualsAreValues → All is_value a → IfOk r (λ items. All is_value items)
      pub succeeds : infallible → IsOk r
