-- The owners of two lists: the distinct items of both in order, each marked left, right or shared.
--     owners order a b            the owners
--     IsOwners order a b os       what pins them: os is that list, and no other is
use Rattle.std.specs.Prelude.{◌≡◌, List, [], ◌∷◌, map, All, AllPairs}
use Rattle.std.specs.declared.cmp.Ordering.{Ordering}
use Rattle.std.specs.declared.cmp.Ordering.TheVariants.{Less, Equal, Greater}

-- an item of the left alone, of the right alone, or an item of each that are equal
pub data Owner (K : Type 0) : Type 0 where
  left_only : K → Owner K
  right_only : K → Owner K
  shared : K → K → Owner K

module _ {K : Type 0} where
  -- the item that stands for an owner: of two that are equal the left's
  abbrev pub item_of : Owner K → K
  item_of (left_only x) = x
  item_of (right_only y) = y
  item_of (shared x y) = x

  -- the left's items among the owners
  abbrev pub left_items : List (Owner K) → List K
  left_items [] = []
  left_items (left_only x ∷ os) = x ∷ left_items os
  left_items (right_only y ∷ os) = left_items os
  left_items (shared x y ∷ os) = x ∷ left_items os

  -- the right's items among the owners
  abbrev pub right_items : List (Owner K) → List K
  right_items [] = []
  right_items (left_only x ∷ os) = right_items os
  right_items (right_only y ∷ os) = y ∷ right_items os
  right_items (shared x y ∷ os) = y ∷ right_items os

  module _ (order : K → K → Ordering) where
    -- the owners ascend
    abbrev pub OwnersAscend : List (Owner K) → Type 0
    OwnersAscend os = AllPairs (λ o p. order (item_of o) (item_of p) ≡ Less) os

    -- the two items of a shared owner are equal
    abbrev pub IsShare : Owner K → Type 0
    IsShare (left_only x) = Unit {0}
    IsShare (right_only y) = Unit {0}
    IsShare (shared x y) = order x y ≡ Equal

    -- the owners ascend, the left's items among them are a, the right's are b, and shared ones are
    -- equal
    pub record IsOwners (a b : List K) (os : List (Owner K)) : Type 0 where
      pub ascend : OwnersAscend os
      pub lefts : left_items os ≡ a
      pub rights : right_items os ≡ b
      pub equal : All IsShare os

    -- y among the owners, put by the way it compares with the first: before it, into it, or after
    -- it
    abbrev pub with_right_at : Ordering → K → Owner K → List (Owner K) → List (Owner K) →
        List (Owner K)
    with_right_at Less y o os after = right_only y ∷ o ∷ os
    with_right_at Equal y o os after = shared (item_of o) y ∷ os
    with_right_at Greater y o os after = o ∷ after

    -- the owners with an item of the right put in its place
    unfoldable pub with_right : K → List (Owner K) → List (Owner K)
    with_right y [] = right_only y ∷ []
    with_right y (o ∷ os) = with_right_at (order y (item_of o)) y o os (with_right y os)

    -- the left's items, with each of the right's put in its place
    unfoldable pub owners : List K → List K → List (Owner K)
    owners a [] = map left_only a
    owners a (y ∷ ys) = with_right y (owners a ys)
