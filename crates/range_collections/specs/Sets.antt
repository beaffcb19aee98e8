-- Questions about two sets, by their members.
--     IsSubset order a b          every member of a is one of b
--     Intersects order a b        some element is a member of both
--     IsDisjoint order a b        no element is a member of both
--     HasMember order f a b       some element is a member of what the connective f makes of them
--     AreEqual order a b          the lists are equal item by item
use Rattle.std.specs.Prelude.{◌≡◌, true, false, List}
use Rattle.std.specs.List.{AllZip}
use Rattle.std.specs.declared.cmp.Ordering.{Ordering}
use Rattle.std.specs.declared.cmp.Ordering.TheVariants.{Equal}
use Rattle.range_merge.specs.Boundaries.{member}
use Rattle.range_merge.specs.Connective.{Table}

module _ {K : Type 0} (order : K → K → Ordering) where
  -- every member of a is one of b
  abbrev pub IsSubset : List K → List K → Type 0
  IsSubset a b = (x : K) → member order a x ≡ true → member order b x ≡ true

  -- some element is a member of both
  abbrev pub Intersects : List K → List K → Type 0
  Intersects a b = (x : K) × (member order a x ≡ true) × (member order b x ≡ true)

  -- no element that is a member of a is one of b
  abbrev pub IsDisjoint : List K → List K → Type 0
  IsDisjoint a b = (x : K) → member order a x ≡ true → member order b x ≡ false

  -- some element is a member of what the connective makes of a and b
  abbrev pub HasMember : Table → List K → List K → Type 0
  HasMember f a b = (x : K) × (f (member order a x) (member order b x) ≡ true)

  -- one length, and item by item the order's Equal
  abbrev pub AreEqual : List K → List K → Type 0
  AreEqual a b = AllZip (λ x y. order x y ≡ Equal) a b
