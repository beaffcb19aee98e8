-- Whether two sets meet; contracts of private functions use these words.
--     IsMet order inside a b        some member of a is one of b, or where `inside` is false, is none of b
--     IsNotMet order inside a b     no member of a is so
use Rattle.std.specs.Prelude.{◌≡◌, Bool, true, not, List}
use Rattle.std.specs.declared.cmp.Ordering.{Ordering}
use Rattle.range_merge.specs.Boundaries.{member}

module _ {K : Type 0} (order : K → K → Ordering) (inside : Bool) where
  -- some member of a is one of b exactly if `inside`
  abbrev pub IsMet : List K → List K → Type 0
  IsMet a b = (x : K) × (member order a x ≡ true) × (member order b x ≡ inside)

  -- none is
  abbrev pub IsNotMet : List K → List K → Type 0
  IsNotMet a b = (x : K) → member order a x ≡ true → member order b x ≡ not inside
