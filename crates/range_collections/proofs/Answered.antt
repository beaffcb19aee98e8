-- What laws of answers cite: how long a negation is, and of which item a boundary is a copy.
use Rattle.std.proofs.Common.{◌≡◌, ◌⊎◌, inl, inr, ap, ◌∙◌, sym, subst, ◌+◌, Option, Some, List, [], ◌∷◌, length, drop, arith}
use Rattle.std.specs.Cmp.{IsTotalOrder}
use Rattle.std.specs.List.{AllZip}
use Rattle.std.proofs.lemmas.List.Elements.{length_all_zip}
use Rattle.std.specs.declared.cmp.Ordering.{Ordering}
use Rattle.range_collections.specs.Values.{BeginsAt, HasLeastInFront, IsFlipped, AreFlipped}
use Rattle.range_collections.proofs.Values.{by_BeginsAt}

-- what is a copy of the item that was found is one of any that is found there
pub is_copy-found : {K : Type 0} (is_copy : K → K → Type 0) (found : Option K) (x y : K) →
    ((z : K) × (found ≡ Some z) × is_copy z y) → found ≡ Some x → is_copy x y
is_copy-found is_copy found x y (z, e, copy) first =
    let same : z ≡ x = cc in
    subst (λ w. is_copy w y) same copy

module _ {K : Type 0} {order : K → K → Ordering} (o : IsTotalOrder order) (least : K) (items : List K) where
  -- with the least value put in front or removed there, it is one item longer or shorter
  pub length-flipped : (xs : List K) → IsFlipped order least xs items →
      (length items + 1 ≡ length xs) ⊎ (length items ≡ length xs + 1)
  length-flipped xs h =
      by_BeginsAt o least xs
      (λ begins. inl (removed xs begins (h.removed begins)))
      (λ no. inr (put (h.put no)))
    where
      removed : (xs : List K) → BeginsAt order least xs → items ≡ drop 1 xs → length items + 1 ≡ length xs
      removed [] begins e = absurd begins
      removed (x ∷ xs) begins e = ap (λ l. length l + 1) e ∙ omega arith

      put : HasLeastInFront order least xs items → length items ≡ length xs + 1
      put (x, e, is) = ap length is ∙ omega arith

  -- so are copies
  pub length-flipped_copies : (is_copy : K → K → Type 0) (a : List K) → AreFlipped order least (AllZip is_copy a) items →
      (length items + 1 ≡ length a) ⊎ (length items ≡ length a + 1)
  length-flipped_copies is_copy a (xs, copies, flipped) =
      subst (λ n. (length items + 1 ≡ n) ⊎ (length items ≡ n + 1)) (sym (length_all_zip is_copy a xs copies)) (length-flipped xs flipped)
