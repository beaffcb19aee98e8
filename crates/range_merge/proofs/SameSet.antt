-- Two ascending lists have the same members just where their items are equal, one by one.
use Rattle.std.proofs.Common.{◌≡◌, Bool, true, false, List, [], ◌∷◌, refl, sym, ap, ap₂, ◌∙◌, All, true≢false}
use Rattle.std.specs.List.{AllZip}
use Rattle.std.specs.Cmp.{IsTotalOrder}
use Rattle.std.specs.declared.cmp.Ordering.{Ordering}
use Rattle.std.specs.declared.cmp.Ordering.TheVariants.{Less, Equal}
use Rattle.std.specs.Ordering.{is_le}
use Rattle.range_merge.specs.Boundaries.{IsAscending, IsSameSet, member}
use Rattle.range_merge.specs.Connective.{differ}
use Rattle.range_merge.proofs.Orders.{Greater-from_less, Less-from_greater, Equal-self, same_left}
use Rattle.range_merge.proofs.Pairs.{AllPairs-head, AllPairs-tail}
use Rattle.range_merge.proofs.Members.{member-nil, member-cons, member-above, by_Ordering}

pub differ-cancel : (b c d : Bool) → differ b c ≡ differ b d → c ≡ d
differ-cancel true true true h = refl
differ-cancel true true false h = cc
differ-cancel true false true h = cc
differ-cancel true false false h = refl
differ-cancel false c d h = h

module _ {K : Type 0} {order : K → K → Ordering} (o : IsTotalOrder order) where
  -- where x is below every item, no item is at or below it
  pub member-below_all : (l : List K) (x : K) → All (λ y. order x y ≡ Less) l → member order l x ≡ false
  member-below_all l x h = member-above order l x (λ k d within. Greater-from_less o _ _ (h k d within))

  -- an item below all later ones is a member
  pub member-head : (x : K) (xs : List K) → IsAscending order (x ∷ xs) → member order (x ∷ xs) x ≡ true
  member-head x xs h =
      member-cons order x xs x ∙ ap₂ differ (ap is_le (Equal-self o x)) (member-below_all xs x (AllPairs-head (λ y z. order y z ≡ Less) x xs h))

  -- an item below the first of a list is no member of it
  pub member-before : (x y : K) (ys : List K) → order x y ≡ Less → IsAscending order (y ∷ ys) → member order (y ∷ ys) x ≡ false
  member-before x y ys l h =
      let above = AllPairs-head (λ y z. order y z ≡ Less) y ys h in
      member-cons order y ys x
      ∙ ap₂ differ (ap is_le (Greater-from_less o x y l)) (member-below_all ys x (λ k d within. o.trans x y _ l (above k d within)))

  -- of two lists with the same members and equal heads the tails have the same members
  IsSameSet-tail : (x y : K) (xs ys : List K) → order x y ≡ Equal → IsSameSet order (x ∷ xs) (y ∷ ys) → IsSameSet order xs ys
  IsSameSet-tail x y xs ys e h z =
      differ-cancel (is_le (order x z)) (member order xs z) (member order ys z)
      (sym (member-cons order x xs z) ∙ h z ∙ member-cons order y ys z ∙ ap (λ r. differ (is_le r) (member order ys z)) (sym (same_left o x y z e)))

  pub same_items : (a b : List K) → IsAscending order a → IsAscending order b → IsSameSet order a b → AllZip (λ x y. order x y ≡ Equal) a b
  same_items [] [] p q h = tt
  same_items [] (y ∷ ys) p q h = true≢false (sym (member-head y ys q) ∙ sym (h y) ∙ member-nil order y)
  same_items (x ∷ xs) [] p q h = true≢false (sym (member-head x xs p) ∙ h x ∙ member-nil order x)
  same_items (x ∷ xs) (y ∷ ys) p q h =
      let R = λ (y z : K). order y z ≡ Less in
      by_Ordering (order x y)
      (λ l. absurd (true≢false (sym (member-head x xs p) ∙ h x ∙ member-before x y ys l q)))
      (λ e. (e, same_items xs ys (AllPairs-tail R x xs p) (AllPairs-tail R y ys q) (IsSameSet-tail x y xs ys e h)))
      (λ g. absurd (true≢false (sym (member-head y ys q) ∙ sym (h y) ∙ member-before y x xs (Less-from_greater o x y g) p)))

  pub IsSameSet-from_items : (a b : List K) → AllZip (λ x y. order x y ≡ Equal) a b → IsSameSet order a b
  IsSameSet-from_items [] [] h z = refl
  IsSameSet-from_items [] (y ∷ ys) h z = absurd h
  IsSameSet-from_items (x ∷ xs) [] h z = absurd h
  IsSameSet-from_items (x ∷ xs) (y ∷ ys) h z =
      member-cons order x xs z
      ∙ ap₂ (λ r m. differ (is_le r) m) (same_left o x y z h.0) (IsSameSet-from_items xs ys h.1 z)
      ∙ sym (member-cons order y ys z)
