-- Counts of items at or below x, one item at a time.
use Rattle.std.proofs.Common.{◌≡◌, suc, Bool, true, false, cond, List, [], ◌∷◌, length, filter, refl, ap, ap₂, ◌∙◌, All}
use Rattle.std.proofs.lemmas.List.Elements.{All-head, All-tail}
use Rattle.std.specs.declared.cmp.Ordering.{Ordering}
use Rattle.std.specs.declared.cmp.Ordering.TheVariants.{Less, Equal, Greater}
use Rattle.std.specs.Ordering.{is_le, is_lt}
use Rattle.range_merge.specs.Boundaries.{is_odd, count_up_to, count_below, member}
use Rattle.range_merge.specs.Connective.{differ}
use Rattle.range_merge.proofs.Parity.{is_odd-cond}

pub length-cond : {X : Type 0} (b : Bool) (x : X) (xs : List X) → length (cond b (x ∷ xs) xs) ≡ cond b (suc (length xs)) (length xs)
length-cond true x xs = refl
length-cond false x xs = refl

module _ {K : Type 0} (order : K → K → Ordering) where
  pub count_up_to-nil : (x : K) → count_up_to order [] x ≡ 0
  unfolding count_up_to
  count_up_to-nil x = refl

  pub count_below-nil : (x : K) → count_below order [] x ≡ 0
  unfolding count_below
  count_below-nil x = refl

  pub count_up_to-cons : (y : K) (l : List K) (x : K) → count_up_to order (y ∷ l) x ≡ cond (is_le (order y x)) (suc (count_up_to order l x)) (count_up_to order l x)
  unfolding count_up_to
  count_up_to-cons y l x = length-cond (is_le (order y x)) y (filter (λ z. is_le (order z x)) l)

  pub count_below-cons : (y : K) (l : List K) (x : K) → count_below order (y ∷ l) x ≡ cond (is_lt (order y x)) (suc (count_below order l x)) (count_below order l x)
  unfolding count_below
  count_below-cons y l x = length-cond (is_lt (order y x)) y (filter (λ z. is_lt (order z x)) l)

  pub member-nil : (x : K) → member order [] x ≡ false
  member-nil x = ap is_odd (count_up_to-nil x)

  pub member-cons : (y : K) (l : List K) (x : K) → member order (y ∷ l) x ≡ differ (is_le (order y x)) (member order l x)
  member-cons y l x = ap is_odd (count_up_to-cons y l x) ∙ is_odd-cond (is_le (order y x)) (count_up_to order l x)

  -- whether an odd number of items is strictly below x
  abbrev pub odd_below : List K → K → Bool
  odd_below l x = is_odd (count_below order l x)

  pub odd_below-nil : (x : K) → odd_below [] x ≡ false
  odd_below-nil x = ap is_odd (count_below-nil x)

  pub odd_below-cons : (y : K) (l : List K) (x : K) → odd_below (y ∷ l) x ≡ differ (is_lt (order y x)) (odd_below l x)
  odd_below-cons y l x = ap is_odd (count_below-cons y l x) ∙ is_odd-cond (is_lt (order y x)) (count_below order l x)

  -- no item is at or below x where all are above it
  pub member-above : (l : List K) (x : K) → All (λ y. order y x ≡ Greater) l → member order l x ≡ false
  member-above [] x h = member-nil x
  member-above (y ∷ l) x h =
      member-cons y l x ∙ ap₂ differ (ap is_le (All-head (λ y. order y x ≡ Greater) y l h)) (member-above l x (All-tail (λ y. order y x ≡ Greater) y l h))

  pub odd_below-above : (l : List K) (x : K) → All (λ y. order y x ≡ Greater) l → odd_below l x ≡ false
  odd_below-above [] x h = odd_below-nil x
  odd_below-above (y ∷ l) x h =
      odd_below-cons y l x ∙ ap₂ differ (ap is_lt (All-head (λ y. order y x ≡ Greater) y l h)) (odd_below-above l x (All-tail (λ y. order y x ≡ Greater) y l h))

-- the three ways in which two items can stand
pub by_Ordering : {G : Type 0} (r : Ordering) → (r ≡ Less → G) → (r ≡ Equal → G) → (r ≡ Greater → G) → G
by_Ordering Less l e g = l refl
by_Ordering Equal l e g = e refl
by_Ordering Greater l e g = g refl
