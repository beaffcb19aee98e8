-- A list of copies, each equal to its source, has the same order and the same members.
use Rattle.std.proofs.Common.{◌≡◌, refl, sym, ap, ◌∙◌, List, [], ◌∷◌, All}
use Rattle.std.specs.List.{AllZip}
use Rattle.std.specs.Cmp.{IsTotalOrder}
use Rattle.std.proofs.lemmas.Cmp.{alike_right}
use Rattle.std.proofs.lemmas.List.Elements.{All-nil, All-cons, All-head, All-tail}
use Rattle.std.specs.declared.cmp.Ordering.{Ordering}
use Rattle.std.specs.declared.cmp.Ordering.TheVariants.{Less, Equal}
use Rattle.range_merge.specs.Boundaries.{IsAscending, count_up_to, member, is_odd}
use Rattle.range_merge.specs.Changes.{Taken, taken_item, taken_items}
use Rattle.range_merge.specs.Connective.{Table, Means}
use Rattle.range_merge.specs.Copies.{AreCopies}
use Rattle.range_collections.proofs.Ascending.{IsAscending-nil, IsAscending-head, IsAscending-tail, IsAscending-cons}
use Rattle.range_merge.proofs.Members.{count_up_to-cons}

-- what was copied is equal, item by item
pub copied-equal : {K : Type 0} {order : K → K → Ordering} {is_copy : K → K → Type 0} → ((x y : K) → is_copy x y → order x y ≡ Equal) → (ts : List (Taken K)) (xs : List K) →
    AreCopies is_copy ts xs → AllZip (λ t x. order (taken_item t) x ≡ Equal) ts xs
copied-equal equal [] [] h = h
copied-equal equal [] (x ∷ xs) h = h
copied-equal equal (t ∷ ts) [] h = h
copied-equal equal (t ∷ ts) (x ∷ xs) h = (equal (taken_item t) x h.0, copied-equal equal ts xs h.1)

module _ {K : Type 0} {order : K → K → Ordering} (o : IsTotalOrder order) where
  -- what is below every item of a list is below each copy too
  All-copies : (w v : K) (ts : List (Taken K)) (xs : List K) → order w v ≡ Equal → AllZip (λ t x. order (taken_item t) x ≡ Equal) ts xs →
      All (λ y. order w y ≡ Less) (taken_items ts) → All (λ y. order v y ≡ Less) xs
  All-copies w v [] [] e h low = All-nil (λ y. order v y ≡ Less)
  All-copies w v [] (y ∷ ys) e h low = absurd h
  All-copies w v (t ∷ ts) [] e h low = absurd h
  All-copies w v (t ∷ ts) (y ∷ ys) e h low =
      All-cons (λ z. order v z ≡ Less) y ys
      (sym (o.congr w v y e) ∙ sym (alike_right o (taken_item t) y w h.0) ∙
      All-head (λ z. order w z ≡ Less) (taken_item t) (taken_items ts) low)
      (All-copies w v ts ys e h.1 (All-tail (λ z. order w z ≡ Less) (taken_item t) (taken_items ts) low))

  pub IsAscending-copies : (ts : List (Taken K)) (xs : List K) → AllZip (λ t x. order (taken_item t) x ≡ Equal) ts xs →
      IsAscending order (taken_items ts) → IsAscending order xs
  IsAscending-copies [] [] h up = IsAscending-nil order
  IsAscending-copies [] (x ∷ xs) h up = absurd h
  IsAscending-copies (t ∷ ts) [] h up = absurd h
  IsAscending-copies (t ∷ ts) (x ∷ xs) h up =
      IsAscending-cons order x xs
      (All-copies (taken_item t) x ts xs h.0 h.1 (IsAscending-head order (taken_item t) (taken_items ts) up))
      (IsAscending-copies ts xs h.1 (IsAscending-tail order (taken_item t) (taken_items ts) up))

  pub count_up_to-copies : (ts : List (Taken K)) (xs : List K) → AllZip (λ t x. order (taken_item t) x ≡ Equal) ts xs →
      (z : K) → count_up_to order xs z ≡ count_up_to order (taken_items ts) z
  count_up_to-copies [] [] h z = refl
  count_up_to-copies [] (x ∷ xs) h z = absurd h
  count_up_to-copies (t ∷ ts) [] h z = absurd h
  count_up_to-copies (t ∷ ts) (x ∷ xs) h z =
      rw (count_up_to-cons order x xs z, count_up_to-cons order (taken_item t) (taken_items ts) z, o.congr (taken_item t) x z h.0, count_up_to-copies ts xs h.1 z)

  pub member-copies : (ts : List (Taken K)) (xs : List K) → AllZip (λ t x. order (taken_item t) x ≡ Equal) ts xs →
      (z : K) → member order xs z ≡ member order (taken_items ts) z
  member-copies ts xs h z = ap is_odd (count_up_to-copies ts xs h z)

  -- copies mean what their sources mean
  pub Means-copies : (f : Table) (ts : List (Taken K)) (xs a b : List K) → AllZip (λ t x. order (taken_item t) x ≡ Equal) ts xs →
      Means order f (taken_items ts) a b → Means order f xs a b
  Means-copies f ts xs a b h m = record {
    sorted = IsAscending-copies ts xs h m.sorted;
    members = λ z. member-copies ts xs h z ∙ m.members z;
  }
