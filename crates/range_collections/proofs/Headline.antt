-- What each operation gives is the one list of its sides.
use Rattle.std.proofs.Common.{◌≡◌, ◌≢◌, refl, sym, ◌∙◌, ap, inl, inr, true, false, true≢false, List, [], ◌∷◌, All, Any, Contains, drop, Result, Ok, Err, IfOk}
use Rattle.std.specs.Cmp.{IsTotalOrder}
use Rattle.std.specs.Ordering.{is_le}
use Rattle.std.proofs.lemmas.Cmp.{alike_right}
use Rattle.std.proofs.lemmas.List.Elements.{All-nil, All-cons, All-head, All-tail, All-weaker, All-contains}
use Rattle.std.specs.declared.alloc.AllocError.{AllocError}
use Rattle.std.specs.declared.cmp.Ordering.{Ordering}
use Rattle.std.specs.declared.cmp.Ordering.TheVariants.{Less, Equal}
use Rattle.range_merge.specs.Changes.{Taken, from_left, from_right, taken_item, changes, IsMarkedTruly}
use Rattle.range_merge.specs.Connective.{Table}
use Rattle.range_merge.specs.Copies.{AreCopies}
use Rattle.range_merge.proofs.Members.{by_Ordering}
use Rattle.range_merge.proofs.Orders.{Less-from_greater, same_left}
use Rattle.range_collections.specs.Headline.{EveryElement, IsItself, IsTaken, IsTheResult, GivesTheResult, BecomesTheResult, BecomesTheOwnResult, IsTheNegation}
use Rattle.range_collections.specs.InPlace.{IsOwnElse, AreOwnElseOf, IsChangedByView, IsChangedByOwned}
use Rattle.range_collections.specs.Operators.{GivesOperation}
use Rattle.range_collections.specs.Sets.{AreEqual}
use Rattle.range_collections.specs.Values.{MeansAmong, Negates, HasLeastInFront, IsFlipped, AreFlipped, EqualsAreValues}
use Rattle.range_collections.proofs.Combined.{by_Bool, MeansAmong-from_means, AreEqual-combined}
use Rattle.range_collections.proofs.Values.{by_BeginsAt, same_values}

module _ {K : Type 0} {order : K → K → Ordering} (o : IsTotalOrder order) where
  -- a list that means the connective is the one list, if its items are taken as they should be
  module _ (is_value : K → Type 0) (f : Table) (a b : List K) (as_left as_right : K → K → Type 0) where
    pub IsTheResult-among : (items : List K) → MeansAmong order is_value f items a b → All (IsTaken order is_value f a b as_left as_right) items →
        IsTheResult order is_value f a b as_left as_right items
    IsTheResult-among items m taken = record {
      sorted = m.sorted;
      members = m.members;
      unique = λ other up has values.
          AreEqual-combined o is_value f a b a b items other values m (record { sorted = up; members = has }) (λ x. refl) (λ x. refl);
      left_own_item = taken;
    }

  -- an item of a list stands there itself
  itself : (y : K) (a : List K) → Contains a y → Any (λ x. IsItself x y) a
  itself y a h = (h.0, y, h.1, h.2, refl)

  -- in place: which item is whose

  module _ (f : Table) (a b : List K) where
    IsTaken-own : (y : K) → IsOwnElse order (Contains b) a y → IsTaken order EveryElement f a b IsItself IsItself y
    IsTaken-own y (inl own) = inl (itself y a own)
    IsTaken-own y (inr other) = inr (inl (itself y b other.0, other.1))

    IsTaken-own_or_copy : (is_copy : K → K → Type 0) (y : K) → IsOwnElse order (λ z. Any (λ x. is_copy x z) b) a y →
        IsTaken order EveryElement f a b IsItself is_copy y
    IsTaken-own_or_copy is_copy y (inl own) = inl (itself y a own)
    IsTaken-own_or_copy is_copy y (inr other) = inr (inl other)

    pub BecomesTheResult-by_view : (is_copy : K → K → Type 0) (is_infallible : K → Type 0) (room : _) (new : List K) (r : Result (Unit {0}) AllocError) →
        IsChangedByView order is_copy is_infallible f room a b new r → BecomesTheResult order is_copy f a b new r
    BecomesTheResult-by_view is_copy is_infallible room new (Ok u) h = record {
      ok =
          IsTheResult-among EveryElement f a b IsItself is_copy new (MeansAmong-from_means order EveryElement f new a b h.means)
          (All-weaker (IsOwnElse order (λ z. Any (λ x. is_copy x z) b) a) (IsTaken order EveryElement f a b IsItself is_copy) (IsTaken-own_or_copy is_copy) new h.left_own_item);
      unchanged = tt;
    }
    BecomesTheResult-by_view is_copy is_infallible room new (Err e) h = record { ok = tt; unchanged = h.unchanged }

    pub BecomesTheOwnResult-by_owned : (room : _) (new : List K) (r : Result (Unit {0}) (AllocError × List K)) →
        IsChangedByOwned order f room a b new r → BecomesTheOwnResult order f a b new r
    BecomesTheOwnResult-by_owned room new (Ok u) h = record {
      ok =
          IsTheResult-among EveryElement f a b IsItself IsItself new (MeansAmong-from_means order EveryElement f new a b h.means)
          (All-weaker (IsOwnElse order (Contains b) a) (IsTaken order EveryElement f a b IsItself IsItself) IsTaken-own new h.left_own_item);
      unchanged = tt;
      handed_back = tt;
    }
    BecomesTheOwnResult-by_owned room new (Err e) h = record { ok = tt; unchanged = h.unchanged; handed_back = h.handed_back }

  -- a new list

  module _ {is_copy : K → K → Type 0} (equal : (x y : K) → is_copy x y → order x y ≡ Equal) where
    module _ (is_value : K → Type 0) (f : Table) (a b : List K) where
      IsTaken-copied : (t : Taken K) (y : K) → IsMarkedTruly order a b t → is_copy (taken_item t) y → IsTaken order is_value f a b is_copy is_copy y
      IsTaken-copied (from_left x) y h same = inl (h.0, x, h.1, h.2, same)
      IsTaken-copied (from_right z) y h same =
          inr (inl (
            (h.0.0, z, h.0.1, h.0.2, same),
            All-weaker (λ x. order x z ≢ Equal) (λ x. order x y ≢ Equal) (λ x no e. no (alike_right o z y x (equal z y same) ∙ e)) a h.1,
          ))

      pub AreTaken-copied : (ts : List (Taken K)) (ys : List K) → All (IsMarkedTruly order a b) ts → AreCopies is_copy ts ys →
          All (IsTaken order is_value f a b is_copy is_copy) ys
      AreTaken-copied [] [] h same = All-nil (IsTaken order is_value f a b is_copy is_copy)
      AreTaken-copied [] (y ∷ ys) h same = absurd same
      AreTaken-copied (t ∷ ts) [] h same = absurd same
      AreTaken-copied (t ∷ ts) (y ∷ ys) h same =
          All-cons (IsTaken order is_value f a b is_copy is_copy) y ys (IsTaken-copied t y (All-head (IsMarkedTruly order a b) t ts h) same.0)
          (AreTaken-copied ts ys (All-tail (IsMarkedTruly order a b) t ts h) same.1)

    -- of lists of values, the copies are values
    module _ (is_value : K → Type 0) (equals : EqualsAreValues order is_value) (a b : List K) (v : All is_value a) (w : All is_value b) where
      is_value-copied : (t : Taken K) (y : K) → IsMarkedTruly order a b t → is_copy (taken_item t) y → is_value y
      is_value-copied (from_left x) y h same = equals x y (equal x y same) (All-contains is_value a x v h)
      is_value-copied (from_right z) y h same = equals z y (equal z y same) (All-contains is_value b z w h.0)

      pub AreValues-copied : (ts : List (Taken K)) (ys : List K) → All (IsMarkedTruly order a b) ts → AreCopies is_copy ts ys → All is_value ys
      AreValues-copied [] [] h same = All-nil is_value
      AreValues-copied [] (y ∷ ys) h same = absurd same
      AreValues-copied (t ∷ ts) [] h same = absurd same
      AreValues-copied (t ∷ ts) (y ∷ ys) h same =
          All-cons is_value y ys (is_value-copied t y (All-head (IsMarkedTruly order a b) t ts h) same.0)
          (AreValues-copied ts ys (All-tail (IsMarkedTruly order a b) t ts h) same.1)

    pub GivesTheResult-copied : (is_infallible : K → Type 0) (f : Table) (room : _) (a b : List K) (r : Result (List K) AllocError) →
        All (IsMarkedTruly order a b) (changes order f a b) → GivesOperation order is_copy is_infallible f room a b r → GivesTheResult order is_copy f a b r
    GivesTheResult-copied is_infallible f room a b (Ok items) marks h =
        IsTheResult-among EveryElement f a b is_copy is_copy items (MeansAmong-from_means order EveryElement f items a b h.means)
        (AreTaken-copied EveryElement f a b (changes order f a b) items marks h.left_own_item)
    GivesTheResult-copied is_infallible f room a b (Err e) marks h = tt

    -- any connective: where it is on while both sides are off, the copies with the least value
    -- removed from the front or put there
    module _ (is_value : K → Type 0) (least : K) (lowest : (x : K) → is_value x → order x least ≢ Less) (f : Table) (a b : List K) where
      at_or_below : (y x : K) → order y least ≡ Equal → is_value x → is_le (order y x) ≡ true
      at_or_below y x e v =
          ap is_le (same_left o y least x e)
          ∙ by_Ordering (order least x) (λ l. ap is_le l) (λ q. ap is_le q) (λ g. absurd (lowest x v (Less-from_greater o least x g)))

      AreTaken-flipped : (xs items : List K) → f false false ≡ true → All (IsTaken order is_value f a b is_copy is_copy) xs → IsFlipped order least xs items →
          All (IsTaken order is_value f a b is_copy is_copy) items
      AreTaken-flipped xs items on h w =
          by_BeginsAt o least xs (λ begins. rw (w.removed begins) (rest xs h)) (λ elsewhere. in_front (w.put elsewhere))
        where
          P : K → Type 0
          P = IsTaken order is_value f a b is_copy is_copy

          rest : (ys : List K) → All P ys → All P (drop 1 ys)
          rest [] p = All-nil P
          rest (y ∷ ys) p = All-tail P y ys p

          in_front : HasLeastInFront order least xs items → All P items
          in_front (x, e, is) = rw is (All-cons P x xs (inr (inr (on, λ y v. at_or_below x y e v))) h)

      pub IsTheResult-combined : (r : Result (List K) AllocError) → All (IsMarkedTruly order a b) (changes order f a b) →
          IfOk r (λ items. MeansAmong order is_value f items a b) →
          (f false false ≡ false → IfOk r (AreCopies is_copy (changes order f a b))) →
          (f false false ≡ true → IfOk r (AreFlipped order least (AreCopies is_copy (changes order f a b)))) →
          IfOk r (IsTheResult order is_value f a b is_copy is_copy)
      IsTheResult-combined (Ok items) marks means copied flipped =
          IsTheResult-among is_value f a b is_copy is_copy items means
          (by_Bool (f false false)
          (λ off. AreTaken-copied is_value f a b (changes order f a b) items marks (copied off))
          (λ on. of_flipped on (flipped on)))
        where
          of_flipped : f false false ≡ true → AreFlipped order least (AreCopies is_copy (changes order f a b)) items →
              All (IsTaken order is_value f a b is_copy is_copy) items
          of_flipped on (copies, h, w) = AreTaken-flipped copies items on (AreTaken-copied is_value f a b (changes order f a b) copies marks h) w
      IsTheResult-combined (Err e) marks means copied flipped = tt

  -- negation

  pub IsTheNegation-negates : (is_value : K → Type 0) (a : List K) (r : Result (List K) AllocError) → IfOk r (λ items. Negates order is_value items a) →
      IfOk r (IsTheNegation order is_value a)
  IsTheNegation-negates is_value a (Ok items) h = record {
    negates = h;
    unique = λ other n v w. same_values o is_value items other v w h.sorted n.sorted (λ x u. h.members x u ∙ sym (n.members x u));
  }
  IsTheNegation-negates is_value a (Err e) h = tt

  -- laws

  no_values : (is_value : K → Type 0) (f : Table) (xs ys : List K) → f false false ≡ false → f false false ≡ true → All is_value xs × All is_value ys
  no_values is_value f xs ys off on = absurd (true≢false (sym on ∙ off))

  pub AreEqual-results : (f : Table) (a b xs ys : List K) (l r l2 r2 : K → K → Type 0) → f false false ≡ false →
      IsTheResult order EveryElement f a b l r xs → IsTheResult order EveryElement f a b l2 r2 ys → AreEqual order xs ys
  AreEqual-results f a b xs ys l r l2 r2 off m n = m.unique ys n.sorted n.members (no_values EveryElement f xs ys off)

  pub MeansAmong-result : (is_value : K → Type 0) (f : Table) (a b items : List K) (l r : K → K → Type 0) →
      IsTheResult order is_value f a b l r items → MeansAmong order is_value f items a b
  MeansAmong-result is_value f a b items l r h = record { sorted = h.sorted; members = h.members }

  of_two : (f : Table) (a b : List K) (y : K) → f false false ≡ false → IsTaken order EveryElement f a b IsItself IsItself y → IsOwnElse order (Contains b) a y
  of_two f a b y off (inl (i, x, within, at, same)) = inl (i, within, rw same at)
  of_two f a b y off (inr (inl ((i, x, within, at, same), none))) = inr ((i, within, rw same at), none)
  of_two f a b y off (inr (inr (on, low))) = absurd (true≢false (sym on ∙ off))

  pub AreOwnElseOf-result : (f : Table) (a b items : List K) → f false false ≡ false → IsTheResult order EveryElement f a b IsItself IsItself items →
      AreOwnElseOf order a b items
  AreOwnElseOf-result f a b items off h =
      All-weaker (IsTaken order EveryElement f a b IsItself IsItself) (IsOwnElse order (Contains b) a) (λ y t. of_two f a b y off t) items h.left_own_item
