-- Any connective of two sets: what the changes of one mean, and what becomes of them where the
-- connective is on while both sides are off.
use Rattle.std.proofs.Common.{◌≡◌, ◌↔◌, refl, sym, ap, ap₂, ◌∙◌, ℕ, Bool, true, false, not, List, [], ◌∷◌, length, All, Contains, subst, arith, Result, IsOk, IfOk, true≢false}
use Rattle.std.specs.List.{AllZip}
use Rattle.std.specs.Cmp.{IsTotalOrder}
use Rattle.std.proofs.lemmas.List.{length-map}
use Rattle.std.proofs.lemmas.List.Elements.{All-head, All-tail, All-map, All-weaker, All-contains_itself, length_all_zip}
use Rattle.std.proofs.lemmas.Result.{IfOk-weaker}
use Rattle.std.specs.declared.alloc.AllocError.{AllocError}
use Rattle.std.specs.declared.cmp.Ordering.{Ordering}
use Rattle.std.specs.declared.cmp.Ordering.TheVariants.{Equal}
use Rattle.range_merge.specs.Boundaries.{IsAscending, IsSameSet, member}
use Rattle.range_merge.specs.Changes.{Taken, from_left, from_right, taken_item, taken_items, IsMarkedTruly}
use Rattle.range_merge.specs.Copies.{AreCopies}
use Rattle.range_merge.specs.Connective.{Table, Means, opposite, table_of, union_table}
use Rattle.range_merge.proofs.Orders.{Equal-sym}
use Rattle.range_merge.proofs.SameSet.{same_items, IsSameSet-from_items}
use Rattle.range_collections.specs.Sets.{AreEqual}
use Rattle.range_collections.specs.Values.{AreFlipped, Negates, MeansAmong, GivesNegation, IsEverything}
use Rattle.range_collections.proofs.Distinct.{same-contained}
use Rattle.range_collections.proofs.Values.{not-not, IsAscending-equal, All-equal, All-flipped, same_values}

-- truths

-- what follows either way
pub by_Bool : {A : Type 0} (b : Bool) → (b ≡ false → A) → (b ≡ true → A) → A
by_Bool true off on = on refl
by_Bool false off on = off refl

pub not_left : (p q : Bool) → table_of true false true false p q ≡ not p
not_left true true = refl
not_left true false = refl
not_left false true = refl
not_left false false = refl

either : (p : Bool) → union_table p (not p) ≡ true
either true = refl
either false = refl

-- lists

-- what holds of each that was taken and of its copy holds of its item
AllZip-taken : {K : Type 0} (R : K → K → Type 0) (ts : List (Taken K)) (xs : List K) → AllZip (λ t x. R (taken_item t) x) ts xs → AllZip R (taken_items ts) xs
AllZip-taken R [] [] h = tt
AllZip-taken R [] (x ∷ xs) h = absurd h
AllZip-taken R (t ∷ ts) [] h = absurd h
AllZip-taken R (t ∷ ts) (x ∷ xs) h = (h.0, AllZip-taken R ts xs h.1)

module _ {K : Type 0} (order : K → K → Ordering) where
  pub AreEqual-copies : (ts : List (Taken K)) (xs : List K) → AllZip (λ t x. order (taken_item t) x ≡ Equal) ts xs → AreEqual order (taken_items ts) xs
  AreEqual-copies ts xs h = AllZip-taken (λ x y. order x y ≡ Equal) ts xs h

  pub length-merged : (ts : List (Taken K)) (m : List K) → AreEqual order (taken_items ts) m → length m ≡ length ts
  length-merged ts m h = sym (length_all_zip (λ x y. order x y ≡ Equal) (taken_items ts) m h) ∙ length-map ts taken_item

  module _ (is_value : K → Type 0) where
    pub MeansAmong-from_means : (f : Table) (r a b : List K) → Means order f r a b → MeansAmong order is_value f r a b
    MeansAmong-from_means f r a b m = record { sorted = m.sorted; members = λ x _. m.members x }

    -- what means the opposite, negated
    MeansAmong-negated : (f : Table) (m r a b : List K) → f false false ≡ true → Means order (opposite f) m a b → Negates order is_value r m →
        MeansAmong order is_value f r a b
    MeansAmong-negated f m r a b on means n = record {
      sorted = n.sorted;
      members = λ x v. n.members x (v on) ∙ ap not (means.members x) ∙ not-not (f (member order a x) (member order b x));
    }

    pub IfOk-negated : (f : Table) (m a b : List K) (r : Result (List K) AllocError) → f false false ≡ true → Means order (opposite f) m a b →
        IfOk r (λ i. Negates order is_value i m) → IfOk r (λ i. MeansAmong order is_value f i a b)
    IfOk-negated f m a b r on means =
        IfOk-weaker r (λ i. Negates order is_value i m) (λ i. MeansAmong order is_value f i a b) (λ i. MeansAmong-negated f m i a b on means)

-- what lists mean, and how long they are

module _ {K : Type 0} {order : K → K → Ordering} (o : IsTotalOrder order) where
  pub Means-equal : (f : Table) (xs ys a b : List K) → AreEqual order xs ys → Means order f xs a b → Means order f ys a b
  Means-equal f xs ys a b h m = record {
    sorted = IsAscending-equal o xs ys h m.sorted;
    members = λ x. sym (IsSameSet-from_items o xs ys h x) ∙ m.members x;
  }

  -- a list that means what others do has their length
  pub length-means : (f : Table) (ts : List (Taken K)) (items a b : List K) (n : ℕ) → n ≡ length ts → Means order f (taken_items ts) a b →
      Means order f items a b → length items ≡ n
  length-means f ts items a b n is t m =
      length_all_zip (λ x y. order x y ≡ Equal) items (taken_items ts)
      (same_items o items (taken_items ts) m.sorted t.sorted (λ x. m.members x ∙ sym (t.members x)))
      ∙ length-map ts taken_item ∙ sym is

  module _ (is_value : K → Type 0) where
    pub Means-of_off : (f : Table) (r a b : List K) → f false false ≡ false → MeansAmong order is_value f r a b ↔ Means order f r a b
    Means-of_off f r a b off = (
      λ m. record { sorted = m.sorted; members = λ x. m.members x (λ on. absurd (true≢false (sym on ∙ off))) },
      MeansAmong-from_means order is_value f r a b,
    )

  -- negation as the connective "not left"

  pub Negates-not_left : (is_value : K → Type 0) (r a b : List K) →
      Negates order is_value r a ↔ MeansAmong order is_value (table_of true false true false) r a b
  Negates-not_left is_value r a b = (
    λ n. record { sorted = n.sorted; members = λ x v. n.members x (v refl) ∙ sym (not_left (member order a x) (member order b x)) },
    λ m. record { sorted = m.sorted; members = λ x v. m.members x (λ _. v) ∙ not_left (member order a x) (member order b x) },
  )

  -- the changes of "not left" are the left's items
  pub AreEqual-not_left : (xs a b : List K) → IsAscending order a → Means order (opposite (table_of true false true false)) xs a b → AreEqual order a xs
  AreEqual-not_left xs a b up m =
      same_items o a xs up m.sorted
      (λ x. sym (m.members x ∙ ap not (not_left (member order a x) (member order b x)) ∙ not-not (member order a x)))

  -- what is taken of a list alone is its own items
  taken-of_left : (a b : List K) → b ≡ [] → (t : Taken K) → IsMarkedTruly order a b t → Contains a (taken_item t)
  taken-of_left a b none (from_left x) h = h
  taken-of_left a b none (from_right y) h = absurd (not_in_nothing (subst (λ l. Contains l y) none h.0))
    where
      not_in_nothing : Contains [] y → ⊥
      not_in_nothing (k, within, is) = absurd (omega arith)

  same_items-contained : (a ys xs : List K) → IsAscending order a → All (Contains a) ys → All (Contains a) xs → AreEqual order ys xs → xs ≡ ys
  same_items-contained a [] [] up p q h = refl
  same_items-contained a [] (x ∷ xs) up p q h = absurd h
  same_items-contained a (y ∷ ys) [] up p q h = absurd h
  same_items-contained a (y ∷ ys) (x ∷ xs) up p q h =
      ap₂ (λ z zs. z ∷ zs)
      (sym (same-contained o a y x up (All-head (Contains a) y ys p) (All-head (Contains a) x xs q) h.0))
      (same_items-contained a ys xs up (All-tail (Contains a) y ys p) (All-tail (Contains a) x xs q) h.1)

  pub taken-not_left : (a b : List K) (ts : List (Taken K)) → b ≡ [] → IsAscending order a → All (IsMarkedTruly order a b) ts → AreEqual order a (taken_items ts) →
      taken_items ts ≡ a
  taken-not_left a b ts none up marks h =
      same_items-contained a a (taken_items ts) up (All-contains_itself a)
      (All-map (Contains a) taken_item ts (All-weaker (IsMarkedTruly order a b) (λ t. Contains a (taken_item t)) (taken-of_left a b none) ts marks)) h

  module _ (is_value : K → Type 0) {is_copy : K → K → Type 0} (equal : (x y : K) → is_copy x y → order x y ≡ Equal) (least : K) (value : is_value least)
      (a b : List K) (ts : List (Taken K)) (same : taken_items ts ≡ a) where
    copies_of : (copies : List K) → AreCopies is_copy ts copies → AllZip is_copy a copies
    copies_of copies h = subst (λ xs. AllZip is_copy xs copies) same (AllZip-taken is_copy ts copies h)

    equal_to : (xs copies : List K) → AllZip is_copy xs copies → AreEqual order copies xs
    equal_to [] [] h = tt
    equal_to [] (y ∷ ys) h = absurd h
    equal_to (x ∷ xs) [] h = absurd h
    equal_to (x ∷ xs) (y ∷ ys) h = (Equal-sym o x y (equal x y h.0), equal_to xs ys h.1)

    pub GivesNegation-combined : (infallible : Type 0) (r : Result (List K) AllocError) →
        IfOk r (λ i. MeansAmong order is_value (table_of true false true false) i a b) → IfOk r (λ i. AreFlipped order least (AreCopies is_copy ts) i) →
        (infallible → IsOk r) → GivesNegation order is_value is_copy least infallible a r
    GivesNegation-combined infallible r means flipped succeeds = record {
      negates =
          IfOk-weaker r (λ i. MeansAmong order is_value (table_of true false true false) i a b) (λ i. Negates order is_value i a)
          (λ i m. (Negates-not_left is_value i a b).1 m) means;
      flipped = of_own;
      values = λ equals v.
          IfOk-weaker r (λ i. AreFlipped order least (AllZip is_copy a) i) (λ i. All is_value i)
          (λ i (copies, h, w). All-flipped o is_value equals least value copies i (All-equal o is_value equals copies a (equal_to a copies h) v) w) of_own;
      succeeds = succeeds;
    }
      where
        of_own : IfOk r (λ i. AreFlipped order least (AllZip is_copy a) i)
        of_own =
            IfOk-weaker r (λ i. AreFlipped order least (AreCopies is_copy ts) i) (λ i. AreFlipped order least (AllZip is_copy a) i)
            (λ i (copies, h, w). (copies, copies_of copies h, w)) flipped

  -- laws

  pub AreEqual-combined : (is_value : K → Type 0) (f : Table) (a b a2 b2 r s : List K) → (f false false ≡ true → All is_value r × All is_value s) →
      MeansAmong order is_value f r a b → MeansAmong order is_value f s a2 b2 → IsSameSet order a a2 → IsSameSet order b b2 → AreEqual order r s
  AreEqual-combined is_value f a b a2 b2 r s v m n h k =
      by_Bool (f false false)
      (λ off. same_items o r s m.sorted n.sorted (λ x. same x (λ on. absurd (true≢false (sym on ∙ off)))))
      (λ on. same_values o is_value r s (v on).0 (v on).1 m.sorted n.sorted (λ x w. same x (λ _. w)))
    where
      same : (x : K) → (f false false ≡ true → is_value x) → member order r x ≡ member order s x
      same x w = m.members x w ∙ ap₂ f (h x) (k x) ∙ sym (n.members x w)

  pub IsEverything-union : (is_value : K → Type 0) (a b n u : List K) → MeansAmong order is_value (table_of true false true false) n a b →
      Means order union_table u a n → IsEverything order is_value u
  IsEverything-union is_value a b n u m means x v =
      means.members x
      ∙ ap (union_table (member order a x)) (m.members x (λ _. v) ∙ not_left (member order a x) (member order b x))
      ∙ either (member order a x)
