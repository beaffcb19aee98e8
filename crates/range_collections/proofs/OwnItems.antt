-- What a merge in place leaves: its means, and which items are the left's own.
use Rattle.std.proofs.Common.{◌≡◌, ◌≢◌, inl, inr, ◌∙◌, List, [], ◌∷◌, All, Any, Contains, Result, Ok, Err, OnOk, OnErr}
use Rattle.std.specs.List.{AllZip}
use Rattle.std.specs.Cmp.{IsTotalOrder}
use Rattle.std.proofs.lemmas.Cmp.{alike_right}
use Rattle.std.proofs.lemmas.List.Elements.{All-nil, All-cons, All-head, All-tail, All-map, All-weaker}
use Rattle.std.specs.declared.cmp.Ordering.{Ordering}
use Rattle.std.specs.declared.cmp.Ordering.TheVariants.{Equal}
use Rattle.range_merge.specs.Boundaries.{IsAscending}
use Rattle.range_merge.specs.Changes.{Taken, from_left, from_right, taken_item, taken_items, IsMarkedTruly}
use Rattle.range_merge.specs.Copies.{IsOwnOrCopy, AreOwnOrCopies}
use Rattle.range_merge.specs.Connective.{Table, Means}
use Rattle.range_merge.proofs.Orders.{Equal-self}
use Rattle.range_collections.specs.InPlace.{IsOwnElse, AreOwnElseOf, AreOwnElseCopies}
use Rattle.range_collections.proofs.Copies.{Means-copies}

module _ {K : Type 0} {order : K → K → Ordering} (o : IsTotalOrder order) where
  IsOwnElse-marked : (a b : List K) (t : Taken K) → IsMarkedTruly order a b t → IsOwnElse order (Contains b) a (taken_item t)
  IsOwnElse-marked a b (from_left x) h = inl h
  IsOwnElse-marked a b (from_right y) h = inr h

  pub AreOwnElseOf-marked : (a b : List K) (ts : List (Taken K)) → All (IsMarkedTruly order a b) ts → AreOwnElseOf order a b (taken_items ts)
  AreOwnElseOf-marked a b ts h =
      All-map (IsOwnElse order (Contains b) a) taken_item ts
      (All-weaker (IsMarkedTruly order a b) (λ t. IsOwnElse order (Contains b) a (taken_item t)) (IsOwnElse-marked a b) ts h)

  module _ {is_copy : K → K → Type 0} (equal : (x y : K) → is_copy x y → order x y ≡ Equal) where
    abbrev copies_one : List K → K → Type 0
    copies_one b y = Any (λ z. is_copy z y) b

    IsOwnElse-copied : (a b : List K) (t : Taken K) (y : K) → IsMarkedTruly order a b t → IsOwnOrCopy is_copy t y → IsOwnElse order (copies_one b) a y
    IsOwnElse-copied a b (from_left x) y h same = inl (rw same h)
    IsOwnElse-copied a b (from_right z) y h same =
        inr (
          (h.0.0, z, h.0.1, h.0.2, same),
          All-weaker (λ x. order x z ≢ Equal) (λ x. order x y ≢ Equal) (λ x no e. no (alike_right o z y x (equal z y same) ∙ e)) a h.1,
        )

    pub AreOwnElseCopies-marked : (a b : List K) (ts : List (Taken K)) (ys : List K) → All (IsMarkedTruly order a b) ts → AreOwnOrCopies is_copy ts ys
        → AreOwnElseCopies order is_copy a b ys
    AreOwnElseCopies-marked a b [] [] h same = All-nil (IsOwnElse order (copies_one b) a)
    AreOwnElseCopies-marked a b [] (y ∷ ys) h same = absurd same
    AreOwnElseCopies-marked a b (t ∷ ts) [] h same = absurd same
    AreOwnElseCopies-marked a b (t ∷ ts) (y ∷ ys) h same =
        All-cons (IsOwnElse order (copies_one b) a) y ys (IsOwnElse-copied a b t y (All-head (IsMarkedTruly order a b) t ts h) same.0)
        (AreOwnElseCopies-marked a b ts ys (All-tail (IsMarkedTruly order a b) t ts h) same.1)

    equal_one : (t : Taken K) (y : K) → IsOwnOrCopy is_copy t y → order (taken_item t) y ≡ Equal
    equal_one (from_left x) y same = rw same (Equal-self o x)
    equal_one (from_right z) y same = equal z y same

    equal_all : (ts : List (Taken K)) (ys : List K) → AreOwnOrCopies is_copy ts ys → AllZip (λ t y. order (taken_item t) y ≡ Equal) ts ys
    equal_all [] [] h = h
    equal_all [] (y ∷ ys) h = h
    equal_all (t ∷ ts) [] h = h
    equal_all (t ∷ ts) (y ∷ ys) h = (equal_one t y h.0, equal_all ts ys h.1)

    -- the left's own items and copies of the right's mean what the changes mean
    pub Means-own_or_copies : (f : Table) (ts : List (Taken K)) (ys a b : List K) → Means order f (taken_items ts) a b → AreOwnOrCopies is_copy ts ys → Means order f ys a b
    Means-own_or_copies f ts ys a b m h = Means-copies o f ts ys a b (equal_all ts ys h) m

    -- the left list ascends after a merge in place that takes copies of the right's items, also
    -- where it was refused
    pub IsAscending-copied : {X E : Type 0} (f : Table) (r : Result X E) (ts : List (Taken K)) (new a b : List K) → Means order f (taken_items ts) a b → IsAscending order a
        → OnOk r (AreOwnOrCopies is_copy ts new) → OnErr r (new ≡ a) → IsAscending order new
    IsAscending-copied f (Ok x) ts new a b m up taken same = (Means-own_or_copies f ts new a b m taken).sorted
    IsAscending-copied f (Err e) ts new a b m up taken same = rw same up

  -- the left list ascends after a merge in place that takes the right's items, also where it was
  -- refused
  pub IsAscending-taken : {X E : Type 0} (f : Table) (r : Result X E) (ts : List (Taken K)) (new a b : List K) → Means order f (taken_items ts) a b → IsAscending order a
      → OnOk r (new ≡ taken_items ts) → OnErr r (new ≡ a) → IsAscending order new
  IsAscending-taken f (Ok x) ts new a b m up taken same = rw taken m.sorted
  IsAscending-taken f (Err e) ts new a b m up taken same = rw same up
