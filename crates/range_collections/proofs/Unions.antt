-- The union of many parts, from the unions of two halves of them.
use Rattle.std.proofs.Common.{◌≡◌, ◌↔◌, refl, sym, ap, ap₂, ◌∙◌, ℕ, ◌+◌, ◌-◌, ◌*◌, ◌/◌, ◌≤◌, Bool, true, false, ◌||◌, List, [], ◌∷◌, ◌++◌, length, slice_index_or, arith, All, Result, Ok, Err, IsOk, IsErr, IfOk, true≢false, length-append}
use Rattle.std.proofs.Math.Nat.{mul-le-mul_left}
use Rattle.std.specs.List.{Any, AllZip, flat_map}
use Rattle.std.specs.Cmp.{IsTotalOrder}
use Rattle.std.specs.Ordering.{is_le, is_lt}
use Rattle.std.specs.declared.alloc.AllocError.{AllocError}
use Rattle.std.specs.declared.cmp.Ordering.{Ordering}
use Rattle.std.specs.declared.cmp.Ordering.TheVariants.{Equal}
use Rattle.std.proofs.lemmas.Grind.{flat_map-append}
use Rattle.std.proofs.lemmas.List.{append-nil}
use Rattle.std.proofs.lemmas.List.Elements.{length_all_zip}
use Rattle.std.proofs.lemmas.List.Folds.{list_any-append, Any-from_list_any, list_any-from_Any}
use Rattle.range_merge.specs.Boundaries.{IsAscending, member}
use Rattle.range_merge.specs.Changes.{changes}
use Rattle.range_merge.specs.Connective.{Table, Means, union_table}
use Rattle.range_merge.specs.Counting.{AddsAtMost}
use Rattle.range_merge.specs.Owners.{IsOwners, owners}
use Rattle.range_merge.specs.Runs.{digits}
use Rattle.range_merge.proofs.ChangesLemmas.{Means-changes}
use Rattle.range_merge.proofs.Counts.{length-changes}
use Rattle.range_merge.proofs.Digits.{digits-half}
use Rattle.range_merge.proofs.Members.{member-nil}
use Rattle.range_merge.proofs.OwnersLemmas.{IsOwners-owners}
use Rattle.range_merge.proofs.SameSet.{IsSameSet-from_items, same_items}
use Rattle.range_collections.specs.Sets.{AreEqual}
use Rattle.range_collections.specs.Unions.{is_in_one, IsUnionOf, GivesUnion, IsJoined}
use Rattle.range_collections.specs.Ranges.{range_boundaries, IsInRange}
use Rattle.range_collections.specs.declared.range_set_range.RangeSetRange.{RangeSetRange}
use Rattle.range_collections.specs.declared.range_set_range.RangeSetRange.TheVariants.{Range, RangeFrom}
use Rattle.range_collections.proofs.Ascending.{IsAscending-nil, Less-from_is_lt}
use Rattle.range_collections.proofs.Combined.{length-means}
use Rattle.range_collections.proofs.FirstParts.{All-front, All-back, AreCopiesOfFirst-copies, AreCopiesOfFirst-joined}
use Rattle.range_collections.proofs.PartsLaws.{member-range_items}
use Rattle.range_collections.proofs.Sets.{true-both}
use Rattle.range_collections.proofs.Values.{IsAscending-equal, member-one}

or-false : (b : Bool) → (b || false) ≡ b
or-false true = refl
or-false false = refl

pub length-halves : {K P : Type 0} (boundaries : P → List K) (parts front back : List P) → parts ≡ front ++ back →
    length (flat_map boundaries parts) ≡ length (flat_map boundaries front) + length (flat_map boundaries back)
length-halves boundaries parts front back e =
    ap (λ ps. length (flat_map boundaries ps)) e ∙ ap length (flat_map-append boundaries front back) ∙ length-append (flat_map boundaries front) (flat_map boundaries back)

-- what two halves add, and their joining
pub AddsAtMost-halves : (old first second all n nf nb lf lb a b l : ℕ) → 2 ≤ n → nf ≡ n / 2 → nb + nf ≡ n → l ≡ lf + lb → a ≤ lf → b ≤ lb →
    AddsAtMost old first (2 * lf * digits (nf - 1)) → AddsAtMost first second (2 * lb * digits (nb - 1)) → AddsAtMost second all (2 * (a + b)) →
    AddsAtMost old all (2 * l * digits (n - 1))
AddsAtMost-halves old first second all n nf nb lf lb a b l some front back whole fewer less u v w =
    let df : digits (nf - 1) + 1 ≤ digits (n - 1) = digits-half (nf - 1) (n - 1) (omega arith) (omega arith) in
    let db : digits (nb - 1) + 1 ≤ digits (n - 1) = digits-half (nb - 1) (n - 1) (omega arith) (omega arith) in
    let f : lf * (digits (nf - 1) + 1) ≤ lf * digits (n - 1) = mul-le-mul_left lf df in
    let s : lb * (digits (nb - 1) + 1) ≤ lb * digits (n - 1) = mul-le-mul_left lb db in
    let e : 2 * l * digits (n - 1) ≡ 2 * (lf * digits (n - 1)) + 2 * (lb * digits (n - 1)) = rw whole (omega arith) in
    record { at_least = omega (arith, u.at_least, v.at_least, w.at_least); at_most = omega (arith, u.at_most, v.at_most, w.at_most, f, s, e, fewer, less) }

-- a front of the parts adds no more than all of them
pub AddsAtMost-front : (old first n nf lf lb l : ℕ) → 2 ≤ n → nf ≡ n / 2 → l ≡ lf + lb →
    AddsAtMost old first (2 * lf * digits (nf - 1)) → AddsAtMost old first (2 * l * digits (n - 1))
AddsAtMost-front old first n nf lf lb l some front whole u =
    let df : digits (nf - 1) + 1 ≤ digits (n - 1) = digits-half (nf - 1) (n - 1) (omega arith) (omega arith) in
    let f : lf * (digits (nf - 1) + 1) ≤ lf * digits (n - 1) = mul-le-mul_left lf df in
    let e : 2 * l * digits (n - 1) ≡ 2 * (lf * digits (n - 1)) + 2 * (lb * digits (n - 1)) = rw whole (omega arith) in
    record { at_least = u.at_least; at_most = omega (arith, u.at_most, f, e) }

module _ {K : Type 0} {order : K → K → Ordering} (o : IsTotalOrder order) where
  -- the result of an operation that is off where both sides are has no more items than both lists
  pub length-result : (f : Table) → f false false ≡ false → (items a b : List K) → IsAscending order a → IsAscending order b → Means order f items a b → length items ≤ length a + length b
  length-result f off items a b p q m =
      let io : IsOwners order a b (owners order a b) = IsOwners-owners o a b p q in
      let e : length items ≡ length (changes order f a b) =
      length-means o f (changes order f a b) items a b (length (changes order f a b)) refl (Means-changes o f a b off p q io) m in
      rw e (length-changes order f a b)

  pub length-union : (items a b : List K) → IsAscending order a → IsAscending order b → Means order union_table items a b → length items ≤ length a + length b
  length-union = length-result union_table refl

  module _ {is_copy : K → K → Type 0} (equal : (x y : K) → is_copy x y → order x y ≡ Equal) where
    pub copies_are_equal : (xs ys : List K) → AllZip is_copy xs ys → AllZip (λ x y. order x y ≡ Equal) xs ys
    copies_are_equal [] [] h = tt
    copies_are_equal [] (y ∷ ys) h = absurd h
    copies_are_equal (x ∷ xs) [] h = absurd h
    copies_are_equal (x ∷ xs) (y ∷ ys) h = (equal x y h.0, copies_are_equal xs ys h.1)

    one_of : {P : Type 0} (boundaries : P → List K) (part : P) (items : List K) → IsAscending order (boundaries part) → AllZip is_copy (boundaries part) items → IsUnionOf order boundaries (part ∷ []) items
    one_of boundaries part items up h =
        let same : AllZip (λ x y. order x y ≡ Equal) (boundaries part) items = copies_are_equal (boundaries part) items h in
        record {
          sorted = IsAscending-equal o (boundaries part) items same up;
          members = λ x. sym (IsSameSet-from_items o (boundaries part) items same x) ∙ sym (or-false (member order (boundaries part) x));
        }

  module _ (is_copy : K → K → Type 0) (is_infallible : K → Type 0) (equal : (x y : K) → is_copy x y → order x y ≡ Equal)
      {P : Type 0} (boundaries : P → List K) (room : ℕ) where
    abbrev Gives : List P → Result (List K) AllocError → Type 0
    Gives parts r = GivesUnion order is_copy is_infallible boundaries room parts r

    pub GivesUnion-none : (parts : List P) → length parts ≡ 0 → Gives parts (Ok [])
    GivesUnion-none [] e = record {
      means = record { sorted = IsAscending-nil order; members = λ x. member-nil order x };
      first_own_item = λ k d within. absurd (omega (arith, within));
      at_most = omega arith;
      succeeds = λ _ _. refl;
    }
    GivesUnion-none (p ∷ ps) e = absurd (omega (arith, e))

    pub GivesUnion-one : (parts : List P) (part : P) (r : Result (List K) AllocError) → length parts ≡ 1 → slice_index_or parts 0 part ≡ part →
        IsAscending order (boundaries part) → IfOk r (λ items. AllZip is_copy (boundaries part) items) →
        (length (boundaries part) ≤ room → All is_infallible (boundaries part) → IsOk r) → Gives parts r
    GivesUnion-one [] part r e is up copies succeeds = absurd (omega (arith, e))
    GivesUnion-one (p ∷ q ∷ ps) part r e is up copies succeeds = absurd (omega (arith, e))
    GivesUnion-one (p ∷ []) part (Ok items) e is up copies succeeds = rw is (record {
      means = one_of equal boundaries part items up copies;
      first_own_item = rw (append-nil (boundaries part)) (AreCopiesOfFirst-copies o is_copy equal (boundaries part) items up copies);
      at_most = rw (append-nil (boundaries part), length_all_zip is_copy (boundaries part) items copies) (omega arith);
      succeeds = λ _ _. refl;
    })
    GivesUnion-one (p ∷ []) part (Err error) e is up copies succeeds = rw is (record {
      means = tt;
      first_own_item = tt;
      at_most = tt;
      succeeds = λ few infallible. succeeds (rw (append-nil (boundaries part)) at few) (rw (append-nil (boundaries part)) at infallible);
    })

    -- where the union of a half is refused, so is the whole
    pub GivesUnion-refused : (parts front half back : List P) (error : AllocError) (r : Result (List K) AllocError) → parts ≡ front ++ (half ++ back) → IsErr r →
        Gives half (Err error) → Gives parts r
    GivesUnion-refused parts front half back error (Ok items) e bad given = absurd (true≢false (sym bad))
    GivesUnion-refused parts front half back error (Err other) e bad given = record {
      means = tt;
      first_own_item = tt;
      at_most = tt;
      succeeds = λ few infallible.
          let after = All-back is_infallible (flat_map boundaries front) (flat_map boundaries (half ++ back)) (rw (e, flat_map-append boundaries front (half ++ back)) at infallible) in
          absurd (true≢false (sym (given.succeeds
          (omega (arith, few, length-halves boundaries parts front (half ++ back) e, length-halves boundaries (half ++ back) half back refl))
          (All-front is_infallible (flat_map boundaries half) (flat_map boundaries back) (rw (flat_map-append boundaries half back) at after)))));
    }

    pub GivesUnion-joined : ((part : P) → IsAscending order (boundaries part)) → (parts front back : List P) (a b : List K) (r : Result (List K) AllocError) → parts ≡ front ++ back →
        Gives front (Ok a) → Gives back (Ok b) → IsJoined order room a b r → Gives parts r
    GivesUnion-joined up parts front back a b (Ok items) e f s j = rw e (record {
      means = record {
        sorted = j.means.sorted;
        members = λ x.
            j.means.members x ∙ ap₂ (λ p q. p || q) (f.means.members x) (s.means.members x)
            ∙ sym (list_any-append (λ part. member order (boundaries part) x) front back);
      };
      first_own_item =
          rw (flat_map-append boundaries front back)
          (AreCopiesOfFirst-joined o is_copy boundaries up front (flat_map boundaries back) a b items f.means j.means j.left_own_item f.first_own_item s.first_own_item);
      at_most = omega (arith, length-union items a b f.means.sorted s.means.sorted j.means, f.at_most, s.at_most, length-halves boundaries (front ++ back) front back refl);
      succeeds = λ _ _. refl;
    })
    GivesUnion-joined up parts front back a b (Err error) e f s j = record {
      means = tt;
      first_own_item = tt;
      at_most = tt;
      succeeds = λ few infallible. j.succeeds (omega (arith, few, f.at_most, s.at_most, length-halves boundaries parts front back e));
    }

  -- an element lies in a range where it is a member of the range's boundaries
  member-range : (range : RangeSetRange K) (x : K) → (member order (range_boundaries order range) x ≡ true) ↔ IsInRange order range x
  member-range (Range r) x =
      let both = true-both _ (is_le (order r.start x)) (is_lt (order x r.end)) (member-range_items o r.start r.end x) in (
        λ m. ((both.0 m).0, Less-from_is_lt (order x r.end) (both.0 m).1),
        λ within. both.1 (within.0, ap is_lt within.1),
      )
  member-range (RangeFrom r) x = (λ m. sym (member-one o r.start x) ∙ m, λ within. member-one o r.start x ∙ within)

  pub in_one_range : (ranges : List (RangeSetRange K)) (x : K) (truth : Bool) → truth ≡ is_in_one order (range_boundaries order) ranges x →
      (truth ≡ true) ↔ Any (λ range. IsInRange order range x) ranges
  in_one_range ranges x truth e = (
    λ t.
        let (k, range, within, is, m) = Any-from_list_any (λ range. member order (range_boundaries order range) x) ranges (sym e ∙ t) in
        (k, range, within, is, (member-range range x).0 m),
    λ h.
        let (k, range, within, is, inside) = h in
        e ∙ list_any-from_Any (λ range. member order (range_boundaries order range) x) ranges (k, range, within, is, (member-range range x).1 inside),
  )

  -- the union of many lists is pinned

  abbrev lists : List K → List K
  lists part = part

  pub AreEqual-unions : (parts : List (List K)) (r s : List K) → IsUnionOf order lists parts r → IsUnionOf order lists parts s → AreEqual order r s
  AreEqual-unions parts r s m n = same_items o r s m.sorted n.sorted (λ x. m.members x ∙ sym (n.members x))

  in_one_of_two : (a b : List K) (x : K) → is_in_one order lists (a ∷ b ∷ []) x ≡ (member order a x || member order b x)
  in_one_of_two a b x = ap (λ t. member order a x || t) (or-false (member order b x))

  pub IsUnionOf-two : (a b r : List K) → IsUnionOf order lists (a ∷ b ∷ []) r ↔ Means order union_table r a b
  IsUnionOf-two a b r = (
    λ m. record { sorted = m.sorted; members = λ x. m.members x ∙ in_one_of_two a b x },
    λ m. record { sorted = m.sorted; members = λ x. m.members x ∙ sym (in_one_of_two a b x) },
  )

  pub IsUnionOf-append : (front back : List (List K)) (r s all : List K) → IsUnionOf order lists front r → IsUnionOf order lists back s → Means order union_table all r s →
      IsUnionOf order lists (front ++ back) all
  IsUnionOf-append front back r s all f g m = record {
    sorted = m.sorted;
    members = λ x.
        m.members x ∙ ap₂ (λ p q. p || q) (f.members x) (g.members x) ∙ sym (list_any-append (λ part. member order part x) front back);
  }
