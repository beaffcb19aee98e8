-- The intersection of many parts, from the intersections of two halves of them.
use Rattle.std.proofs.Common.{◌≡◌, refl, sym, ap₂, ◌∙◌, ℕ, ◌+◌, ◌≤◌, Bool, true, false, ◌&&◌, ◌||◌, List, [], ◌∷◌, ◌++◌, length, arith, Result, Ok, Err, IsOk, IsErr, IfOk, true≢false}
use Rattle.std.specs.List.{flat_map}
use Rattle.std.specs.Cmp.{IsTotalOrder}
use Rattle.std.specs.declared.alloc.AllocError.{AllocError}
use Rattle.std.specs.declared.cmp.Ordering.{Ordering}
use Rattle.std.proofs.lemmas.Grind.{flat_map-append}
use Rattle.std.proofs.lemmas.List.Folds.{list_all-append}
use Rattle.range_merge.specs.Boundaries.{member}
use Rattle.range_merge.specs.Connective.{Means, intersection_table}
use Rattle.range_collections.specs.Intersections.{GivesIntersection}
use Rattle.range_collections.specs.Unions.{GivesUnion}
use Rattle.range_collections.proofs.FirstParts.{All-front, All-back}
use Rattle.range_collections.proofs.Unions.{length-halves, length-result}

or-and : (b : Bool) → (b || false) ≡ (b && true)
or-and true = refl
or-and false = refl

module _ {K : Type 0} {order : K → K → Ordering} (o : IsTotalOrder order) where
  module _ (is_copy : K → K → Type 0) (is_infallible : K → Type 0) {P : Type 0} (boundaries : P → List K) (room : ℕ) where
    abbrev Gives : List P → Result (List K) AllocError → Type 0
    Gives parts r = GivesIntersection order is_infallible boundaries room parts r

    -- of one part it is what the union is
    pub GivesIntersection-one : (parts : List P) (r : Result (List K) AllocError) → length parts ≡ 1 →
        GivesUnion order is_copy is_infallible boundaries room parts r → Gives parts r
    GivesIntersection-one [] r e u = absurd (omega (arith, e))
    GivesIntersection-one (p ∷ q ∷ ps) r e u = absurd (omega (arith, e))
    GivesIntersection-one (p ∷ []) (Ok items) e u = record {
      sorted = u.means.sorted;
      members = λ x. u.means.members x ∙ or-and (member order (boundaries p) x);
      at_most = u.at_most;
      succeeds = u.succeeds;
    }
    GivesIntersection-one (p ∷ []) (Err error) e u = record { sorted = tt; members = tt; at_most = tt; succeeds = u.succeeds }

    -- where the intersection of a half is refused, so is the whole
    pub GivesIntersection-refused : (parts front half back : List P) (error : AllocError) (r : Result (List K) AllocError) → parts ≡ front ++ (half ++ back) → IsErr r →
        Gives half (Err error) → Gives parts r
    GivesIntersection-refused parts front half back error (Ok items) e bad given = absurd (true≢false (sym bad))
    GivesIntersection-refused parts front half back error (Err other) e bad given = record {
      sorted = tt;
      members = tt;
      at_most = tt;
      succeeds = λ few infallible.
          let after = All-back is_infallible (flat_map boundaries front) (flat_map boundaries (half ++ back)) (rw (e, flat_map-append boundaries front (half ++ back)) at infallible) in
          absurd (true≢false (sym (given.succeeds
          (omega (arith, few, length-halves boundaries parts front (half ++ back) e, length-halves boundaries (half ++ back) half back refl))
          (All-front is_infallible (flat_map boundaries half) (flat_map boundaries back) (rw (flat_map-append boundaries half back) at after)))));
    }

    pub GivesIntersection-cut : (parts front back : List P) (a b : List K) (r : Result (List K) AllocError) → parts ≡ front ++ back →
        Gives front (Ok a) → Gives back (Ok b) → IfOk r (λ items. Means order intersection_table items a b) → (length a + length b ≤ room → IsOk r) → Gives parts r
    GivesIntersection-cut parts front back a b (Ok items) e f s means succeeds = rw e (record {
      sorted = means.sorted;
      members = λ x.
          means.members x ∙ ap₂ (λ p q. p && q) (f.members x) (s.members x)
          ∙ sym (list_all-append (λ part. member order (boundaries part) x) front back);
      at_most = omega (arith, length-result o intersection_table refl items a b f.sorted s.sorted means, f.at_most, s.at_most, length-halves boundaries (front ++ back) front back refl);
      succeeds = λ _ _. refl;
    })
    GivesIntersection-cut parts front back a b (Err error) e f s means succeeds = record {
      sorted = tt;
      members = tt;
      at_most = tt;
      succeeds = λ few infallible. succeeds (omega (arith, few, f.at_most, s.at_most, length-halves boundaries parts front back e));
    }
