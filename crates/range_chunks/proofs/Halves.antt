-- The union and the intersection of many sets, by halves.
use Rattle.std.proofs.Common.{◌≡◌, sym, ap, ap₂, ◌∙◌, Bool, true, false, ◌&&◌, ◌||◌, refl, List, [], ◌∷◌, ◌++◌, length, slice_index_or, arith}
use Rattle.std.specs.Cmp.{IsTotalOrder}
use Rattle.std.specs.declared.cmp.Ordering.{Ordering}
use Rattle.std.proofs.lemmas.List.Folds.{list_any-append, list_all-append}
use Rattle.range_merge.specs.Boundaries.{member}
use Rattle.range_merge.specs.Connective.{Table, Means, union_table, intersection_table}
use Rattle.range_merge.proofs.SameSet.{IsSameSet-from_items}
use Rattle.range_collections.specs.Intersections.{is_in_each}
use Rattle.range_collections.specs.Sets.{AreEqual}
use Rattle.range_collections.specs.Unions.{is_in_one}

or-none : (b : Bool) → b ≡ (b || false)
or-none true = refl
or-none false = refl

and-all : (b : Bool) → b ≡ (b && true)
and-all true = refl
and-all false = refl

module _ {K : Type 0} {order : K → K → Ordering} (o : IsTotalOrder order) {P : Type 0} (boundaries : P → List K) where
  -- one set alone
  module _ (parts : List P) (part : P) (is : parts ≡ part ∷ []) (items : List K) (same : AreEqual order (boundaries part) items) (x : K) where
    pub union-one : member order items x ≡ is_in_one order boundaries parts x
    union-one =
        sym (IsSameSet-from_items o (boundaries part) items same x) ∙ or-none (member order (boundaries part) x)
        ∙ ap (λ ps. is_in_one order boundaries ps x) (sym is)

    pub intersection-one : member order items x ≡ is_in_each order boundaries parts x
    intersection-one =
        sym (IsSameSet-from_items o (boundaries part) items same x) ∙ and-all (member order (boundaries part) x)
        ∙ ap (λ ps. is_in_each order boundaries ps x) (sym is)

  -- two halves
  module _ (f : Table) (all front back : List P) (is : all ≡ front ++ back) (set that both : List K) (m : Means order f both set that) (x : K) where
    pub union-halves : f ≡ union_table → member order set x ≡ is_in_one order boundaries front x →
        member order that x ≡ is_in_one order boundaries back x → member order both x ≡ is_in_one order boundaries all x
    union-halves e a b =
        m.members x ∙ ap (λ (h : Table). h (member order set x) (member order that x)) e ∙ ap₂ (λ p q. p || q) a b
        ∙ sym (list_any-append (λ part. member order (boundaries part) x) front back)
        ∙ ap (λ ps. is_in_one order boundaries ps x) (sym is)

    pub intersection-halves : f ≡ intersection_table → member order set x ≡ is_in_each order boundaries front x →
        member order that x ≡ is_in_each order boundaries back x → member order both x ≡ is_in_each order boundaries all x
    intersection-halves e a b =
        m.members x ∙ ap (λ (h : Table). h (member order set x) (member order that x)) e ∙ ap₂ (λ p q. p && q) a b
        ∙ sym (list_all-append (λ part. member order (boundaries part) x) front back)
        ∙ ap (λ ps. is_in_each order boundaries ps x) (sym is)

pub only_one : {P : Type 0} (parts : List P) (part : P) → length parts ≡ 1 → slice_index_or parts 0 part ≡ part → parts ≡ part ∷ []
only_one [] part e is = absurd (omega (arith, e))
only_one (p ∷ []) part e is = ap (λ q. q ∷ []) is
only_one (p ∷ q ∷ parts) part e is = absurd (omega (arith, e))
