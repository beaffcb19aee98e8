-- Contracts that say the list of a result, said by members: a range put in or taken out, and the
-- parts of a range.
use Rattle.std.proofs.Common.{◌≡◌, ◌↔◌, ap, sym, ◌∙◌, Bool, true, false, not, ◌&&◌, ◌||◌, List, Contains, Option, Some, None, IfSome}
use Rattle.std.specs.Borrow.{Bor}
use Rattle.std.specs.List.{Any}
use Rattle.std.specs.Ordering.{is_le, is_lt}
use Rattle.std.specs.Cmp.{IsTotalOrder}
use Rattle.std.specs.declared.cmp.Ordering.{Ordering}
use Rattle.std.specs.declared.ops.Range.{Range as Ends}
use Rattle.std.proofs.lemmas.List.Folds.{Any-from_list_any, list_any-from_Any}
use Rattle.range_merge.specs.Boundaries.{IsAscending, member}
use Rattle.range_merge.specs.Connective.{Table, Means}
use Rattle.range_collections.specs.Ranges.{range_items, ranges_of, range_now, IsInRange}
use Rattle.range_collections.specs.Splicing.{range_table}
use Rattle.range_collections.specs.Unions.{is_in_one}
use Rattle.range_collections.specs.Within.{GivesParts}
use Rattle.range_collections.specs.declared.range_set_range.RangeSetRange.{RangeSetRange}
use Rattle.range_collections.proofs.Insertion.{union-alike, difference-alike}
use Rattle.range_collections.proofs.PartsLaws.{member-range_items}
use Rattle.range_collections.proofs.RangesLemmas.{members-ranges_of}

module _ {K : Type 0} {order : K → K → Ordering} (o : IsTotalOrder order) where
  -- the members after a call that puts a range in
  pub members-put : (start end : K) (items a : List K) → Means order (range_table true) items a (range_items order start end) →
      (x : K) → member order items x ≡ (member order a x || (is_le (order start x) && is_lt (order x end)))
  members-put start end items a m x =
      m.members x ∙ union-alike (member order a x) (member order (range_items order start end) x)
      ∙ ap (λ t. member order a x || t) (member-range_items o start end x)

  -- and after one that takes it out
  pub members-taken : (start end : K) (items a : List K) → Means order (range_table false) items a (range_items order start end) →
      (x : K) → member order items x ≡ (member order a x && not (is_le (order start x) && is_lt (order x end)))
  members-taken start end items a m x =
      m.members x ∙ difference-alike (member order a x) (member order (range_items order start end) x)
      ∙ ap (λ t. member order a x && not t) (member-range_items o start end x)

  -- the members of the parts of a range
  pub members-parts : (f : Table) (within : Ends (Bor K)) (items parts : List K) → GivesParts order f within items parts →
      (x : K) → member order parts x ≡ f (is_le (order within.start.now x) && is_lt (order x within.end.now)) (member order items x)
  members-parts f within items parts h x = h.means.members x ∙ ap (λ t. f t (member order items x)) (member-range_items o within.start.now within.end.now x)

  -- the elements of one range of a set are members
  pub members-of_one : (items : List K) → IsAscending order items → (r : Option (RangeSetRange (Bor K))) →
      IfSome r (λ range. Contains (ranges_of items) (range_now range)) →
      IfSome r (λ range. (x : K) → IsInRange order (range_now range) x → member order items x ≡ true)
  members-of_one items up None h = tt
  members-of_one items up (Some range) h = λ x inside. (members-ranges_of o items x up).1 (h.0, range_now range, h.1, h.2, inside)

-- an element is in the union exactly if it is in a part
pub in_one_part : {K P : Type 0} (order : K → K → Ordering) (boundaries : P → List K) (parts : List P) (x : K) (truth : Bool) →
    truth ≡ is_in_one order boundaries parts x → (truth ≡ true) ↔ Any (λ part. member order (boundaries part) x ≡ true) parts
in_one_part order boundaries parts x truth e = (
  λ t. Any-from_list_any (λ part. member order (boundaries part) x) parts (sym e ∙ t),
  λ h. e ∙ list_any-from_Any (λ part. member order (boundaries part) x) parts h,
)
