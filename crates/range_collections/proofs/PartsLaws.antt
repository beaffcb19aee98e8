-- Laws of the parts of a range: which elements they have, and that they are pinned.
use Rattle.std.proofs.Common.{◌≡◌, ◌↔◌, refl, sym, ap, ap₂, ◌∙◌, Bool, true, false, not, cond, ◌&&◌, List, [], ◌∷◌}
use Rattle.std.specs.List.{AllZip, Any}
use Rattle.std.specs.Ordering.{is_le, is_lt}
use Rattle.std.specs.Cmp.{IsTotalOrder}
use Rattle.std.proofs.lemmas.Bool.{true≢false}
use Rattle.std.specs.declared.cmp.Ordering.{Ordering}
use Rattle.std.specs.declared.cmp.Ordering.TheVariants.{Less}
use Rattle.range_merge.specs.Boundaries.{member}
use Rattle.range_merge.specs.Connective.{Table, Means, intersection_table, difference_table}
use Rattle.range_merge.proofs.Members.{member-nil}
use Rattle.range_merge.proofs.SameSet.{member-head}
use Rattle.range_collections.specs.Extent.{HasAllWithin}
use Rattle.range_collections.specs.Ranges.{ranges_of, range_items, IsInRange, IsEqualRange}
use Rattle.range_collections.specs.Sets.{AreEqual, IsSubset}
use Rattle.range_collections.proofs.Ascending.{Less-from_is_lt}
use Rattle.range_collections.proofs.RangesLemmas.{members-ranges_of}
use Rattle.range_collections.proofs.Sets.{AreEqual-same_results, IsSubset-nil}
use Rattle.range_collections.proofs.Values.{member-two, nothing_between}

and-true : (p q : Bool) → (p && q) ≡ true → (p ≡ true) × (q ≡ true)
and-true true true e = (refl, refl)
and-true true false e = absurd (cc)
and-true false q e = absurd (cc)

not-true : (b : Bool) → not b ≡ true → b ≡ false
not-true true e = cc
not-true false e = refl

-- lists that are equal item by item have ranges that are
pub AllZip-ranges_of : {K : Type 0} (order : K → K → Ordering) (a b : List K) → AreEqual order a b → AllZip (IsEqualRange order) (ranges_of a) (ranges_of b)
AllZip-ranges_of order [] [] h = tt
AllZip-ranges_of order [] (y ∷ ys) h = absurd h
AllZip-ranges_of order (x ∷ xs) [] h = absurd h
AllZip-ranges_of order (x ∷ []) (y ∷ []) h = (h.0, tt)
AllZip-ranges_of order (x ∷ []) (y ∷ w ∷ ws) h = absurd h.1
AllZip-ranges_of order (x ∷ z ∷ zs) (y ∷ []) h = absurd h.1
AllZip-ranges_of order (x ∷ z ∷ zs) (y ∷ w ∷ ws) h = ((h.0, h.1.0), AllZip-ranges_of order zs ws h.1.1)

module _ {K : Type 0} {order : K → K → Ordering} (o : IsTotalOrder order) where
  -- the members of a range are the elements between its ends
  pub member-range_items : (start end x : K) → member order (range_items order start end) x ≡ (is_le (order start x) && is_lt (order x end))
  member-range_items start end x = by_test (is_lt (order start end)) refl
    where
      by_test : (b : Bool) → is_lt (order start end) ≡ b → member order (range_items order start end) x ≡ (is_le (order start x) && is_lt (order x end))
      by_test true h =
          ap (λ t. member order (cond t (start ∷ end ∷ []) []) x) h ∙ member-two o start end x (Less-from_is_lt (order start end) h)
      by_test false h =
          ap (λ t. member order (cond t (start ∷ end ∷ []) []) x) h ∙ member-nil order x ∙ nothing_between o start end x h

  range-member : (start end x : K) → is_le (order start x) ≡ true → order x end ≡ Less → member order (range_items order start end) x ≡ true
  range-member start end x far low = member-range_items start end x ∙ ap₂ ◌&&◌ far (ap is_lt low)

  member-range : (start end x : K) → member order (range_items order start end) x ≡ true → (is_le (order start x) ≡ true) × (order x end ≡ Less)
  member-range start end x h =
      let both = and-true (is_le (order start x)) (is_lt (order x end)) (sym (member-range_items start end x) ∙ h) in
      (both.0, Less-from_is_lt (order x end) both.1)

  pub HasAllWithin-subset : (start end : K) (items : List K) → HasAllWithin order items start end ↔ IsSubset order (range_items order start end) items
  HasAllWithin-subset start end items = (
    λ all x h. let both = member-range start end x h in all x both.0 both.1,
    λ sub x far low. sub x (range-member start end x far low),
  )

  pub HasAllWithin-nil : (start end : K) (items r : List K) → Means order difference_table r (range_items order start end) items →
      HasAllWithin order items start end ↔ (r ≡ [])
  HasAllWithin-nil start end items r m =
      let sub = HasAllWithin-subset start end items in
      let nil = IsSubset-nil o (range_items order start end) items r m in
      (λ all. nil.0 (sub.0 all), λ e. sub.1 (nil.1 e))

  pub Any-gaps : (start end x : K) (items gaps : List K) → Means order difference_table gaps (range_items order start end) items →
      Any (λ r. IsInRange order r x) (ranges_of gaps) ↔ ((is_le (order start x) ≡ true) × (order x end ≡ Less) × (member order items x ≡ false))
  Any-gaps start end x items gaps m =
      let has = members-ranges_of o gaps x m.sorted in (
        λ some.
            let both = and-true (member order (range_items order start end) x) (not (member order items x)) (sym (m.members x) ∙ has.1 some) in
            let ends = member-range start end x both.0 in
            (ends.0, ends.1, not-true (member order items x) both.1),
        λ h. has.0 (m.members x ∙ ap₂ (λ p q. p && not q) (range-member start end x h.0 h.1) h.2),
      )

  pub Any-within : (start end x : K) (items parts : List K) → Means order intersection_table parts (range_items order start end) items →
      Any (λ r. IsInRange order r x) (ranges_of parts) ↔ ((is_le (order start x) ≡ true) × (order x end ≡ Less) × (member order items x ≡ true))
  Any-within start end x items parts m =
      let has = members-ranges_of o parts x m.sorted in (
        λ some.
            let both = and-true (member order (range_items order start end) x) (member order items x) (sym (m.members x) ∙ has.1 some) in
            let ends = member-range start end x both.0 in
            (ends.0, ends.1, both.1),
        λ h. has.0 (m.members x ∙ ap₂ ◌&&◌ (range-member start end x h.0 h.1) h.2),
      )

  pub AllZip-meant : (f : Table) (a b r s : List K) → Means order f r a b → Means order f s a b → AllZip (IsEqualRange order) (ranges_of r) (ranges_of s)
  AllZip-meant f a b r s m n = AllZip-ranges_of order r s (AreEqual-same_results o f a b a b r s m n (λ x. refl) (λ x. refl))

  -- a list that ascends and has no member is empty
  pub nil-nothing : (start end : K) (items gaps : List K) → Means order difference_table gaps (range_items order start end) items → is_lt (order start end) ≡ false → gaps ≡ []
  nil-nothing start end items [] m off = refl
  nil-nothing start end items (x ∷ xs) m off =
      absurd (true≢false (sym (member-head o x xs m.sorted) ∙ m.members x
      ∙ ap (λ b. b && not (member order items x)) (ap (λ t. member order (cond t (start ∷ end ∷ []) []) x) off ∙ member-nil order x)))
