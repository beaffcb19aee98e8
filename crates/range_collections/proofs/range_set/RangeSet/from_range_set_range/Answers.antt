use Rattle.std.proofs.Common.{◌≡◌, ◌↔◌, ◌≤◌, ◌⊎◌, ◌&&◌, ℕ, Bool, true, false, cond, [], ◌∷◌, length, inl, inr, refl, ap, sym, true≢false}
use Rattle.std.specs.declared.cmp.Ordering.{Ordering}
use Rattle.std.specs.declared.cmp.Ordering.TheVariants.{Less}
use Rattle.std.specs.Ordering.{is_lt}
use Rattle.std.proofs.lemmas.Result.{IfOk-weaker}
use Rattle.range_collections.proofs.Ascending.{Less-from_is_lt}
use Rattle.range_collections.proofs.range_set.RangeSet.from_range_set_range.Goals as goal

both_ends : (p : Bool) (v : Ordering) → (p && is_lt v) ≡ true ↔ ((p ≡ true) × (v ≡ Less))
both_ends true v = (λ h. (refl, Less-from_is_lt v h), λ h. ap is_lt h.1)
both_ends false v = (λ h. absurd (true≢false (sym h)), λ h. absurd (true≢false (sym h.0)))

room_or_nothing : {K : Type 0} → (t : Bool) (x y : K) (n : ℕ) → length (cond t (x ∷ y ∷ []) []) ≤ n → (2 ≤ n) ⊎ (t ≡ false)
room_or_nothing true x y n h = inl h
room_or_nothing false x y n h = inr refl

pub returns-in-Range-clause-boundaries : goal.returns-in-Range-clause-boundaries
returns-in-Range-clause-boundaries g c = rw c.in-Range.is c.from_range.ensures.boundaries

pub returns-in-Range-clause-members : goal.returns-in-Range-clause-members
returns-in-Range-clause-members g c =
    rw c.in-Range.is (IfOk-weaker c.from_range.result _ _ (λ set says x. rw (says x) (both_ends _ _)) c.from_range.ensures.members)

pub returns-in-Range-clause-succeeds : goal.returns-in-Range-clause-succeeds
returns-in-Range-clause-succeeds g c =
    rw c.in-Range.is (λ room. c.from_range.ensures.succeeds (room_or_nothing _ c.in-Range.ends.start c.in-Range.ends.end _ room))

pub returns-in-RangeFrom-clause-boundaries : goal.returns-in-RangeFrom-clause-boundaries
returns-in-RangeFrom-clause-boundaries g c = rw c.in-RangeFrom.is c.from_range_from.ensures.boundaries

pub returns-in-RangeFrom-clause-members : goal.returns-in-RangeFrom-clause-members
returns-in-RangeFrom-clause-members g c =
    rw c.in-RangeFrom.is (IfOk-weaker c.from_range_from.result _ _ (λ set says x. rw (says x) (λ h. h, λ h. h)) c.from_range_from.ensures.members)

pub returns-in-RangeFrom-clause-succeeds : goal.returns-in-RangeFrom-clause-succeeds
returns-in-RangeFrom-clause-succeeds g c = rw c.in-RangeFrom.is c.from_range_from.ensures.succeeds
