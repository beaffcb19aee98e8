-- What the next member, or the next element that is none, says of all from an element on.
use Rattle.std.proofs.Common.{◌≡◌, ◌↔◌, IsTrue, refl, sym, ◌∙◌, Bool, true, false, not, Option, Some, None, IfSome, IfNone, List}
use Rattle.std.specs.Borrow.{Bor}
use Rattle.std.specs.Option.{is_some}
use Rattle.std.specs.Ordering.{is_le}
use Rattle.std.proofs.lemmas.Bool.{true≢false}
use Rattle.std.specs.declared.cmp.Ordering.{Ordering}
use Rattle.range_merge.specs.Boundaries.{member}
use Rattle.range_collections.specs.Endless.{HasAllFrom, HasMemberFrom}
use Rattle.range_collections.specs.Extent.{IsNext}

module _ {K : Type 0} (order : K → K → Ordering) (items : List K) (from : K) where
  pub HasAllFrom-next_gap : (r : Option (Bor K)) (b : Bool) → is_some r ≡ not b → IfSome r (λ next. IsNext order false items from next.now) →
      IfNone r ((x : K) → is_le (order from x) ≡ true → member order items x ≡ true) → IsTrue b ↔ HasAllFrom order items from
  HasAllFrom-next_gap None true e next none = (λ _. none, λ _. refl)
  HasAllFrom-next_gap None false e next none = absurd (true≢false (sym e))
  HasAllFrom-next_gap (Some x) true e next none = absurd (true≢false e)
  HasAllFrom-next_gap (Some x) false e next none = (
    λ t. absurd (true≢false (sym t)),
    λ all. absurd (true≢false (sym (all x.now next.at_or_above) ∙ next.is_there)),
  )

  pub HasMemberFrom-next_member : (r : Option (Bor K)) (b : Bool) → b ≡ is_some r → IfSome r (λ next. IsNext order true items from next.now) →
      IfNone r ((x : K) → is_le (order from x) ≡ true → member order items x ≡ false) → IsTrue b ↔ HasMemberFrom order items from
  HasMemberFrom-next_member None b e next none = (
    λ t. absurd (true≢false (sym t ∙ e)),
    λ h. let (x, far, there) = h in absurd (true≢false (sym there ∙ none x far)),
  )
  HasMemberFrom-next_member (Some x) b e next none = (λ _. (x.now, next.at_or_above, next.is_there), λ _. e)
