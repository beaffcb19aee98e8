-- What a call told of what it found, if it found something.
use Rattle.std.proofs.Common.{◌≡◌, sym, ◌∙◌, subst, Bool, true, false, Option, Some, None, IfSome, IfNone, IsTrue}
use Rattle.std.proofs.lemmas.Bool.{true≢false}

module _ {K : Type 0} (found : Option K) (answer : Bool) (old new : K)
    (some : IfSome found (λ it. (answer ≡ true) × (new ≡ it))) (none : IfNone found ((answer ≡ false) × (new ≡ old))) where
  pub told-some : (P : K → Type 0) → IfSome found P → IsTrue answer → P new
  told-some P holds was = by_found found some none holds
    where
      by_found : (found : Option K) → IfSome found (λ it. (answer ≡ true) × (new ≡ it)) → IfNone found ((answer ≡ false) × (new ≡ old)) → IfSome found P → P new
      by_found None s n h = absurd (true≢false (sym was ∙ n.0))
      by_found (Some x) s n h = subst P (sym s.1) h

  pub told-none : (Q : Type 0) → IfNone found Q → answer ≡ false → Q
  told-none Q holds was = by_found found some none holds
    where
      by_found : (found : Option K) → IfSome found (λ it. (answer ≡ true) × (new ≡ it)) → IfNone found ((answer ≡ false) × (new ≡ old)) → IfNone found Q → Q
      by_found None s n h = h
      by_found (Some x) s n h = absurd (true≢false (sym s.0 ∙ was))
