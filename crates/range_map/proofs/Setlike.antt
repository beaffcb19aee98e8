-- Maps to the unit: each key turns membership, so that their keys are the boundaries of a set.
use Rattle.std.proofs.Common.{◌≡◌, ℕ, ◌%◌, ◌==◌, ◌≤◌, ◌++◌, zero, suc, Bool, true, false, not, Option, None, Some, List, [], ◌∷◌, length, get_or, refl, sym, ap, ◌∙◌, arith, true≢false, Result, Ok, Err, IfOk}
use Rattle.std.proofs.lemmas.Bool.Decides.{nat_tests}
use Rattle.std.specs.Cmp.{IsTotalOrder}
use Rattle.std.specs.Option.{option_eq, is_some}
use Rattle.std.specs.declared.cmp.Ordering.{Ordering}
use Rattle.std.specs.declared.cmp.Ordering.TheVariants.{Less}
use Rattle.std.specs.Ordering.{is_le}
use Rattle.range_merge.specs.Boundaries.{IsAscending, count_up_to, member, is_odd}
use Rattle.range_merge.specs.Connective.{differ}
use Rattle.range_merge.proofs.Pairs.{AllPairs-tail}
use Rattle.range_merge.proofs.Members.{member-nil, member-cons, member-above}
use Rattle.range_merge.proofs.Parity.{is_odd-suc}
use Rattle.range_collections.proofs.Shortest.{is_le-cases, count_up_to-le_length}
use Rattle.range_map.specs.Steps.{Steps, value_at, IsCanonical}
use Rattle.range_map.specs.Units.{unit_if, on_off}
use Rattle.range_map.proofs.Along.{along, along-in, along-out, above_later, value_at-along}
use Rattle.range_map.proofs.Differing.{Differ, Differ-from_adjacent}

differ-not : (b c : Bool) → differ (not b) c ≡ differ b (differ true c)
differ-not true true = refl
differ-not true false = refl
differ-not false true = refl
differ-not false false = refl

differ-false : (b : Bool) → b ≡ differ b false
differ-false true = refl
differ-false false = refl

module _ {K V : Type 0} (order : K → K → Ordering) (o : IsTotalOrder order) (E : V → V → Bool) (all : (v w : V) → E v w ≡ true) where
  other : (p q : Option V) → option_eq E p q ≡ false → is_some q ≡ not (is_some p)
  other None None h = absurd (true≢false h)
  other None (Some w) h = refl
  other (Some v) None h = refl
  other (Some v) (Some w) h = absurd (true≢false (sym (all v w) ∙ h))

  -- with values that are all equal, there is one exactly where an odd number of keys is at or below
  is_some-along : (p : Option V) (ks : List K) (ps : List (Option V)) (x : K) → IsAscending order ks → length ps ≡ length ks →
      Differ (option_eq E) p ps → is_some (along order p ks ps x) ≡ differ (is_some p) (member order ks x)
  is_some-along p [] ps x up same d = differ-false (is_some p) ∙ ap (differ (is_some p)) (sym (member-nil order x))
  is_some-along p (k ∷ ks) [] x up same d = absurd (omega (arith, same))
  is_some-along p (k ∷ ks) (q ∷ ps) x up same d =
      is_le-cases (order k x)
      (λ h. ap is_some (along-in order p k ks q ps x h)
      ∙ is_some-along q ks ps x (AllPairs-tail (λ y z. order y z ≡ Less) k ks up) (omega (arith, same)) d.1
      ∙ ap (λ b. differ b (member order ks x)) (other p q d.0)
      ∙ differ-not (is_some p) (member order ks x)
      ∙ ap (differ (is_some p)) (sym (member-cons order k ks x ∙ ap (λ b. differ b (member order ks x)) h)))
      (λ g. ap is_some (along-out order p k ks q ps x g)
      ∙ differ-false (is_some p)
      ∙ ap (differ (is_some p)) (sym (member-cons order k ks x ∙ ap (λ r. differ (is_le r) (member order ks x)) g
      ∙ member-above order ks x (above_later order o k ks x up g))))

  pub member-is_some : (m : Steps K V) → IsCanonical order E m → (x : K) → is_some (value_at order m x) ≡ member order m.keys x
  member-is_some m canonical x =
      ap is_some (value_at-along order o E m x canonical)
      ∙ is_some-along None m.keys m.options x canonical.ascending canonical.one_each (Differ-from_adjacent (option_eq E) None m.options canonical.changes)

differ-turned : (b c : Bool) → differ (not b) c ≡ differ b (not c)
differ-turned true true = refl
differ-turned true false = refl
differ-turned false true = refl
differ-turned false false = refl

differ-off : (c : Bool) → differ false c ≡ c
differ-off true = refl
differ-off false = refl

-- a set read as a map to the unit
on_off-read : (b : Bool) (n k : ℕ) → k ≤ n → get_or (unit_if (not b) ∷ on_off b n) k None ≡ unit_if (differ (not b) (is_odd k))
on_off-read b n zero h = ap unit_if (differ-false (not b))
on_off-read b zero (suc k) h = absurd (omega (arith, h))
on_off-read true (suc n) (suc k) h =
    on_off-read false n k (omega (arith, h)) ∙ ap unit_if (differ-turned false (is_odd k) ∙ ap (differ false) (sym (is_odd-suc k)))
on_off-read false (suc n) (suc k) h =
    on_off-read true n k (omega (arith, h)) ∙ ap unit_if (differ-turned true (is_odd k) ∙ ap (differ true) (sym (is_odd-suc k)))

pub length-on_off : (b : Bool) (n : ℕ) → length (on_off b n) ≡ n
length-on_off b zero = refl
length-on_off b (suc n) = ap suc (length-on_off (not b) n)

pub value_at-on_off : {K : Type 0} (order : K → K → Ordering) (ks : List K) (x : K) →
    value_at order (record { keys = ks; options = on_off true (length ks) }) x ≡ unit_if (member order ks x)
value_at-on_off order ks x =
    on_off-read true (length ks) (count_up_to order ks x) (count_up_to-le_length order x ks) ∙ ap unit_if (differ-off (member order ks x))

pub is_some-unit : (b : Bool) → is_some (unit_if b) ≡ b
is_some-unit true = refl
is_some-unit false = refl

-- an option like the unit, or like none
pub is_some-alike : (E : Unit {0} → Unit {0} → Bool) (p : Option (Unit {0})) (b : Bool) → option_eq E p (unit_if b) ≡ true → is_some p ≡ b
is_some-alike E None true h = absurd (true≢false (sym h))
is_some-alike E None false h = refl
is_some-alike E (Some u) true h = refl
is_some-alike E (Some u) false h = absurd (true≢false (sym h))

pub even-test : (n : ℕ) → ((n % 2) == 0) ≡ differ true (is_odd n)
even-test n = grind (arith, nat_tests)

-- one more option, by turns
pub on_off-more : (b : Bool) (n : ℕ) → on_off b n ++ unit_if (differ b (is_odd n)) ∷ [] ≡ on_off b (suc n)
on_off-more b zero = ap (λ c. unit_if c ∷ []) (sym (differ-false b))
on_off-more b (suc n) =
    ap (λ rest. unit_if b ∷ rest)
    (ap (λ c. on_off (not b) n ++ unit_if c ∷ []) (ap (differ b) (is_odd-suc n) ∙ sym (differ-turned b (is_odd n))) ∙ on_off-more (not b) n)

-- what follows of an Ok's value
pub if_ok : {X F : Type 0} (r : Result X F) (P Q : X → Type 0) → ((x : X) → P x → Q x) → IfOk r P → IfOk r Q
if_ok (Ok x) P Q to h = to x h
if_ok (Err e) P Q to h = h
