-- The range that has one value, as a truth value.
use Rattle.std.proofs.Common.{◌≡◌, ◌↔◌, refl, sym, ap, ◌∙◌, ℕ, ◌<◌, ◌≤◌, ◌+◌, Bool, true, ◌&&◌, List, Any}
use Rattle.std.specs.Cmp.{IsTotalOrder}
use Rattle.std.specs.List.{list_any}
use Rattle.std.specs.Ordering.{is_eq, is_le, is_lt, nat_cmp}
use Rattle.std.specs.declared.cmp.Ordering.{Ordering}
use Rattle.std.specs.declared.cmp.Ordering.TheVariants.{Less, Equal, Greater}
use Rattle.std.proofs.lemmas.List.Folds.{Any-from_list_any, list_any-from_Any}
use Rattle.range_collections.proofs.SingleValues.{in_range-next, in_range-greatest}

as_truth : (u v : Ordering) → ((is_le u ≡ true) × (v ≡ Less)) ↔ (u ≡ Equal) → (is_le u && is_lt v) ≡ is_eq u
as_truth Less Less h = absurd (let no : Less ≡ Equal = h.0 (refl, refl) in cc)
as_truth Less Equal h = refl
as_truth Less Greater h = refl
as_truth Equal Less h = refl
as_truth Equal Equal h = absurd (let no : Equal ≡ Less = (h.1 refl).1 in cc)
as_truth Equal Greater h = absurd (let no : Greater ≡ Less = (h.1 refl).1 in cc)
as_truth Greater v h = refl

as_truth_from : (u : Ordering) → (is_le u ≡ true) ↔ (u ≡ Equal) → is_le u ≡ is_eq u
as_truth_from Less h = absurd (let no : Less ≡ Equal = h.0 refl in cc)
as_truth_from Equal h = refl
as_truth_from Greater h = refl

module _ {K : Type 0} {order : K → K → Ordering} (o : IsTotalOrder order) (is_value : K → Type 0) (value : ℕ → K) (place : K → ℕ) (count : ℕ)
    (value_is_value : (n : ℕ) → n < count → is_value (value n))
    (place_of_value : (n : ℕ) → n < count → place (value n) ≡ n)
    (place_fits : (x : K) → is_value x → place x < count)
    (in_order : (x y : K) → is_value x → is_value y → order x y ≡ nat_cmp (place x) (place y)) where
  pub one-next : (x y end : K) → is_value x → is_value y → is_value end → place end ≡ place x + 1 → (is_le (order x y) && is_lt (order y end)) ≡ is_eq (order x y)
  one-next x y end v w u next =
      as_truth (order x y) (order y end) (in_range-next o is_value value place count value_is_value place_of_value place_fits in_order x y end v w u next)

  pub one-greatest : (x y : K) → is_value x → is_value y → count ≤ place x + 1 → is_le (order x y) ≡ is_eq (order x y)
  one-greatest x y v w most =
      as_truth_from (order x y) (in_range-greatest o is_value value place count value_is_value place_of_value place_fits in_order x y v w most)

Equal-from_is_eq : (u : Ordering) → is_eq u ≡ true → u ≡ Equal
Equal-from_is_eq Less e = absurd (let no : is_eq Less ≡ is_eq Equal = e in cc)
Equal-from_is_eq Equal e = refl
Equal-from_is_eq Greater e = absurd (let no : is_eq Greater ≡ is_eq Equal = e in cc)

-- an element equals one of a list, as a truth value
pub equal_to_one : {K : Type 0} (order : K → K → Ordering) (values : List K) (x : K) (truth : Bool) → truth ≡ list_any (λ value. is_eq (order value x)) values →
    (truth ≡ true) ↔ Any (λ value. order value x ≡ Equal) values
equal_to_one order values x truth e = (
  λ t.
      let (k, value, within, is, same) = Any-from_list_any (λ value. is_eq (order value x)) values (sym e ∙ t) in
      (k, value, within, is, Equal-from_is_eq (order value x) same),
  λ h.
      let (k, value, within, is, same) = h in
      e ∙ list_any-from_Any (λ value. is_eq (order value x)) values (k, value, within, is, ap is_eq same),
)
