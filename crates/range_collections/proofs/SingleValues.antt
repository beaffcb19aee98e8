-- The set of single values: the range that has one value, and a list that is longer by one.
use Rattle.std.proofs.Common.{◌≡◌, ◌↔◌, sym, ap, ◌∙◌, subst, ℕ, inl, inr, ◌<◌, ◌≤◌, ◌+◌, List, [], ◌∷◌, ◌++◌, length, get_or, arith, length-append}
use Rattle.std.specs.Cmp.{IsTotalOrder, ranks}
use Rattle.std.specs.List.{Any}
use Rattle.std.specs.Ordering.{is_le, nat_cmp}
use Rattle.std.specs.declared.cmp.Ordering.{Ordering}
use Rattle.std.specs.declared.cmp.Ordering.TheVariants.{Less, Equal, Greater}
use Rattle.std.proofs.lemmas.Bool.{cases_lt}
use Rattle.std.proofs.lemmas.Cmp.{by_ranked}
use Rattle.std.proofs.lemmas.List.{get_or-append-add, get_or_append_left}
use Rattle.range_collections.specs.Ranges.{IsInRange}
use Rattle.range_collections.specs.declared.range_set_range.RangeSetRange.TheVariants.{Range, RangeFrom}
use Rattle.range_collections.proofs.Counted.{place-less}
use Rattle.range_collections.proofs.Ranked.{place-le}

module _ {X : Type 0} (P : X → Type 0) (xs : List X) (y : X) where
  Any-before : Any P xs → Any P (xs ++ y ∷ [])
  Any-before (k, x, less, at, p) =
      (k, x, omega (arith, less, length-append xs (y ∷ [])), get_or_append_left xs (y ∷ []) x k less ∙ at, p)

  Any-last : P y → Any P (xs ++ y ∷ [])
  Any-last p =
      let final : length xs ≡ length xs + 0 = omega arith in
      (length xs, y, omega (arith, length-append xs (y ∷ [])), ap (λ n. get_or (xs ++ y ∷ []) n y) final ∙ get_or-append-add xs (y ∷ []) 0 y, p)

  Any-cases : (G : Type 0) → (Any P xs → G) → (P y → G) → Any P (xs ++ y ∷ []) → G
  Any-cases G before last (k, x, less, at, p) =
      elim (cases_lt k (length xs)) as (λ _. G) [
        | inl low ↦ before (k, x, low, sym (get_or_append_left xs (y ∷ []) x k low) ∙ at, p)
        | inr far ↦
            let is : k ≡ length xs + 0 = omega (arith, far, less, length-append xs (y ∷ [])) in
            last (subst P (sym at ∙ ap (λ n. get_or (xs ++ y ∷ []) n x) is ∙ get_or-append-add xs (y ∷ []) 0 x) p)
      ]

-- two lists in step, each longer by one
pub Any-push : {X Y : Type 0} (P : X → Type 0) (Q : Y → Type 0) (xs : List X) (ys : List Y) (x : X) (y : Y) →
    Any P xs ↔ Any Q ys → P x ↔ Q y → Any P (xs ++ x ∷ []) ↔ Any Q (ys ++ y ∷ [])
Any-push P Q xs ys x y before last = (
  Any-cases P xs x (Any Q (ys ++ y ∷ [])) (λ a. Any-before Q ys y (before.0 a)) (λ p. Any-last Q ys y (last.0 p)),
  Any-cases Q ys y (Any P (xs ++ x ∷ [])) (λ a. Any-before P xs x (before.1 a)) (λ q. Any-last P xs x (last.1 q)),
)

module _ {K : Type 0} {order : K → K → Ordering} (o : IsTotalOrder order) (is_value : K → Type 0) (value : ℕ → K) (place : K → ℕ) (count : ℕ)
    (value_is_value : (n : ℕ) → n < count → is_value (value n))
    (place_of_value : (n : ℕ) → n < count → place (value n) ≡ n)
    (place_fits : (x : K) → is_value x → place x < count)
    (in_order : (x y : K) → is_value x → is_value y → order x y ≡ nat_cmp (place x) (place y)) where
  module _ (x y : K) (v : is_value x) (w : is_value y) where
    same_place : order x y ≡ Equal → place x ≡ place y
    same_place e =
        by_ranked (place x < place y) (place x ≡ place y) (place y < place x) (nat_cmp (place x) (place y)) (ranks (place x) (place y))
        (λ f _. absurd (let no : Less ≡ Equal = sym f ∙ sym (in_order x y v w) ∙ e in cc))
        (λ f same. same)
        (λ f _. absurd (let no : Greater ≡ Equal = sym f ∙ sym (in_order x y v w) ∙ e in cc))

    equal-places : place x ≡ place y → order x y ≡ Equal
    equal-places e =
        by_ranked (place x < place y) (place x ≡ place y) (place y < place x) (nat_cmp (place x) (place y)) (ranks (place x) (place y))
        (λ f less. absurd (omega (arith, e, less))) (λ f _. in_order x y v w ∙ f) (λ f more. absurd (omega (arith, e, more)))

    less-places : place x < place y → order x y ≡ Less
    less-places e =
        by_ranked (place x < place y) (place x ≡ place y) (place y < place x) (nat_cmp (place x) (place y)) (ranks (place x) (place y))
        (λ f _. in_order x y v w ∙ f) (λ f same. absurd (omega (arith, e, same))) (λ f more. absurd (omega (arith, e, more)))

  -- the range up to the next value has one value
  pub in_range-next : (x y end : K) → is_value x → is_value y → is_value end → place end ≡ place x + 1 → IsInRange order (Range (record { start = x; end = end })) y ↔ (order x y ≡ Equal)
  in_range-next x y end v w u next = (
    (λ h.
        let low = place-le o is_value value place count value_is_value place_of_value place_fits in_order x y v w h.0 in
        let high = place-less o is_value value place count value_is_value place_of_value place_fits in_order y end w u h.1 in
        equal-places x y v w (omega (arith, low, high, next))),
    (λ e. (ap is_le e, less-places y end w u (omega (arith, next, same_place x y v w e)))),
  )

  -- nothing is above the greatest value
  pub in_range-greatest : (x y : K) → is_value x → is_value y → count ≤ place x + 1 → IsInRange order (RangeFrom (record { start = x })) y ↔ (order x y ≡ Equal)
  in_range-greatest x y v w most = (
    (λ h.
        let low = place-le o is_value value place count value_is_value place_of_value place_fits in_order x y v w h in
        equal-places x y v w (omega (arith, low, most, place_fits y w))),
    (λ e. ap is_le e),
  )
