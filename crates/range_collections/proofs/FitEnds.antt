-- Fits that end with the greatest value, and the part of a set, or beside it, that has that value.
use Rattle.std.proofs.Common.{◌≡◌, refl, sym, ap, ◌∙◌, subst, ℕ, suc, inl, inr, ◌<◌, ◌≤◌, ◌+◌, ◌-◌, Bool, true, false, not, cond, Option, Some, None, IfSome, List, length, get_or, arith}
use Rattle.std.specs.List.{AllWithin}
use Rattle.std.specs.Ordering.{is_le, nat_cmp}
use Rattle.std.specs.Cmp.{IsTotalOrder}
use Rattle.std.proofs.lemmas.Bool.{cases_lt}
use Rattle.std.specs.declared.cmp.Ordering.{Ordering}
use Rattle.std.specs.declared.cmp.Ordering.TheVariants.{Less, Greater}
use Rattle.range_merge.specs.Boundaries.{IsAscending, member, is_odd}
use Rattle.range_merge.proofs.Orders.{Greater-from_less, Less-from_greater}
use Rattle.range_merge.proofs.Parity.{is_odd-suc}
use Rattle.range_collections.specs.Fits.{EndsAlike, IsFirstFit, IsFit, IsFromTo, IsLeastFit, IsOneOf}
use Rattle.range_collections.specs.declared.countable.multiples.Multiples.{Multiples}
use Rattle.range_collections.specs.declared.countable.value_range.ValueEnds.{ValueEnds}
use Rattle.range_collections.specs.declared.questions.first_fit.Fit.{Fit}
use Rattle.range_collections.proofs.Counted.{le-value, Greater-value, place-less}
use Rattle.range_collections.proofs.CountUpTo.{count_up_to-split}
use Rattle.range_collections.proofs.Fitting.{up_to-value}
use Rattle.range_collections.proofs.Shortest.{Less-from_le, le-trans}

pub after-ended : (closed : Bool) (last : ℕ) → closed ≡ false → cond closed (last + 1) last ≡ last
after-ended true last ended = cc
after-ended false last ended = refl

pub after-closed : (closed : Bool) (last : ℕ) → closed ≡ true → cond closed (last + 1) last ≡ last + 1
after-closed true last is = refl
after-closed false last is = cc

-- the place after the last value is no higher than the number of values
pub after-fits : (closed : Bool) (end total : ℕ) → end < total → cond closed (end + 1) end ≤ total
after-fits true end total less = omega (arith, less)
after-fits false end total less = omega (arith, less)

module _ {K : Type 0} (order : K → K → Ordering) (value : ℕ → K) (place : K → ℕ) (inside : Bool) (items : List K) (start last total count : ℕ) (m : Multiples)
    (is_last : last + 1 ≡ total) where
  -- what fits below the greatest value fits up to it
  pub IsFit-wider : (at : ℕ) → IsFit order value inside items start last count at → IsFit order value inside items start total count at
  IsFit-wider at fit = record { from = fit.from; up_to = omega (arith, fit.up_to, is_last); alike = fit.alike }

  -- what fits up to the greatest value fits below it, or ends with it
  narrower : (at : ℕ) → at + count < total → IsFit order value inside items start total count at → IsFit order value inside items start last count at
  narrower at less fit = record { from = fit.from; up_to = omega (arith, less, is_last); alike = fit.alike }

  pub IsLeastFit-wider : (r : Fit K) → IsLeastFit order value place inside items start last count m r → IsLeastFit order value place inside items start total count m r
  IsLeastFit-wider r it = record {
    fit = IsFit-wider r.place it.fit;
    aligned = it.aligned;
    least = λ at even fit.
        elim (cases_lt (at + count) total) as (λ _. r.place ≤ at) [
          | inl less ↦ it.least at even (narrower at less fit)
          | inr full ↦ omega (arith, full, it.fit.up_to, is_last)
        ];
    begins = it.begins;
  }

  module _ (none : (n : ℕ) → IsOneOf m n → IsFit order value inside items start last count n → ⊥) where
    -- where nothing fits below the greatest value, what ends with it is the first
    pub IsLeastFit-last : (r : Fit K) → IsFit order value inside items start total count r.place → IsOneOf m r.place → (m.of ≡ 1 → place r.start ≡ r.place) →
        IsLeastFit order value place inside items start total count m r
    IsLeastFit-last r fit even begins = record {
      fit = fit;
      aligned = even;
      least = λ at other_even other.
          elim (cases_lt (at + count) total) as (λ _. r.place ≤ at) [
            | inl less ↦ absurd (none at other_even (narrower at less other))
            | inr full ↦ omega (arith, full, fit.up_to)
          ];
      begins = begins;
    }

    pub none-up_to : ((n : ℕ) → n + count ≡ total → IsOneOf m n → IsFit order value inside items start total count n → ⊥) →
        (n : ℕ) → IsOneOf m n → IsFit order value inside items start total count n → ⊥
    none-up_to none_last n even fit =
        elim (cases_lt (n + count) total) as (λ _. ⊥) [
          | inl less ↦ none n even (narrower n less fit)
          | inr full ↦ none_last n (omega (arith, full, fit.up_to)) even fit
        ]

    -- no values at all fit at each value, if they fit at none below the greatest
    pub none-of_none : count ≡ 0 → (n : ℕ) → n < total → IsOneOf m n → IsFit order value inside items start total count n → ⊥
    none-of_none zero n less even fit = none n even (narrower n (omega (arith, less, zero)) fit)

-- what is least below the greatest value is least where that is added
module _ {K : Type 0} (order : K → K → Ordering) (value : ℕ → K) (place : K → ℕ) (inside : Bool) (items : List K) (start last count : ℕ) (m : Multiples) where
  pub IsLeastFit-after : (closed : Bool) (r : Fit K) → IsLeastFit order value place inside items start last count m r →
      IsLeastFit order value place inside items start (cond closed (last + 1) last) count m r
  IsLeastFit-after true r it = IsLeastFit-wider order value place inside items start last (last + 1) count m refl r it
  IsLeastFit-after false r it = it

  module _ (total : ℕ) (is_last : last + 1 ≡ total) (none : (n : ℕ) → IsOneOf m n → IsFit order value inside items start last count n → ⊥) where
    pub IfSome-last : (r : Option (Fit K)) → IfSome r (λ fit. IsFit order value inside items start total count fit.place) → IfSome r (λ fit. IsOneOf m fit.place) →
        IfSome r (λ fit. m.of ≡ 1 → place fit.start ≡ fit.place) → IfSome r (IsLeastFit order value place inside items start total count m)
    IfSome-last None fit even begins = tt
    IfSome-last (Some r) fit even begins = IsLeastFit-last order value place inside items start last total count m is_last none r fit even begins

-- a fit of some values starts below the number of values
pub IfSome-below : {K : Type 0} (order : K → K → Ordering) (value : ℕ → K) (inside : Bool) (items : List K) (start total count : ℕ) → 0 < count →
    (r : Option (Fit K)) → IfSome r (λ fit. IsFit order value inside items start total count fit.place) → IfSome r (λ fit. fit.place < total)
IfSome-below order value inside items start total count some None fit = tt
IfSome-below order value inside items start total count some (Some r) fit = omega (arith, fit.up_to, some)

-- what is said of the ends of a range from one value to below another
module _ {K : Type 0} (order : K → K → Ordering) (place : K → ℕ) (items : List K) (ends : ValueEnds K) (s e : K) (is : IsFromTo ends s e) where
  pub IsFirstFit-from_to : (count : ℕ) (r : Option K) → IsFirstFit order place items ends.start ends.end count r → IsFirstFit order place items s e count r
  IsFirstFit-from_to count r it =
      subst (λ x. IsFirstFit order place items x e count r) is.0 (subst (λ y. IsFirstFit order place items ends.start y count r) is.1 it)

  pub start-from_to : (r : Option K) → r ≡ cond (is_le (order ends.start ends.end)) (Some ends.start) None → r ≡ cond (is_le (order s e)) (Some s) None
  start-from_to r it =
      subst (λ x. r ≡ cond (is_le (order x e)) (Some x) None) is.0 (subst (λ y. r ≡ cond (is_le (order ends.start y)) (Some ends.start) None) is.1 it)

-- where nothing fits at a value, nothing fits at all
module _ {K : Type 0} (order : K → K → Ordering) (value : ℕ → K) (inside : Bool) (items : List K) (start end total count : ℕ) (m : Multiples) where
  pub none-at_values : start < total → end ≤ total → ((n : ℕ) → IsOneOf m n) →
      ((n : ℕ) → n < total → IsOneOf m n → IsFit order value inside items start end count n → ⊥) →
      (n : ℕ) → IsFit order value inside items start end count n → ⊥
  none-at_values low high each none n fit =
      elim (cases_lt n total) as (λ _. ⊥) [
        | inl less ↦ none n less (each n) fit
        | inr past ↦
            none start low (each start)
            (record { from = omega arith; up_to = omega (arith, fit.up_to, past, low, high); alike = λ k a b. absurd (omega (arith, fit.up_to, past, high, a, b)) })
      ]

module _ {K : Type 0} {order : K → K → Ordering} (o : IsTotalOrder order) (is_value : K → Type 0) (value : ℕ → K) (place : K → ℕ) (total : ℕ)
    (value_is_value : (n : ℕ) → n < total → is_value (value n))
    (place_of_value : (n : ℕ) → n < total → place (value n) ≡ n)
    (place_fits : (x : K) → is_value x → place x < total)
    (in_order : (x y : K) → is_value x → is_value y → order x y ≡ nat_cmp (place x) (place y))
    (items : List K) (greatest : K) (w : is_value greatest) (is_last : place greatest + 1 ≡ total)
    (i : ℕ) (up : IsAscending order items) (within : i ≤ length items)
    (before : AllWithin (λ y. is_le (order y greatest) ≡ true) items 0 i) (past : AllWithin (λ y. order y greatest ≡ Greater) items i (length items)) where
  -- the boundaries from i on are above each value
  above : (n : ℕ) → n < total → AllWithin (λ y. order y (value n) ≡ Greater) items i (length items)
  above n less k d low high =
      Greater-from_less o (value n) (get_or items k d)
      (Less-from_le o (value n) greatest (get_or items k d)
      (up_to-value o is_value value place total value_is_value place_of_value place_fits in_order greatest n w less (omega (arith, less, is_last)))
      (Less-from_greater o (get_or items k d) greatest (past k d low high)))

  -- a value at or above the boundaries before i
  member-last : (n : ℕ) → n < total → AllWithin (λ y. is_le (order y (value n)) ≡ true) items 0 i → member order items (value n) ≡ is_odd i
  member-last n less low = ap is_odd (count_up_to-split order (value n) items i within low (above n less))

  pub member-greatest : member order items (value (place greatest)) ≡ is_odd i
  member-greatest =
      let less = place_fits greatest w in
      member-last (place greatest) less
      (λ k d a b.
      le-trans o (get_or items k d) greatest (value (place greatest)) (before k d a b)
      (le-value o is_value value place total value_is_value place_of_value place_fits in_order greatest (place greatest) w less (omega arith)))

  module _ (inside : Bool) (alike : is_odd i ≡ inside) (start : K) where
    -- without a boundary up to the greatest value all are alike
    pub EndsAlike-all : i ≡ 0 → EndsAlike order value place total inside items start start
    EndsAlike-all none = record {
      low = omega arith;
      alike = λ n from less. member-last n less (λ k d a b. absurd (omega (arith, b, none))) ∙ alike;
      least = λ n from all. from;
    }

    module _ (item : K) (some : 0 < i) (is : (d : K) → item ≡ get_or items (i - 1) d) (v : is_value item) where
      up_to_item : (n : ℕ) → n < total → place item ≤ n → AllWithin (λ y. is_le (order y (value n)) ≡ true) items 0 i
      up_to_item n less from k d a b =
          let far : is_le (order item (value n)) ≡ true =
          le-value o is_value value place total value_is_value place_of_value place_fits in_order item n v less from in
          elim (cases_lt k (i - 1)) as (λ _. is_le (order (get_or items k d) (value n)) ≡ true) [
            | inl lower ↦
                le-trans o (get_or items k d) item (value n)
                (ap is_le (subst (λ y. order (get_or items k d) y ≡ Less) (sym (is d)) (up k (i - 1) d lower (omega (arith, within, some))))) far
            | inr same ↦
                let e : k ≡ i - 1 = omega (arith, same, b) in
                subst (λ y. is_le (order y (value n)) ≡ true) (is d ∙ ap (λ j. get_or items j d) (sym e)) far
          ]

      from_item : (n : ℕ) → place item ≤ n → n < total → member order items (value n) ≡ inside
      from_item n from less = member-last n less (up_to_item n less from) ∙ alike

      pub EndsAlike-low : place item ≤ place start → EndsAlike order value place total inside items start start
      EndsAlike-low low = record {
        low = omega arith;
        alike = λ n from less. from_item n (omega (arith, low, from)) less;
        least = λ n from all. from;
      }

      module _ (previous : (d : K) → 0 < i - 1 → is_value (get_or items (i - 1 - 1) d)) where
        -- just below the last boundary they are otherwise
        member-just_below : (n : ℕ) → n + 1 ≡ place item → member order items (value n) ≡ is_odd (i - 1)
        member-just_below n next =
            ap is_odd (count_up_to-split order (value n) items (i - 1) (omega (arith, within)) lower higher)
          where
            less : n < total
            less = omega (arith, next, place_fits item v)

            over : order item (value n) ≡ Greater
            over = Greater-value o is_value value place total value_is_value place_of_value place_fits in_order item n v less (omega (arith, next))

            higher : AllWithin (λ y. order y (value n) ≡ Greater) items (i - 1) (length items)
            higher k d a b =
                elim (cases_lt (i - 1) k) as (λ _. order (get_or items k d) (value n) ≡ Greater) [
                  | inl more ↦
                      Greater-from_less o (value n) (get_or items k d)
                      (o.trans (value n) item (get_or items k d) (Less-from_greater o item (value n) over)
                      (subst (λ y. order y (get_or items k d) ≡ Less) (sym (is d)) (up (i - 1) k d more b)))
                  | inr same ↦
                      let e : k ≡ i - 1 = omega (arith, same, a) in
                      subst (λ y. order y (value n) ≡ Greater) (is d ∙ ap (λ j. get_or items j d) (sym e)) over
                ]

            lower : AllWithin (λ y. is_le (order y (value n)) ≡ true) items 0 (i - 1)
            lower k d a b =
                let final : K = get_or items (i - 1 - 1) d in
                let u : is_value final = previous d (omega (arith, b)) in
                let rises : order final item ≡ Less =
                subst (λ y. order final y ≡ Less) (sym (is d)) (up (i - 1 - 1) (i - 1) d (omega (arith, b)) (omega (arith, within, some))) in
                let far : is_le (order final (value n)) ≡ true =
                le-value o is_value value place total value_is_value place_of_value place_fits in_order final n u less
                (omega (arith, next, place-less o is_value value place total value_is_value place_of_value place_fits in_order final item u v rises)) in
                elim (cases_lt k (i - 1 - 1)) as (λ _. is_le (order (get_or items k d) (value n)) ≡ true) [
                  | inl lesser ↦
                      le-trans o (get_or items k d) final (value n) (ap is_le (up k (i - 1 - 1) d lesser (omega (arith, within, b)))) far
                  | inr same ↦
                      let e : i - 1 - 1 ≡ k = omega (arith, same, b) in
                      subst (λ j. is_le (order (get_or items j d) (value n)) ≡ true) e far
                ]

        pub EndsAlike-item : place start < place item → EndsAlike order value place total inside items start item
        EndsAlike-item high = record {
          low = omega (arith, high);
          alike = from_item;
          least = λ n from all.
              elim (cases_lt n (place item)) as (λ _. place item ≤ n) [
                | inl less ↦
                    let below : ℕ = place item - 1 in
                    let next : below + 1 ≡ place item = omega (arith, less) in
                    let one : suc (i - 1) ≡ i = omega (arith, some) in
                    let here : member order items (value below) ≡ inside = all below (omega (arith, less)) (omega (arith, next, place_fits item v)) in
                    let turned : is_odd i ≡ not (is_odd (i - 1)) = ap is_odd (sym one) ∙ is_odd-suc (i - 1) in
                    absurd (not-self (is_odd (i - 1)) (sym (member-just_below below next) ∙ here ∙ sym alike ∙ turned))
                | inr fine ↦ fine
              ];
        }
          where
            not-self : (b : Bool) → b ≡ not b → ⊥
            not-self true e = cc
            not-self false e = cc

-- where the greatest value is otherwise, no fit ends with it
module _ {K : Type 0} (order : K → K → Ordering) (value : ℕ → K) (inside : Bool) (items : List K) (start last total count : ℕ) where
  pub none-otherwise : last + 1 ≡ total → 0 < count → member order items (value last) ≡ not inside →
      (n : ℕ) → n + count ≡ total → IsFit order value inside items start total count n → ⊥
  none-otherwise is_last some other n full fit =
      not-same inside (sym other ∙ fit.alike last (omega (arith, is_last, full, some)) (omega (arith, is_last, full)))
    where
      not-same : (b : Bool) → not b ≡ b → ⊥
      not-same true e = cc
      not-same false e = cc

-- the values from one on that are alike with the greatest
module _ {K : Type 0} (order : K → K → Ordering) (value : ℕ → K) (place : K → ℕ) (total : ℕ) (inside : Bool) (items : List K) (start from : K)
    (it : EndsAlike order value place total inside items start from) (count : ℕ) where
  pub IsFit-last : (at : ℕ) → place from ≤ at → at + count ≤ total → IsFit order value inside items (place start) total count at
  IsFit-last at low high = record {
    from = omega (arith, it.low, low);
    up_to = high;
    alike = λ n a b. it.alike n (omega (arith, low, a)) (omega (arith, b, high));
  }

  pub from-last : (at : ℕ) → at + count ≡ total → IsFit order value inside items (place start) total count at → place from ≤ at
  from-last at full fit = it.least at fit.from (λ k a b. fit.alike k a (omega (arith, b, full)))
