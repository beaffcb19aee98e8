-- Values in a row that are all members of a list of ranges: they lie in one of its ranges.
use Rattle.std.proofs.Common.{◌≡◌, refl, sym, ap, ap₂, ◌∙◌, subst, ℕ, suc, inl, inr, ◌<◌, ◌≤◌, ◌+◌, ◌-◌, Bool, true, false, not, ◌&&◌, Option, Some, None, IfSome, IfNone, List, [], ◌∷◌, filter, slice_get, cond, nat_le, get_or, arith}
use Rattle.std.specs.Option.{option_map}
use Rattle.std.specs.Cmp.{IsTotalOrder, ranks}
use Rattle.std.specs.Ordering.{is_le, is_lt, nat_cmp}
use Rattle.std.specs.declared.cmp.Ordering.{Ordering}
use Rattle.std.specs.declared.cmp.Ordering.TheVariants.{Less}
use Rattle.std.proofs.lemmas.Bool.{cases_lt, true≢false}
use Rattle.std.proofs.lemmas.Bool.Decides.{nat_tests}
use Rattle.std.proofs.lemmas.Cmp.{by_ranked}
use Rattle.range_merge.specs.Boundaries.{IsAscending, member, is_odd}
use Rattle.range_merge.specs.Connective.{differ}
use Rattle.range_merge.proofs.Members.{member-cons, member-nil}
use Rattle.range_merge.proofs.Orders.{Greater-from_less, Less-from_greater}
use Rattle.range_collections.specs.Fits.{Fits, IsOneOf, IsFit, first_start, has_values}
use Rattle.range_collections.specs.Ranges.{range_start, ranges_of}
use Rattle.range_collections.specs.declared.range_set_range.RangeSetRange.TheVariants.{Range}
use Rattle.range_collections.specs.declared.countable.multiples.Multiples.{Multiples}
use Rattle.range_collections.proofs.Ascending.{Less-from_is_lt}
use Rattle.range_collections.proofs.Counted.{le-value, Greater-value, place-less}
use Rattle.range_collections.proofs.NextMultiple.{each_multiple}
use Rattle.range_collections.proofs.Ranked.{place-le}
use Rattle.range_collections.proofs.Shortest.{count_up_to-none, Less-from_le}

and-true : (p q : Bool) → (p && q) ≡ true → (p ≡ true) × (q ≡ true)
and-true true true e = (refl, refl)
and-true true false e = absurd (cc)
and-true false q e = absurd (cc)

-- what a walk through ranges keeps: the members of those that are unread are members of all, and all
-- values in a row that begin at one of the multiples are still there
pub record IsUnread {K : Type 0} (order : K → K → Ordering) (value : ℕ → K) (place : K → ℕ) (count n : ℕ) (m : Multiples) (all unread : List K) : Type 0 where
  pub sorted : IsAscending order unread
  pub members : (k : ℕ) → k < count → member order unread (value k) ≡ true → member order all (value k) ≡ true
  pub fits : (at : ℕ) → IsOneOf m at → IsFit order value true all 0 count n at → IsFit order value true unread 0 count n at
  pub first : m.of ≡ 1 → first_start order place n all ≡ first_start order place n unread

twice : (b : Bool) → differ true (differ true b) ≡ b
twice true = refl
twice false = refl

module _ {K : Type 0} {order : K → K → Ordering} (o : IsTotalOrder order) where
  -- what is at or below an item is in none of the ranges after it
  pub member-before : (e : K) (rest : List K) → IsAscending order (e ∷ rest) → (x : K) → is_le (order x e) ≡ true → member order rest x ≡ false
  member-before e rest up x low =
      ap is_odd (count_up_to-none order x rest
      (λ k d within. Greater-from_less o x (get_or rest k d) (Less-from_le o x e (get_or rest k d) low (up 0 (suc k) d (omega arith) (omega (arith, within))))))

module _ {K : Type 0} {order : K → K → Ordering} (o : IsTotalOrder order) (is_value : K → Type 0) (value : ℕ → K) (place : K → ℕ) (count : ℕ)
    (value_is_value : (n : ℕ) → n < count → is_value (value n))
    (place_of_value : (n : ℕ) → n < count → place (value n) ≡ n)
    (place_fits : (x : K) → is_value x → place x < count)
    (in_order : (x y : K) → is_value x → is_value y → order x y ≡ nat_cmp (place x) (place y)) where
  pub up_to-value : (x : K) (n : ℕ) → is_value x → n < count → n ≤ place x → is_le (order (value n) x) ≡ true
  up_to-value x n v less low =
      by_ranked (n < place x) (n ≡ place x) (place x < n) (nat_cmp n (place x)) (ranks n (place x))
      (λ e _. ap is_le (there ∙ e)) (λ e _. ap is_le (there ∙ e)) (λ e more. absurd (omega (arith, low, more)))
    where
      there : order (value n) x ≡ nat_cmp n (place x)
      there = in_order (value n) x (value_is_value n less) v ∙ ap (λ p. nat_cmp p (place x)) (place_of_value n less)

  -- a list with one range in front of the rest
  module _ (s e : K) (rest : List K) (v : is_value s) (w : is_value e) (up : IsAscending order (s ∷ e ∷ rest)) where
    later : IsAscending order (e ∷ rest)
    later i j d less within = up (suc i) (suc j) d (omega (arith, less)) (omega (arith, within))

    pub ends_in_order : order s e ≡ Less
    ends_in_order = up 0 1 s (omega arith) (omega arith)

    pub places_in_order : place s ≤ place e
    places_in_order = omega (arith, place-less o is_value value place count value_is_value place_of_value place_fits in_order s e v w ends_in_order)

    in_range : (n : ℕ) → n < count → place s ≤ n → n < place e → member order (s ∷ e ∷ rest) (value n) ≡ true
    in_range n less from below =
        let high = Greater-value o is_value value place count value_is_value place_of_value place_fits in_order e n w less below in
        member-cons order s (e ∷ rest) (value n)
        ∙ ap₂ differ (le-value o is_value value place count value_is_value place_of_value place_fits in_order s n v less from)
        (member-cons order e rest (value n) ∙ ap₂ differ (ap is_le high) (member-before o e rest later (value n) (ap is_le (Less-from_greater o e (value n) high))))

    below_range : (n : ℕ) → n < count → n < place s → member order (s ∷ e ∷ rest) (value n) ≡ false
    below_range n less below =
        let high = Greater-value o is_value value place count value_is_value place_of_value place_fits in_order s n v less below in
        member-cons order s (e ∷ rest) (value n)
        ∙ ap₂ differ (ap is_le high) (member-before o s (e ∷ rest) up (value n) (ap is_le (Less-from_greater o s (value n) high)))

    above_range : (n : ℕ) → n < count → place e ≤ n → member order (s ∷ e ∷ rest) (value n) ≡ member order rest (value n)
    above_range n less from =
        let rises = place-less o is_value value place count value_is_value place_of_value place_fits in_order s e v w ends_in_order in
        member-cons order s (e ∷ rest) (value n)
        ∙ ap₂ differ (le-value o is_value value place count value_is_value place_of_value place_fits in_order s n v less (omega (arith, from, rises)))
        (member-cons order e rest (value n) ∙ ap (λ t. differ t (member order rest (value n))) (le-value o is_value value place count value_is_value place_of_value place_fits in_order e n w less from))
        ∙ twice (member order rest (value n))

    -- as many values in a row as the range has
    pub IsFit-front : (n at : ℕ) → place s ≤ at → at + n ≤ place e → IsFit order value true (s ∷ e ∷ rest) 0 count n at
    IsFit-front n at from up_to = record {
      from = omega arith;
      up_to = omega (arith, up_to, place_fits e w);
      alike = λ k a b. in_range k (omega (arith, b, up_to, place_fits e w)) (omega (arith, from, a)) (omega (arith, b, up_to));
    }

    -- values in a row that are members begin at the start or past it
    pub fit_from : (n at : ℕ) → 0 < n → IsFit order value true (s ∷ e ∷ rest) 0 count n at → place s ≤ at
    fit_from n at some fit =
        elim (cases_lt at (place s)) as (λ _. place s ≤ at) [
          | inl low ↦
              absurd (true≢false (sym (fit.alike at (omega arith) (omega (arith, some)))
              ∙ below_range at (omega (arith, fit.up_to, some)) low))
          | inr fine ↦ fine
        ]

    -- values in a row that aren't all in the first range are past it
    pub IsFit-rest : (n at : ℕ) → 0 < n → place e < at + n → IsFit order value true (s ∷ e ∷ rest) 0 count n at → IsFit order value true rest 0 count n at
    IsFit-rest n at some long fit = record {
      from = omega arith;
      up_to = fit.up_to;
      alike = λ k a b. sym (above_range k (omega (arith, b, fit.up_to)) (omega (arith, past, a))) ∙ fit.alike k a b;
    }
      where
        past : place e < at
        past =
            elim (cases_lt (place e) at) as (λ _. place e < at) [
              | inl fine ↦ fine
              | inr low ↦
                  let less : place e < count = place_fits e w in
                  absurd (true≢false (sym (fit.alike (place e) low long)
                  ∙ above_range (place e) less (omega arith)
                  ∙ member-before o e rest later (value (place e)) (up_to-value e (place e) w less (omega arith))))
            ]

    -- the members of the rest are members of the whole
    pub member-from_rest : (n : ℕ) → n < count → member order rest (value n) ≡ true → member order (s ∷ e ∷ rest) (value n) ≡ true
    member-from_rest n less m =
        elim (cases_lt n (place e)) as (λ _. member order (s ∷ e ∷ rest) (value n) ≡ true) [
          | inl low ↦ absurd (true≢false (sym m ∙ member-before o e rest later (value n) (up_to-value e n w less (omega (arith, low)))))
          | inr from ↦ above_range n less from ∙ m
        ]

    IsAscending-rest : IsAscending order rest
    IsAscending-rest i j d less within = up (suc (suc i)) (suc (suc j)) d (omega (arith, less)) (omega (arith, within))

    -- a range that has no room is passed
    module _ (n : ℕ) (m : Multiples) (some : 0 < n) (all unread : List K) (split : unread ≡ s ∷ e ∷ rest) (it : IsUnread order value place count n m all unread)
        (short : (at : ℕ) → IsOneOf m at → place s ≤ at → place e < at + n) where
      too_short : m.of ≡ 1 → nat_le n (place e - place s) ≡ false
      too_short one =
          let long = short (place s) (each_multiple m one (place s)) (omega arith) in
          let rises = place-less o is_value value place count value_is_value place_of_value place_fits in_order s e v w ends_in_order in
          grind (arith, nat_tests)

      pub IsUnread-next : IsUnread order value place count n m all rest
      IsUnread-next = record {
        sorted = IsAscending-rest;
        members = λ k less h. it.members k less (subst (λ l. member order l (value k) ≡ true) (sym split) (member-from_rest k less h));
        fits = λ at even fit.
            let here = subst (λ l. IsFit order value true l 0 count n at) split (it.fits at even fit) in
            IsFit-rest n at some (short at even (fit_from n at some here)) here;
        first = λ one.
            it.first one
            ∙ ap (first_start order place n) split
            ∙ ap (λ t. option_map range_start (slice_get (cond t (Range (record { start = s; end = e }) ∷ filter (has_values order place n) (ranges_of rest)) (filter (has_values order place n) (ranges_of rest))) 0)) (too_short one);
      }

  -- between two ends the values in a row that are members of the parts are those that are members
  -- of the set exactly if `inside`
  module _ (items parts : List K) (start end : K) (v : is_value start) (w : is_value end) (inside : Bool) (hit : Bool → Bool)
      (from_hit : (b : Bool) → hit b ≡ true → b ≡ inside) (to_hit : (b : Bool) → b ≡ inside → hit b ≡ true)
      (members : (x : K) → member order parts x ≡ ((is_le (order start x) && is_lt (order x end)) && hit (member order items x))) where
    in_parts : (n : ℕ) → n < count → member order parts (value n) ≡ true → (place start ≤ n) × (n < place end) × (member order items (value n) ≡ inside)
    in_parts n less m =
        let all = and-true (is_le (order start (value n)) && is_lt (order (value n) end)) (hit (member order items (value n))) (sym (members (value n)) ∙ m) in
        let ends = and-true (is_le (order start (value n))) (is_lt (order (value n) end)) all.0 in
        let is = place_of_value n less in (
          omega (arith, is, place-le o is_value value place count value_is_value place_of_value place_fits in_order start (value n) v (value_is_value n less) ends.0),
          omega (arith, is, place-less o is_value value place count value_is_value place_of_value place_fits in_order (value n) end (value_is_value n less) w (Less-from_is_lt (order (value n) end) ends.1)),
          from_hit (member order items (value n)) all.1,
        )

    pub IsFit-from_parts : (n at : ℕ) → 0 < n → IsFit order value true parts 0 count n at → IsFit order value inside items (place start) (place end) n at
    IsFit-from_parts n at some fit = record {
      from = (there at (omega arith) (omega (arith, some))).0;
      up_to = omega (arith, some, (there (at + n - 1) (omega (arith, some)) (omega (arith, some))).1);
      alike = λ k a b. (there k a b).2;
    }
      where
        there : (k : ℕ) → at ≤ k → k < at + n → (place start ≤ k) × (k < place end) × (member order items (value k) ≡ inside)
        there k a b = in_parts k (omega (arith, b, fit.up_to)) (fit.alike k a b)

    pub IsFit-to_parts : (n at : ℕ) → IsFit order value inside items (place start) (place end) n at → IsFit order value true parts 0 count n at
    IsFit-to_parts n at fit = record {
      from = omega arith;
      up_to = omega (arith, fit.up_to, place_fits end w);
      alike = λ k a b.
          let less : k < count = omega (arith, b, fit.up_to, place_fits end w) in
          members (value k)
          ∙ ap₂ ◌&&◌
          (ap₂ ◌&&◌
          (le-value o is_value value place count value_is_value place_of_value place_fits in_order start k v less (omega (arith, fit.from, a)))
          (ap is_lt (Less-from_greater o end (value k) (Greater-value o is_value value place count value_is_value place_of_value place_fits in_order end k w less (omega (arith, b, fit.up_to))))))
          (to_hit (member order items (value k)) (fit.alike k a b));
    }

  -- no values in a row begin at each place from the start up to the end
  module _ (items : List K) (inside : Bool) (start end : K) (v : is_value start) (w : is_value end) where
    pub none-reversed : (n : ℕ) → is_le (order start end) ≡ false → IsFit order value inside items (place start) (place end) 0 n → ⊥
    none-reversed n h fit =
        by_ranked (place start < place end) (place start ≡ place end) (place end < place start) (nat_cmp (place start) (place end)) (ranks (place start) (place end))
        (λ e _. true≢false (sym (ap is_le (in_order start end v w ∙ e)) ∙ h)) (λ e _. true≢false (sym (ap is_le (in_order start end v w ∙ e)) ∙ h))
        (λ e more. omega (arith, more, fit.from, fit.up_to))

module _ {K : Type 0} (order : K → K → Ordering) (value : ℕ → K) (count : ℕ) where
  -- values in a row that are members of what is unread are members of all
  pub IsFit-members : (unread all : List K) → ((k : ℕ) → k < count → member order unread (value k) ≡ true → member order all (value k) ≡ true) →
      (n at : ℕ) → IsFit order value true unread 0 count n at → IsFit order value true all 0 count n at
  IsFit-members unread all members n at fit = record {
    from = fit.from;
    up_to = fit.up_to;
    alike = λ k a b. members k (omega (arith, b, fit.up_to)) (fit.alike k a b);
  }

  -- where no range is left, no values are members
  pub fit-nil : (n at : ℕ) → 0 < n → IsFit order value true [] 0 count n at → ⊥
  fit-nil n at some fit = true≢false (sym (fit.alike at (omega arith) (omega (arith, some))) ∙ member-nil order (value at))

pub IfSome-map : {X : Type 0} (r : Option X) (P Q : X → Type 0) → ((x : X) → P x → Q x) → IfSome r P → IfSome r Q
IfSome-map None P Q f h = tt
IfSome-map (Some x) P Q f h = f x h

pub IfNone-map : {X : Type 0} (r : Option X) (P Q : Type 0) → (P → Q) → IfNone r P → IfNone r Q
IfNone-map None P Q f h = f h
IfNone-map (Some x) P Q f h = tt

-- numbers without a sign: what fits is values in a row, none of which is a member
module _ {K : Type 0} (order : K → K → Ordering) (value : ℕ → K) (place : K → ℕ) (count : ℕ)
    (place_of_value : (n : ℕ) → n < count → place (value n) ≡ n)
    (order_of_places : (x y : K) → order x y ≡ nat_cmp (place x) (place y))
    (items : List K) (start end : ℕ) (len : K) (high : end ≤ count) where
  same_member : (x y : K) → place x ≡ place y → (list : List K) → member order list x ≡ member order list y
  same_member x y e [] = member-nil order x ∙ sym (member-nil order y)
  same_member x y e (b ∷ list) =
      member-cons order b list x
      ∙ ap₂ (λ o m. differ (is_le o) m) (order_of_places b x ∙ ap (nat_cmp (place b)) e ∙ sym (order_of_places b y)) (same_member x y e list)
      ∙ sym (member-cons order b list y)

  Fits-IsFit : (x : K) → Fits order place items start end len x → IsFit order value false items start end (place len) (place x)
  Fits-IsFit x fit = record {
    from = fit.from;
    up_to = fit.up_to;
    alike = λ n a b.
        let is : place (value n) ≡ n = place_of_value n (omega (arith, b, fit.up_to, high)) in
        fit.free (value n) (omega (arith, is, a)) (omega (arith, is, b));
  }

  pub IsFit-Fits : (x : K) → IsFit order value false items start end (place len) (place x) → Fits order place items start end len x
  IsFit-Fits x fit = record {
    from = fit.from;
    up_to = fit.up_to;
    free = λ y a b.
        same_member y (value (place y)) (sym (place_of_value (place y) (omega (arith, b, fit.up_to, high)))) items ∙ fit.alike (place y) a b;
  }

  pub IfSome-least : (r : Option K) → IfSome r (λ at. (n : ℕ) → IsFit order value false items start end (place len) n → place at ≤ n) →
      IfSome r (λ x. (y : K) → Fits order place items start end len y → place x ≤ place y)
  IfSome-least None h = tt
  IfSome-least (Some x) h = λ y fit. h (place y) (Fits-IsFit y fit)

  pub IfNone-fits : (r : Option K) → IfNone r ((n : ℕ) → IsFit order value false items start end (place len) n → ⊥) →
      IfNone r ((y : K) → Fits order place items start end len y → ⊥)
  IfNone-fits None h = λ y fit. h (place y) (Fits-IsFit y fit)
  IfNone-fits (Some x) h = tt

pub from_not : (b : Bool) → not b ≡ true → b ≡ false
from_not true e = cc
from_not false e = refl

pub to_not : (b : Bool) → b ≡ false → not b ≡ true
to_not true e = cc
to_not false e = refl
