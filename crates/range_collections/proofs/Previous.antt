-- The greatest value at or below another that is a member, or that is none: the one at hand, or the
-- value below the last boundary.
use Rattle.std.proofs.Common.{◌≡◌, refl, sym, ap, ◌∙◌, subst, ℕ, suc, inl, inr, ◌<◌, ◌≤◌, ◌+◌, ◌-◌, Bool, true, false, not, Option, Some, None, SomeIff, IfSome, IfNone, List, [], ◌∷◌, ◌++◌, length, take, get_or, arith, All, length-append, length-take-le}
use Rattle.std.specs.List.{AllWithin}
use Rattle.std.specs.Ordering.{is_le, nat_cmp}
use Rattle.std.specs.Cmp.{IsTotalOrder}
use Rattle.std.proofs.lemmas.Bool.{cases_lt, true≢false}
use Rattle.std.proofs.lemmas.List.{get_or-append_right, get_or_append_left}
use Rattle.std.specs.declared.cmp.Ordering.{Ordering}
use Rattle.std.specs.declared.cmp.Ordering.TheVariants.{Less, Equal, Greater}
use Rattle.range_merge.specs.Boundaries.{IsAscending, count_up_to, member, is_odd}
use Rattle.range_merge.proofs.Members.{by_Ordering, count_up_to-nil}
use Rattle.range_merge.proofs.Orders.{Greater-from_less, Less-from_greater, Equal-self}
use Rattle.range_merge.proofs.Parity.{is_odd-suc}
use Rattle.range_collections.specs.Members.{IsPrevious}
use Rattle.range_collections.proofs.CountUpTo.{count_up_to-split, count_up_to-cons_in, count_up_to-cons_out}
use Rattle.range_collections.proofs.Counted.{le-value, Greater-value, place-less}
use Rattle.range_collections.proofs.Cut.{count_up_to-front, All-take_within, All-drop_within}
use Rattle.range_collections.proofs.Next.{not-from_other}
use Rattle.range_collections.proofs.Shortest.{is_le-cases, count_up_to-append, count_up_to-all, count_up_to-none, Less-from_le, Less-then_le, le-trans, le-from_greater}

-- ---- the value below the last item of a list
module _ {K : Type 0} {order : K → K → Ordering} (o : IsTotalOrder order) (is_value : K → Type 0) (value : ℕ → K) (place : K → ℕ) (count : ℕ)
    (value_is_value : (n : ℕ) → n < count → is_value (value n))
    (place_of_value : (n : ℕ) → n < count → place (value n) ≡ n)
    (place_fits : (x : K) → is_value x → place x < count)
    (in_order : (x y : K) → is_value x → is_value y → order x y ≡ nat_cmp (place x) (place y))
    (rest : List K) (last : K) (up : IsAscending order (rest ++ last ∷ [])) (v : is_value last) where
  rest_below : All (λ y. order y last ≡ Less) rest
  rest_below k d within =
      let whole : length (rest ++ last ∷ []) ≡ length rest + 1 = length-append rest (last ∷ []) in
      let there : get_or (rest ++ last ∷ []) (length rest) d ≡ last =
      get_or-append_right rest (last ∷ []) (length rest) (length rest) d refl (omega arith) ∙ ap (λ n. get_or (last ∷ []) n d) (nothing (length rest)) in
      subst (λ y. order (get_or rest k d) y ≡ Less) there
      (subst (λ y. order y (get_or (rest ++ last ∷ []) (length rest) d) ≡ Less) (get_or_append_left rest (last ∷ []) d k within)
      (up k (length rest) d within (omega (arith, whole))))
    where
      nothing : (n : ℕ) → n - n ≡ 0
      nothing n = omega arith

  pub count-from_last : (x : K) → is_le (order last x) ≡ true → count_up_to order (rest ++ last ∷ []) x ≡ length (rest ++ last ∷ [])
  count-from_last x far =
      omega (
        arith,
        length-append rest (last ∷ []),
        count_up_to-append order rest (last ∷ []) x,
        count_up_to-all order x rest (λ k d within. ap is_le (Less-then_le o (get_or rest k d) last x (rest_below k d within) far)),
        count_up_to-cons_in order last [] x far,
        count_up_to-nil order x,
      )

  -- a value that isn't below the last item in their row is at or above it
  pub le-places : (x : K) → is_value x → place last ≤ place x → is_le (order last x) ≡ true
  le-places x w h =
      is_le-cases (order last x) (λ t. t)
      (λ g.
      let low : place x < place last =
      place-less o is_value value place count value_is_value place_of_value place_fits in_order x last w v (Less-from_greater o last x g) in
      absurd (omega (arith, low, h)))

  pub count-none : place last ≡ 0 → (x : K) → is_value x → count_up_to order (rest ++ last ∷ []) x ≡ length (rest ++ last ∷ [])
  count-none none x w = count-from_last x (le-places x w (omega (arith, none)))

  module _ (p : ℕ) (next : place last ≡ p + 1) where
    there_is : p < count
    there_is = omega (arith, next, place_fits last v)

    pub value-below : is_value (value p)
    value-below = value_is_value p there_is

    pub count-above : (x : K) → is_value x → order (value p) x ≡ Less → count_up_to order (rest ++ last ∷ []) x ≡ length (rest ++ last ∷ [])
    count-above x w past =
        let more : place (value p) < place x =
        place-less o is_value value place count value_is_value place_of_value place_fits in_order (value p) x value-below w past in
        count-from_last x (le-places x w (omega (arith, more, place_of_value p there_is, next)))

    module _ (known : (d : K) → 0 < length rest → is_value (get_or rest (length rest - 1) d)) where
      rest_up_to : All (λ y. is_le (order y (value p)) ≡ true) rest
      rest_up_to k d within =
          let final : K = get_or rest (length rest - 1) d in
          let w : is_value final = known d (omega (arith, within)) in
          let low : place final < place last =
          place-less o is_value value place count value_is_value place_of_value place_fits in_order final last w v
          (rest_below (length rest - 1) d (omega (arith, within))) in
          let up_to : is_le (order final (value p)) ≡ true =
          le-value o is_value value place count value_is_value place_of_value place_fits in_order final p w there_is (omega (arith, low, next)) in
          elim (cases_lt k (length rest - 1)) as (λ _. is_le (order (get_or rest k d) (value p)) ≡ true) [
            | inl less ↦
                let whole : length (rest ++ last ∷ []) ≡ length rest + 1 = length-append rest (last ∷ []) in
                le-trans o (get_or rest k d) final (value p)
                (ap is_le (subst (λ y. order y final ≡ Less) (get_or_append_left rest (last ∷ []) d k within)
                (subst (λ y. order (get_or (rest ++ last ∷ []) k d) y ≡ Less) (get_or_append_left rest (last ∷ []) d (length rest - 1) (omega (arith, within)))
                (up k (length rest - 1) d less (omega (arith, whole, within))))))
                up_to
            | inr same ↦
                let is : k ≡ length rest - 1 = omega (arith, same, within) in
                subst (λ m. is_le (order (get_or rest m d) (value p)) ≡ true) (sym is) up_to
          ]

      pub count-below : count_up_to order (rest ++ last ∷ []) (value p) + 1 ≡ length (rest ++ last ∷ [])
      count-below =
          omega (
            arith,
            length-append rest (last ∷ []),
            count_up_to-append order rest (last ∷ []) (value p),
            count_up_to-all order (value p) rest rest_up_to,
            count_up_to-cons_out order last [] (value p)
                (ap is_le (Greater-value o is_value value place count value_is_value place_of_value place_fits in_order last p v there_is (omega (arith, next)))),
            count_up_to-nil order (value p),
          )

-- ---- what is asked at a value: n items lie at or below it
module _ {K : Type 0} {order : K → K → Ordering} (o : IsTotalOrder order) (is_value : K → Type 0) (items : List K) (here : K) (n : ℕ) (inside : Bool)
    (within : n ≤ length items)
    (before : AllWithin (λ y. is_le (order y here) ≡ true) items 0 n) (past : AllWithin (λ y. order y here ≡ Greater) items n (length items)) where
  member-here : member order items here ≡ is_odd n
  member-here = ap is_odd (count_up_to-split order here items n within before past)

  none_above : (x : K) → order here x ≡ Less → is_le (order x here) ≡ true → ⊥
  none_above x far low =
      let off : order here here ≡ Less = Less-then_le o here x here far low in
      let same : order here here ≡ Equal = Equal-self o here in
      absurd (cc)

  pub IsPrevious-itself : is_value here → is_odd n ≡ inside → IsPrevious order is_value inside items here here
  IsPrevious-itself v e = record {
    value = v;
    at_or_below = ap is_le (Equal-self o here);
    is_there = member-here ∙ e;
    greatest = λ x w far low. absurd (none_above x far low);
  }

  -- an element at or below the value has as many items at or below it as the first n have
  front : (x : K) → is_le (order x here) ≡ true → count_up_to order items x ≡ count_up_to order (take n items) x
  front x low =
      let none = count_up_to-none order x _
      (All-drop_within order (λ y. order y x ≡ Greater) n items within
      (λ k d a b. Greater-from_less o x (get_or items k d) (Less-from_le o x here (get_or items k d) low (Less-from_greater o (get_or items k d) here (past k d a b))))) in
      omega (arith, count_up_to-front order n items x, none)

  module _ (other : is_odd n ≡ inside → ⊥) where
    -- where all of the first n are at or below an element, it is not as asked
    pub not_there : (x : K) → is_le (order x here) ≡ true → count_up_to order (take n items) x ≡ length (take n items) → member order items x ≡ not inside
    not_there x low all =
        ap is_odd (front x low ∙ all ∙ length-take-le n items within) ∙ not-from_other (is_odd n) inside other

    module _ (at : K) (v : is_value at) (below : count_up_to order (take n items) at + 1 ≡ length (take n items)) where
      at_below : is_le (order at here) ≡ true
      at_below =
          is_le-cases (order at here) (λ t. t)
          (λ g.
          let all = count_up_to-all order at (take n items)
          (All-take_within order (λ y. is_le (order y at) ≡ true) n items within
          (λ k d a b. le-trans o (get_or items k d) here at (before k d a b) (le-from_greater o at here g))) in
          absurd (omega (arith, below, all)))

      pub IsPrevious-below : ((x : K) → is_value x → order at x ≡ Less → count_up_to order (take n items) x ≡ length (take n items)) →
          IsPrevious order is_value inside items here at
      IsPrevious-below greatest = record {
        value = v;
        at_or_below = at_below;
        is_there = is_there;
        greatest = λ x w far low. not_there x low (greatest x w far);
      }
        where
          one_less : (m k : ℕ) → m + 1 ≡ k → is_odd k ≡ not (is_odd m)
          one_less m k e = let s : k ≡ suc m = omega (arith, e) in ap is_odd s ∙ is_odd-suc m

          twice : (p q : Bool) → (p ≡ q → ⊥) → (r : Bool) → p ≡ not r → r ≡ q
          twice p q h true e = absurd_or p q h e
            where
              absurd_or : (p q : Bool) → (p ≡ q → ⊥) → p ≡ false → true ≡ q
              absurd_or false false h e = absurd (h refl)
              absurd_or false true h e = refl
              absurd_or true q h e = absurd (true≢false e)
          twice p q h false e = absurd_or p q h e
            where
              absurd_or : (p q : Bool) → (p ≡ q → ⊥) → p ≡ true → false ≡ q
              absurd_or true true h e = absurd (h refl)
              absurd_or true false h e = refl
              absurd_or false q h e = absurd (true≢false (sym e))

          is_there : member order items at ≡ inside
          is_there =
              ap is_odd (front at at_below)
              ∙ twice (is_odd n) inside other (is_odd (count_up_to order (take n items) at))
              (one_less (count_up_to order (take n items) at) n (below ∙ length-take-le n items within))

    -- what is answered: the value below the last of the first n, where there is one
    pub IsPrevious-made : (r : Option K) → IfSome r is_value → IfSome r (λ at. count_up_to order (take n items) at + 1 ≡ length (take n items)) →
        IfSome r (λ at. (x : K) → is_value x → order at x ≡ Less → count_up_to order (take n items) x ≡ length (take n items)) →
        IfSome r (λ at. IsPrevious order is_value inside items here at)
    IsPrevious-made None v below greatest = tt
    IsPrevious-made (Some at) v below greatest = IsPrevious-below at v below greatest

    pub not_there-none : (r : Option K) → IfNone r ((x : K) → is_value x → count_up_to order (take n items) x ≡ length (take n items)) →
        IfNone r ((x : K) → is_value x → is_le (order x here) ≡ true → member order items x ≡ not inside)
    not_there-none None all = λ x w low. not_there x low (all x w)
    not_there-none (Some at) all = tt

-- ---- two answers are equal
not_both : (p q : Bool) → p ≡ q → p ≡ not q → ⊥
not_both p true e f = absurd (true≢false (sym e ∙ f))
not_both p false e f = absurd (true≢false (sym f ∙ e))

pub IsPrevious-pinned : {K : Type 0} {order : K → K → Ordering} (o : IsTotalOrder order) (is_value : K → Type 0) (inside : Bool) (items : List K) (from a b : K) →
    IsPrevious order is_value inside items from a → IsPrevious order is_value inside items from b → order a b ≡ Equal
IsPrevious-pinned {K} {order} o is_value inside items from a b p q =
    by_Ordering (order a b)
    (λ less. absurd (not_both (member order items b) inside q.is_there (p.greatest b q.value less q.at_or_below)))
    (λ same. same)
    (λ past. absurd (not_both (member order items a) inside p.is_there (q.greatest a p.value (Less-from_greater o a b past) p.at_or_below)))

-- ---- what an option that is made from a place holds
module _ {K : Type 0} (value : ℕ → K) (count p : ℕ) where
  pub IfSome-at_place : (P : K → Type 0) (r : Option K) → SomeIff r (p < count) (value p) → P (value p) → IfSome r P
  IfSome-at_place P None made h = tt
  IfSome-at_place P (Some x) made h = subst P (sym made.1) h

  pub IfSome-when : (P : K → Type 0) (r : Option K) → SomeIff r (p < count) (value p) → (p < count → P (value p)) → IfSome r P
  IfSome-when P None made h = tt
  IfSome-when P (Some x) made h = subst P (sym made.1) (h made.0)

pub IfNone-always : {K Q : Type 0} (r : Option K) → Q → IfNone r Q
IfNone-always None q = q
IfNone-always (Some x) q = tt
