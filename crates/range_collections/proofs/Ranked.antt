-- How many members lie below a value: those of the ranges before it, and those of its own range
-- from the start on.
use Rattle.std.proofs.Common.{◌≡◌, sym, ap, ap₂, ◌∙◌, subst, ℕ, zero, suc, inl, inr, ◌<◌, ◌≤◌, ◌+◌, ◌-◌, ◌%◌, Bool, true, false, Option, Some, None, SomeIff, IfNone, List, length, take, get_or, arith, length-take-le}
use Rattle.std.specs.List.{AllWithin}
use Rattle.std.specs.Cmp.{IsTotalOrder, ranks}
use Rattle.std.specs.Ordering.{is_le, nat_cmp}
use Rattle.std.specs.declared.cmp.Ordering.{Ordering}
use Rattle.std.specs.declared.cmp.Ordering.TheVariants.{Less, Greater}
use Rattle.std.proofs.lemmas.Bool.{cases_lt, true≢false}
use Rattle.std.proofs.lemmas.Cmp.{by_ranked}
use Rattle.range_merge.specs.Boundaries.{IsAscending, count_up_to, member, is_odd}
use Rattle.range_merge.proofs.Orders.{Greater-from_less, Less-from_greater, Equal-self}
use Rattle.range_collections.specs.Covered.{members_below}
use Rattle.range_collections.proofs.Counted.{bit, bit-small, members_below-zero, members_below-suc, le-value, Greater-value}
use Rattle.range_collections.proofs.CountUpTo.{count_up_to-split}
use Rattle.range_collections.proofs.Cut.{count_up_to-front, All-take_within, All-drop_within}
use Rattle.range_collections.proofs.Points.{is_odd-at_one, is_odd-at_zero}
use Rattle.range_collections.proofs.Shortest.{count_up_to-all, count_up_to-none, Less-then_le, le-trans}

module _ {K : Type 0} (order : K → K → Ordering) (value : ℕ → K) where
  members_below-same : (a b : List K) (n : ℕ) → ((k : ℕ) → k < n → member order a (value k) ≡ member order b (value k)) →
      members_below order value a n ≡ members_below order value b n
  members_below-same a b zero h = members_below-zero order value a ∙ sym (members_below-zero order value b)
  members_below-same a b (suc n) h =
      members_below-suc order value a n
      ∙ ap₂ (λ m t. m + bit t) (members_below-same a b n (λ k less. h k (omega arith))) (h n (omega arith))
      ∙ sym (members_below-suc order value b n)

  -- where no place from p on is that of a member
  members_below-past : (items : List K) (p n : ℕ) → p ≤ n → ((k : ℕ) → p ≤ k → k < n → member order items (value k) ≡ false) →
      members_below order value items n ≡ members_below order value items p
  members_below-past items p zero up h = ap (members_below order value items) (omega (arith, up))
  members_below-past items p (suc n) up h =
      elim (cases_lt n p) as (λ _. members_below order value items (suc n) ≡ members_below order value items p) [
        | inl low ↦ ap (members_below order value items) (omega (arith, up, low))
        | inr past ↦ omega (arith, members_below-suc order value items n, ap bit (h n past (omega arith)), members_below-past items p n past (λ k a b. h k a (omega arith)))
      ]

  -- where each place from p on is that of a member
  members_below-each : (items : List K) (p n : ℕ) → p ≤ n → ((k : ℕ) → p ≤ k → k < n → member order items (value k) ≡ true) →
      members_below order value items n ≡ members_below order value items p + (n - p)
  members_below-each items p zero up h =
      let e : zero ≡ p = omega (arith, up) in
      omega (arith, ap (members_below order value items) e, up)
  members_below-each items p (suc n) up h =
      elim (cases_lt n p) as (λ _. members_below order value items (suc n) ≡ members_below order value items p + (suc n - p)) [
        | inl low ↦
            let e : suc n ≡ p = omega (arith, up, low) in
            omega (arith, ap (members_below order value items) e, up, low)
        | inr past ↦ omega (arith, past, members_below-suc order value items n, ap bit (h n past (omega arith)), members_below-each items p n past (λ k a b. h k a (omega arith)))
      ]

  -- at most as many places more as there are
  pub members_below-most : (items : List K) (p n : ℕ) → p ≤ n → members_below order value items n ≤ members_below order value items p + (n - p)
  members_below-most items p zero up =
      let e : zero ≡ p = omega (arith, up) in
      omega (arith, ap (members_below order value items) e, up)
  members_below-most items p (suc n) up =
      elim (cases_lt n p) as (λ _. members_below order value items (suc n) ≤ members_below order value items p + (suc n - p)) [
        | inl low ↦
            let e : suc n ≡ p = omega (arith, up, low) in
            omega (arith, ap (members_below order value items) e, up, low)
        | inr past ↦ omega (arith, past, members_below-suc order value items n, bit-small (member order items (value n)), members_below-most items p n past)
      ]

  pub members_below-le : (items : List K) (n : ℕ) → members_below order value items n ≤ n
  members_below-le items n = omega (arith, members_below-most items 0 n (omega arith), members_below-zero order value items)

module _ {K : Type 0} {order : K → K → Ordering} (o : IsTotalOrder order) (is_value : K → Type 0) (value : ℕ → K) (place : K → ℕ) (count : ℕ)
    (value_is_value : (n : ℕ) → n < count → is_value (value n))
    (place_of_value : (n : ℕ) → n < count → place (value n) ≡ n)
    (place_fits : (x : K) → is_value x → place x < count)
    (in_order : (x y : K) → is_value x → is_value y → order x y ≡ nat_cmp (place x) (place y)) where
  pub place-le : (x y : K) → is_value x → is_value y → is_le (order x y) ≡ true → place x ≤ place y
  place-le x y v w h =
      by_ranked (place x < place y) (place x ≡ place y) (place y < place x) (nat_cmp (place x) (place y)) (ranks (place x) (place y))
      (λ e below. omega (arith, below)) (λ e same. omega (arith, same)) (λ e more. absurd (true≢false (sym h ∙ ap is_le (in_order x y v w ∙ e))))

  -- the first m items, which lie up to a value as the others lie from it on
  module _ (items : List K) (m : ℕ) (within : m ≤ length items) (even : m % 2 ≡ 0) (x : K) (v : is_value x)
      (before : AllWithin (λ y. is_le (order y x) ≡ true) items 0 m) (from : AllWithin (λ y. is_le (order x y) ≡ true) items m (length items)) where
    pub rank-front : members_below order value items (place x) ≡ members_below order value (take m items) count
    rank-front =
        members_below-same order value items (take m items) (place x) alike
        ∙ sym (members_below-past order value (take m items) (place x) count (omega (arith, place_fits x v)) none)
      where
        alike : (k : ℕ) → k < place x → member order items (value k) ≡ member order (take m items) (value k)
        alike k less =
            let low : order (value k) x ≡ Less =
            Less-from_greater o x (value k)
            (Greater-value o is_value value place count value_is_value place_of_value place_fits in_order x k v (omega (arith, less, place_fits x v)) less) in
            let rest = count_up_to-none order (value k) _
            (All-drop_within order (λ y. order y (value k) ≡ Greater) m items within
            (λ j d a b. Greater-from_less o (value k) (get_or items j d) (Less-then_le o (value k) x (get_or items j d) low (from j d a b)))) in
            let same : count_up_to order items (value k) ≡ count_up_to order (take m items) (value k) =
            omega (arith, count_up_to-front order m items (value k), rest) in
            ap is_odd same

        none : (k : ℕ) → place x ≤ k → k < count → member order (take m items) (value k) ≡ false
        none k far less =
            let up_to : is_le (order x (value k)) ≡ true =
            le-value o is_value value place count value_is_value place_of_value place_fits in_order x k v less far in
            ap is_odd (count_up_to-all order (value k) (take m items)
            (All-take_within order (λ y. is_le (order y (value k)) ≡ true) m items within
            (λ j d a b. le-trans o (get_or items j d) x (value k) (before j d a b) up_to)))
            ∙ ap is_odd (length-take-le m items within) ∙ is_odd-at_zero m even

  -- the start of a range
  module _ (items : List K) (up : IsAscending order items) (i : ℕ) (more : i < length items) (even : i % 2 ≡ 0)
      (start : K) (v : is_value start) (here : (d : K) → get_or items i d ≡ start) where
    start_from : AllWithin (λ y. is_le (order start y) ≡ true) items i (length items)
    start_from k d a b =
        elim (cases_lt i k) as (λ _. is_le (order start (get_or items k d)) ≡ true) [
          | inl less ↦ ap is_le (subst (λ y. order y (get_or items k d) ≡ Less) (here d) (up i k d less b))
          | inr same ↦
              let is : k ≡ i = omega (arith, same, a) in
              subst (λ m. is_le (order start (get_or items m d)) ≡ true) (sym is)
              (subst (λ y. is_le (order start y) ≡ true) (sym (here d)) (ap is_le (Equal-self o start)))
        ]

    start_up_to : AllWithin (λ y. is_le (order y start) ≡ true) items 0 (i + 1)
    start_up_to k d a b =
        elim (cases_lt k i) as (λ _. is_le (order (get_or items k d) start) ≡ true) [
          | inl less ↦ ap is_le (subst (λ y. order (get_or items k d) y ≡ Less) (here d) (up k i d less more))
          | inr same ↦
              let is : k ≡ i = omega (arith, same, b) in
              subst (λ m. is_le (order (get_or items m d) start) ≡ true) (sym is)
              (subst (λ y. is_le (order y start) ≡ true) (sym (here d)) (ap is_le (Equal-self o start)))
        ]

    pub rank-start : members_below order value items (place start) ≡ members_below order value (take i items) count
    rank-start = rank-front items i (omega (arith, more)) even start v (λ k d a b. start_up_to k d a (omega (arith, b))) start_from

    module _ (x : K) (next : AllWithin (λ y. order y x ≡ Greater) items (i + 1) (length items)) where
      pub member-from_start : is_le (order start x) ≡ true → member order items x ≡ true
      member-from_start far =
          ap is_odd (count_up_to-split order x items (i + 1) (omega (arith, more)) (λ k d a b. le-trans o (get_or items k d) start x (start_up_to k d a b) far) next)
          ∙ is_odd-at_one (i + 1) (omega (arith, even))

    -- members below a value that lies in the range, or at its end
    pub rank-from_start : (x : K) → is_value x → AllWithin (λ y. order y x ≡ Greater) items (i + 1) (length items) → place start ≤ place x →
        members_below order value items (place x) ≡ members_below order value (take i items) count + (place x - place start)
    rank-from_start x w next far =
        members_below-each order value items (place start) (place x) far inside ∙ ap (λ m. m + (place x - place start)) rank-start
      where
        inside : (k : ℕ) → place start ≤ k → k < place x → member order items (value k) ≡ true
        inside k a b =
            let fits : k < count = omega (arith, b, place_fits x w) in
            let low : order (value k) x ≡ Less =
            Less-from_greater o x (value k) (Greater-value o is_value value place count value_is_value place_of_value place_fits in_order x k w fits b) in
            member-from_start (value k)
            (λ j d c e. Greater-from_less o (value k) (get_or items j d) (o.trans (value k) x (get_or items j d) low (Less-from_greater o (get_or items j d) x (next j d c e))))
            (le-value o is_value value place count value_is_value place_of_value place_fits in_order start k v fits a)

    -- all later boundaries are above what is below the next one
    pub next-below : (end : K) → is_value end → ((d : K) → get_or items (i + 1) d ≡ end) → (q : ℕ) → q < place end → AllWithin (λ y. order y (value q) ≡ Greater) items (i + 1) (length items)
    next-below end w there q less k d a b =
        let high : order end (value q) ≡ Greater =
        Greater-value o is_value value place count value_is_value place_of_value place_fits in_order end q w (omega (arith, less, place_fits end w)) less in
        elim (cases_lt (i + 1) k) as (λ _. order (get_or items k d) (value q) ≡ Greater) [
          | inl later ↦
              Greater-from_less o (value q) (get_or items k d)
              (o.trans (value q) end (get_or items k d) (Less-from_greater o end (value q) high)
              (subst (λ y. order y (get_or items k d) ≡ Less) (there d) (up (i + 1) k d later b)))
          | inr same ↦
              let is : k ≡ i + 1 = omega (arith, same, a) in
              subst (λ m. order (get_or items m d) (value q) ≡ Greater) (sym is) (subst (λ y. order y (value q) ≡ Greater) (sym (there d)) high)
        ]

    -- the member with k members below it, `left` of them in its own range
    module _ (k left : ℕ) (sum : left + members_below order value (take i items) count ≡ k) where
      module _ (q : ℕ) (at : q ≡ place start + left) (fits : q < count) (next : AllWithin (λ y. order y (value q) ≡ Greater) items (i + 1) (length items)) where
        pub member-selected : member order items (value q) ≡ true
        member-selected =
            member-from_start (value q) next
            (le-value o is_value value place count value_is_value place_of_value place_fits in_order start q v fits (omega (arith, at)))

        pub rank-selected : members_below order value items (place (value q)) ≡ k
        rank-selected =
            omega (
              arith,
              sum,
              at,
              place_of_value q fits,
              rank-from_start (value q) (value_is_value q fits) next (omega (arith, at, place_of_value q fits)),
            )

      pub rank-none : count ≤ place start + left → members_below order value items count ≤ k
      rank-none past =
          let low : place start < count = place_fits start v in
          omega (arith, sum, past, low, rank-start, members_below-most order value items (place start) count (omega (arith, low)))

    -- the last of n items up to a value, where n is odd, starts the range that the value lies in
    pub rank-odd : (x : K) (w : is_value x) → is_le (order start x) ≡ true → AllWithin (λ y. order y x ≡ Greater) items (i + 1) (length items) →
        members_below order value items (place x) ≡ members_below order value (take i items) count + (place x - place start)
    rank-odd x w far next = rank-from_start x w next (place-le start x v w far)

pub odd-parity : (r : Bool) (n : ℕ) → r ≡ is_odd n → r ≡ true → n % 2 ≡ 1
odd-parity r n e on =
    elim (cases_lt (n % 2) 1) as (λ _. n % 2 ≡ 1) [
      | inl none ↦ absurd (true≢false (sym on ∙ e ∙ is_odd-at_zero n (omega (arith, none))))
      | inr some ↦ omega (arith, some)
    ]

pub IfNone-past : {K Q : Type 0} (r : Option K) (q count : ℕ) (at : K) → SomeIff r (q < count) at → (count ≤ q → Q) → IfNone r Q
IfNone-past {K} {Q} None q count at made f =
    elim (cases_lt q count) as (λ _. Q) [
      | inl less ↦ absurd (made less)
      | inr past ↦ f past
    ]
IfNone-past (Some x) q count at made f = tt
