-- How many values are members: one more range of a list adds the values from its start on, up to
-- its end.
use Rattle.std.proofs.Common.{◌≡◌, refl, sym, ap, ap₂, ◌∙◌, subst, ℕ, zero, suc, inl, inr, ◌<◌, ◌≤◌, ◌+◌, ◌-◌, ◌%◌, ◌==◌, Bool, true, false, cond, List, [], ◌∷◌, ◌++◌, length, arith, All, min, get_or, take, append_assoc}
use Rattle.std.specs.Cmp.{IsTotalOrder, ranks}
use Rattle.std.specs.Ordering.{is_le, nat_cmp}
use Rattle.std.specs.declared.cmp.Ordering.{Ordering}
use Rattle.std.specs.declared.cmp.Ordering.TheVariants.{Less, Equal, Greater}
use Rattle.std.proofs.lemmas.Bool.{cases_lt, true≢false}
use Rattle.std.proofs.lemmas.Cmp.{by_ranked}
use Rattle.std.proofs.lemmas.List.{get_or_default, length-take-le, take_more}
use Rattle.range_collections.proofs.Cut.{All-take_within}
use Rattle.range_merge.specs.Boundaries.{IsAscending, count_up_to, member, is_odd}
use Rattle.range_merge.specs.Connective.{differ}
use Rattle.range_merge.proofs.Members.{member-nil, member-cons}
use Rattle.range_merge.proofs.Orders.{Greater-from_less, Less-from_greater}
use Rattle.range_merge.proofs.Parity.{is_odd-add, differ-false}
use Rattle.range_collections.specs.Covered.{members_below}
use Rattle.range_collections.proofs.Shortest.{is_le-cases, count_up_to-append, count_up_to-all, le-trans, Less-then_le}

-- one for a member, and none for another
abbrev pub bit : Bool → ℕ
bit b = cond b 1 0

pub bit-small : (b : Bool) → bit b ≤ 1
bit-small true = omega arith
bit-small false = omega arith

module _ {K : Type 0} (order : K → K → Ordering) (value : ℕ → K) where
  pub members_below-zero : (items : List K) → members_below order value items 0 ≡ 0
  unfolding members_below
  members_below-zero items = refl

  pub members_below-suc : (items : List K) (n : ℕ) → members_below order value items (suc n) ≡ members_below order value items n + bit (member order items (value n))
  unfolding members_below
  members_below-suc items n = refl

  -- four lists whose truths balance at each place have numbers of members that do
  pub members_below-balance : (ps qs rs ts : List K) (n : ℕ) →
      ((k : ℕ) → k < n → bit (member order ps (value k)) + bit (member order qs (value k)) ≡ bit (member order rs (value k)) + bit (member order ts (value k))) →
      members_below order value ps n + members_below order value qs n ≡ members_below order value rs n + members_below order value ts n
  members_below-balance ps qs rs ts zero h = omega (arith, members_below-zero ps, members_below-zero qs, members_below-zero rs, members_below-zero ts)
  members_below-balance ps qs rs ts (suc n) h =
      omega (
        arith,
        members_below-suc ps n,
        members_below-suc qs n,
        members_below-suc rs n,
        members_below-suc ts n,
        h n (omega arith),
        members_below-balance ps qs rs ts n (λ k less. h k (omega arith)),
      )

  -- no list of no boundaries has a member
  pub members_below-nil : (n : ℕ) → members_below order value [] n ≡ 0
  members_below-nil zero = members_below-zero []
  members_below-nil (suc n) = omega (arith, members_below-suc [] n, members_below-nil n, ap bit (member-nil order (value n)))

  -- where places from p on are no members, there are at most p
  pub members_below-bound : (items : List K) (p n : ℕ) → ((k : ℕ) → p ≤ k → k < n → member order items (value k) ≡ false) → members_below order value items n ≤ p
  members_below-bound items p zero h = omega (arith, members_below-zero items)
  members_below-bound items p (suc n) h =
      elim (cases_lt n p) as (λ _. members_below order value items (suc n) ≤ p) [
        | inl below ↦ omega (arith, members_below-suc items n, at_most items n, bit-small (member order items (value n)), below)
        | inr past ↦ omega (arith, members_below-suc items n, ap bit (h n past (omega arith)), members_below-bound items p n (λ k least less. h k least (omega arith)))
      ]
    where
      at_most : (items : List K) (n : ℕ) → members_below order value items n ≤ n
      at_most items zero = omega (arith, members_below-zero items)
      at_most items (suc n) = omega (arith, members_below-suc items n, at_most items n, bit-small (member order items (value n)))

  -- where the members are the places from s on, up to p, there are as many as lie between
  pub members_below-between : (items : List K) (s p n : ℕ) → s ≤ p →
      ((k : ℕ) → k < n → k < s → member order items (value k) ≡ false) →
      ((k : ℕ) → k < n → s ≤ k → k < p → member order items (value k) ≡ true) →
      ((k : ℕ) → k < n → p ≤ k → member order items (value k) ≡ false) →
      members_below order value items n ≡ min n p - min n s
  members_below-between items s p zero up before within after = omega (arith, members_below-zero items)
  members_below-between items s p (suc n) up before within after =
      let rest = members_below-between items s p n up (λ k less. before k (omega arith)) (λ k less. within k (omega arith)) (λ k less. after k (omega arith)) in
      let more = members_below-suc items n in
      elim (cases_lt n s) as (λ _. members_below order value items (suc n) ≡ min (suc n) p - min (suc n) s) [
        | inl low ↦ omega (arith, up, rest, more, low, ap bit (before n (omega arith) low))
        | inr from ↦
            elim (cases_lt n p) as (λ _. members_below order value items (suc n) ≡ min (suc n) p - min (suc n) s) [
              | inl inside ↦ omega (arith, up, rest, more, from, inside, ap bit (within n (omega arith) from inside))
              | inr high ↦ omega (arith, up, rest, more, from, high, ap bit (after n (omega arith) high))
            ]
      ]

module _ {K : Type 0} {order : K → K → Ordering} (o : IsTotalOrder order) (is_value : K → Type 0) (value : ℕ → K) (place : K → ℕ) (count : ℕ)
    (value_is_value : (n : ℕ) → n < count → is_value (value n))
    (place_of_value : (n : ℕ) → n < count → place (value n) ≡ n)
    (place_fits : (x : K) → is_value x → place x < count)
    (in_order : (x y : K) → is_value x → is_value y → order x y ≡ nat_cmp (place x) (place y)) where
  -- how a value stands to the one at a place
  at_place : (x : K) (k : ℕ) → is_value x → k < count → order x (value k) ≡ nat_cmp (place x) k
  at_place x k v less = in_order x (value k) v (value_is_value k less) ∙ ap (nat_cmp (place x)) (place_of_value k less)

  pub le-value : (x : K) (k : ℕ) → is_value x → k < count → place x ≤ k → is_le (order x (value k)) ≡ true
  le-value x k v less h =
      by_ranked (place x < k) (place x ≡ k) (k < place x) (nat_cmp (place x) k) (ranks (place x) k)
      (λ e _. ap is_le (at_place x k v less ∙ e)) (λ e _. ap is_le (at_place x k v less ∙ e)) (λ e more. absurd (omega arith))

  pub Greater-value : (x : K) (k : ℕ) → is_value x → k < count → k < place x → order x (value k) ≡ Greater
  Greater-value x k v less h =
      by_ranked (place x < k) (place x ≡ k) (k < place x) (nat_cmp (place x) k) (ranks (place x) k)
      (λ e below. absurd (omega arith)) (λ e same. absurd (omega arith)) (λ e _. at_place x k v less ∙ e)

  -- values in order have places in order
  pub place-less : (x y : K) → is_value x → is_value y → order x y ≡ Less → place x < place y
  place-less x y v w h =
      by_ranked (place x < place y) (place x ≡ place y) (place y < place x) (nat_cmp (place x) (place y)) (ranks (place x) (place y))
      (λ e below. below)
      (λ e _. absurd (Less≢Equal (sym h ∙ in_order x y v w ∙ e)))
      (λ e _. absurd (Less≢Greater (sym h ∙ in_order x y v w ∙ e)))
    where
      Less≢Equal : Less ≡ Equal → ⊥
      Less≢Equal e = cc

      Less≢Greater : Less ≡ Greater → ⊥
      Less≢Greater e = cc

  module _ (start end : K) (v : is_value start) (w : is_value end) (up : order start end ≡ Less) where
    two : (x : K) → member order (start ∷ end ∷ []) x ≡ differ (is_le (order start x)) (is_le (order end x))
    two x =
        member-cons order start (end ∷ []) x
        ∙ ap (differ (is_le (order start x))) (member-cons order end [] x ∙ ap (differ (is_le (order end x))) (member-nil order x) ∙ differ-false (is_le (order end x)))

    -- a range has as many values as lie from its start on, up to its end
    pub members_below-range : members_below order value (start ∷ end ∷ []) count ≡ place end - place start
    members_below-range =
        let less = place-less start end v w up in
        omega (
          arith,
          less,
          place_fits end w,
          members_below-between order value (start ∷ end ∷ []) (place start) (place end) count (omega (arith, less))
              (λ k within low. two (value k) ∙ ap₂ differ (ap is_le (Greater-value start k v within low)) (ap is_le (Greater-value end k w within (omega (arith, less)))))
              (λ k within from inside. two (value k) ∙ ap₂ differ (le-value start k v within from) (ap is_le (Greater-value end k w within inside)))
              (λ k within high. two (value k) ∙ ap₂ differ (le-value start k v within (omega (arith, less))) (le-value end k w within high)),
        )

    module _ (items : List K) (even : is_odd (length items) ≡ false) (low : All (λ y. order y start ≡ Less) items) where
      -- from the start on, no member is one of the items before it
      off : (x : K) → is_le (order start x) ≡ true → member order items x ≡ false
      off x h = ap is_odd (count_up_to-all order x items (λ k d within. ap is_le (Less-then_le o _ start x (low k d within) h))) ∙ even

      with_range : (x : K) → member order (items ++ start ∷ end ∷ []) x ≡ differ (member order items x) (member order (start ∷ end ∷ []) x)
      with_range x = ap is_odd (count_up_to-append order items (start ∷ end ∷ []) x) ∙ is_odd-add (count_up_to order items x) (count_up_to order (start ∷ end ∷ []) x)

      one_of_both : (a b : Bool) → a ≡ false → bit (differ a b) + 0 ≡ bit a + bit b
      one_of_both false true h = refl
      one_of_both false false h = refl
      one_of_both true b h = absurd (true≢false h)

      other_of_both : (a b : Bool) → b ≡ false → bit (differ a b) + 0 ≡ bit a + bit b
      other_of_both false false h = refl
      other_of_both true false h = refl
      other_of_both a true h = absurd (true≢false h)

      balanced : (x : K) → bit (member order (items ++ start ∷ end ∷ []) x) + bit (member order [] x) ≡ bit (member order items x) + bit (member order (start ∷ end ∷ []) x)
      balanced x =
          ap₂ (λ a b. bit a + bit b) (with_range x) (member-nil order x)
          ∙ is_le-cases (order start x)
          (λ h. one_of_both (member order items x) (member order (start ∷ end ∷ []) x) (off x h))
          (λ g. other_of_both (member order items x) (member order (start ∷ end ∷ []) x) (out g))
        where
          out : order start x ≡ Greater → member order (start ∷ end ∷ []) x ≡ false
          out g = two x ∙ ap₂ differ (ap is_le g) (ap is_le (Greater-from_less o x end (o.trans x start end (Less-from_greater o start x g) up)))

      -- one more range adds its values
      pub members_below-more : members_below order value (items ++ start ∷ end ∷ []) count ≡ members_below order value items count + (place end - place start)
      members_below-more =
          omega (
            arith,
            members_below-balance order value (items ++ start ∷ end ∷ []) [] items (start ∷ end ∷ []) count (λ k within. balanced (value k)),
            members_below-nil order value count,
            members_below-range,
          )

      -- and all of them lie below its end
      pub members_below-end : members_below order value (items ++ start ∷ end ∷ []) count ≤ place end
      members_below-end =
          members_below-bound order value (items ++ start ∷ end ∷ []) (place end) count
          (λ k past within.
          let high = le-value end k w within past in
          let far = le-trans o start end (value k) (ap is_le up) high in
          with_range (value k) ∙ ap₂ differ (off (value k) far) (two (value k) ∙ ap₂ differ far high))

  -- the items before an even place, and the two from there on
  module _ (items : List K) (i : ℕ) (start end : K) (up : IsAscending order items) (more : i + 1 < length items) (even : i % 2 ≡ 0)
      (here : start ≡ get_or items i start) (next : end ≡ get_or items (i + 1) end) where
    at_start : (d : K) → get_or items i d ≡ start
    at_start d = get_or_default items i d start (omega (arith, more)) ∙ sym here

    at_end : (d : K) → get_or items (i + 1) d ≡ end
    at_end d = get_or_default items (i + 1) d end more ∙ sym next

    pub Less-pair : order start end ≡ Less
    Less-pair = subst (λ x. order x end ≡ Less) (at_start end) (subst (λ y. order (get_or items i end) y ≡ Less) (at_end end) (up i (i + 1) end (omega arith) more))

    low : All (λ y. order y start ≡ Less) (take i items)
    low = All-take_within order (λ y. order y start ≡ Less) i items (omega (arith, more)) (λ k d _ short. before k d short)
      where
        before : (k : ℕ) (d : K) → k < i → order (get_or items k d) start ≡ Less
        before k d short = subst (λ y. order (get_or items k d) y ≡ Less) (at_start d) (up k i d short (omega (arith, more)))

    paired : is_odd (length (take i items)) ≡ false
    paired = ap is_odd (length-take-le i items (omega (arith, more))) ∙ ap (λ m. m == 1) even

    shown : take (i + 2) items ≡ take i items ++ start ∷ end ∷ []
    shown =
        ap (λ n. take n items) (two_more i) ∙ take_more items (i + 1) end more
        ∙ ap₂ (λ front y. front ++ y ∷ []) (take_more items i start (omega (arith, more)) ∙ ap (λ x. take i items ++ x ∷ []) (at_start start)) (at_end end)
        ∙ append_assoc (take i items) (start ∷ []) (end ∷ [])
      where
        two_more : (n : ℕ) → n + 2 ≡ n + 1 + 1
        two_more n = omega arith

    module _ (v : is_value start) (w : is_value end) where
      pub members_below-step : members_below order value (take (i + 2) items) count ≡ members_below order value (take i items) count + (place end - place start)
      members_below-step = ap (λ front. members_below order value front count) shown ∙ members_below-more start end v w Less-pair (take i items) paired low

      pub members_below-room : members_below order value (take (i + 2) items) count < count
      members_below-room =
          let most = members_below-end start end v w Less-pair (take i items) paired low in
          omega (arith, place_fits end w, most, ap (λ front. members_below order value front count) shown)
