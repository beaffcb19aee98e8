-- Members one by one: what is left above the lowest and below the highest.
use Rattle.std.proofs.Common.{◌≡◌, refl, sym, ap, ◌∙◌, subst, ℕ, suc, inl, inr, ◌<◌, ◌≤◌, ◌+◌, ◌-◌, ◌%◌, ◌==◌, true, false, List, [], ◌∷◌, ◌++◌, length, get_or, arith, length-append}
use Rattle.std.proofs.lemmas.List.{get_or-append-add, get_or_append_left, append-nil}
use Rattle.std.specs.Cmp.{IsTotalOrder}
use Rattle.std.specs.Ordering.{is_le, nat_cmp}
use Rattle.std.specs.declared.cmp.Ordering.{Ordering}
use Rattle.std.specs.declared.cmp.Ordering.TheVariants.{Less, Greater}
use Rattle.std.proofs.lemmas.Bool.{cases_lt, true≢false}
use Rattle.range_merge.specs.Boundaries.{IsAscending, count_up_to, member, is_odd}
use Rattle.range_merge.proofs.Members.{count_up_to-nil}
use Rattle.range_merge.proofs.Orders.{Greater-from_less, Less-from_greater}
use Rattle.range_collections.specs.Members.{members_of, AreEnds}
use Rattle.range_collections.proofs.CountUpTo.{count_up_to-cons_in, count_up_to-cons_out}
use Rattle.range_collections.proofs.Counted.{le-value, Greater-value, place-less}
use Rattle.range_collections.proofs.MembersOf.{members_of-zero, members_of-in, members_of-skip, members_of-none, members_of-same, members_of-append}
use Rattle.range_collections.proofs.Points.{is_odd-at_zero}
use Rattle.range_collections.proofs.Fitting.{up_to-value}
use Rattle.range_collections.proofs.Shortest.{is_le-cases, count_up_to-append, count_up_to-all, count_up_to-none, count_up_to-le_length, Less-from_le, Less-then_le, le-trans}

odd_twice : (n : ℕ) → is_odd (suc (suc n)) ≡ is_odd n
odd_twice n = ap (λ r. r == 1) twice
  where
    twice : suc (suc n) % 2 ≡ n % 2
    twice = omega arith

pub not_odd : (n : ℕ) → is_odd n ≡ true → n % 2 ≡ 0 → ⊥
not_odd n odd even = true≢false (sym odd ∙ is_odd-at_zero n even)

module _ {K : Type 0} {order : K → K → Ordering} (o : IsTotalOrder order) where
  -- nothing from an item on that is above x is at or below x
  pub count-above_head : (e : K) (rest : List K) → IsAscending order (e ∷ rest) → (x : K) → order e x ≡ Greater → count_up_to order (e ∷ rest) x ≡ 0
  count-above_head e rest up x high =
      count_up_to-cons_out order e rest x (ap is_le high)
      ∙ count_up_to-none order x rest
      (λ k d within.
      Greater-from_less o x (get_or rest k d)
      (o.trans x e (get_or rest k d) (Less-from_greater o e x high) (up 0 (suc k) d (omega arith) (omega (arith, within)))))

  count-head : (s : K) (rest : List K) → IsAscending order (s ∷ rest) → (x : K) → 0 < count_up_to order (s ∷ rest) x → is_le (order s x) ≡ true
  count-head s rest up x some =
      is_le-cases (order s x) (λ t. t) (λ high. absurd (omega (arith, some, count-above_head s rest up x high)))

  tail_ascends : (s : K) (rest : List K) → IsAscending order (s ∷ rest) → IsAscending order rest
  tail_ascends s rest up i j d less within = up (suc i) (suc j) d (omega (arith, less)) (omega (arith, within))

  -- two boundaries at or below x
  count-past_two : (s e : K) (rest : List K) → IsAscending order (s ∷ e ∷ rest) → (x : K) → is_le (order e x) ≡ true →
      count_up_to order (s ∷ e ∷ rest) x ≡ suc (suc (count_up_to order rest x))
  count-past_two s e rest up x far =
      count_up_to-cons_in order s (e ∷ rest) x (ap is_le (Less-then_le o s e x (up 0 1 s (omega arith) (omega arith)) far))
      ∙ ap suc (count_up_to-cons_in order e rest x far)

  -- the parts of an ascending list
  module _ (front : List K) (x : K) (back : List K) (up : IsAscending order (front ++ x ∷ back)) where
    whole : length (front ++ x ∷ back) ≡ length front + suc (length back)
    whole = length-append front (x ∷ back)

    pub front_ascends : IsAscending order front
    front_ascends i j d less within =
        subst (λ y. order (get_or front i d) y ≡ Less) (get_or_append_left front (x ∷ back) d j within)
        (subst (λ y. order y (get_or (front ++ x ∷ back) j d) ≡ Less) (get_or_append_left front (x ∷ back) d i (omega (arith, less, within)))
        (up i j d less (omega (arith, within, whole))))

    pub back_ascends : IsAscending order (x ∷ back)
    back_ascends i j d less within =
        subst (λ y. order (get_or (x ∷ back) i d) y ≡ Less) (get_or-append-add front (x ∷ back) j d)
        (subst (λ y. order y (get_or (front ++ x ∷ back) (length front + j) d) ≡ Less) (get_or-append-add front (x ∷ back) i d)
        (up (length front + i) (length front + j) d (omega (arith, less)) (omega (arith, within, whole))))

    pub front_below : (y : K) → is_le (order x y) ≡ true → count_up_to order front y ≡ length front
    front_below y far =
        count_up_to-all order y front
        (λ k d within.
        let first : length front ≡ length front + 0 = omega arith in
        let there : get_or (front ++ x ∷ back) (length front) d ≡ x =
        ap (λ n. get_or (front ++ x ∷ back) n d) first ∙ get_or-append-add front (x ∷ back) 0 d in
        let low : order (get_or front k d) x ≡ Less =
        subst (λ z. order (get_or front k d) z ≡ Less) there
        (subst (λ z. order z (get_or (front ++ x ∷ back) (length front) d) ≡ Less) (get_or_append_left front (x ∷ back) d k within)
        (up k (length front) d within (omega (arith, whole)))) in
        ap is_le (Less-then_le o (get_or front k d) x y low far))

    -- below x the front alone counts
    pub front_counts : (y : K) → order x y ≡ Greater → count_up_to order (front ++ x ∷ back) y ≡ count_up_to order front y
    front_counts y high =
        let none = count-above_head x back back_ascends y high in
        omega (arith, count_up_to-append order front (x ∷ back) y, none)

module _ {K : Type 0} {order : K → K → Ordering} (o : IsTotalOrder order) (is_value : K → Type 0) (value : ℕ → K) (place : K → ℕ) (count : ℕ)
    (value_is_value : (n : ℕ) → n < count → is_value (value n))
    (place_of_value : (n : ℕ) → n < count → place (value n) ≡ n)
    (place_fits : (x : K) → is_value x → place x < count)
    (in_order : (x y : K) → is_value x → is_value y → order x y ≡ nat_cmp (place x) (place y)) where
  pub le_values : (m n : ℕ) → m ≤ n → n < count → is_le (order (value m) (value n)) ≡ true
  le_values m n up less =
      le-value o is_value value place count value_is_value place_of_value place_fits in_order (value m) n (value_is_value m (omega (arith, up, less))) less
      (omega (arith, up, place_of_value m (omega (arith, up, less))))

  -- a value that isn't above another in order stands at or below its place
  pub up_to_place : (x : K) (n : ℕ) → is_value x → n < count → is_le (order x (value n)) ≡ true → place x ≤ n
  up_to_place x n v less low =
      elim (cases_lt n (place x)) as (λ _. place x ≤ n) [
        | inl past ↦
            absurd (true≢false (sym low ∙ ap is_le (Greater-value o is_value value place count value_is_value place_of_value place_fits in_order x n v less past)))
        | inr fine ↦ fine
      ]

  -- one boundary is at or below the lowest member
  count-start : (start : K) (after : List K) → IsAscending order (start ∷ after) → is_value start → count_up_to order (start ∷ after) (value (place start)) ≡ 1
  count-start start after up v =
      let fits = place_fits start v in
      count_up_to-cons_in order start after (value (place start)) (le-value o is_value value place count value_is_value place_of_value place_fits in_order start (place start) v fits (omega arith))
      ∙ ap suc
      (count_up_to-none order (value (place start)) after
      (λ k d within.
      Greater-from_less o (value (place start)) (get_or after k d)
      (Less-from_le o (value (place start)) start (get_or after k d)
      (up_to-value o is_value value place count value_is_value place_of_value place_fits in_order start (place start) v fits (omega arith))
      (up 0 (suc k) d (omega arith) (omega (arith, within))))))

  module _ (items : List K) (first last : ℕ) (it : AreEnds order value count items first last) where
    pub first_member : member order items (value first) ≡ true
    first_member = ap is_odd it.in_first

    pub one_left : last ≤ first → members_of order value items first (suc last - first) ≡ value first ∷ []
    one_left same =
        let one : suc last - first ≡ 1 = omega (arith, same, it.ordered) in
        ap (members_of order value items first) one ∙ members_of-in order value items first 0 first_member ∙ ap (λ l. value first ∷ l) (members_of-zero order value items (first + 1))

    pub some_items : items ≡ [] → ⊥
    some_items e = true≢false (sym first_member ∙ ap (λ l. member order l (value first)) e ∙ ap is_odd (count_up_to-nil order (value first)))

    module _ (more : first < last) where
      others_above : (list : List K) (n : ℕ) → n ≤ last → first < n →
          ((i : ℕ) → first < i → i < n → member order items (value i) ≡ false) →
          ((i : ℕ) → n ≤ i → i < suc last → member order items (value i) ≡ member order list (value i)) →
          members_of order value items first (suc last - first) ≡ value first ∷ members_of order value list n (suc last - n)
      others_above list n within past off same =
          let count_one : suc last - first ≡ suc (last - first) = omega (arith, more) in
          let split : last - first ≡ (n - (first + 1)) + (suc last - n) = omega (arith, within, past) in
          ap (members_of order value items first) count_one
          ∙ members_of-in order value items first (last - first) first_member
          ∙ ap (λ l. value first ∷ l)
          (ap (members_of order value items (first + 1)) split
          ∙ members_of-skip order value items (n - (first + 1)) (first + 1) n (suc last - n) (omega (arith, past)) (λ i a b. off i (omega (arith, a)) b)
          ∙ members_of-same order value items list n (suc last - n) (λ i a b. same i a (omega (arith, b, within))))

      -- the next value is in the first range too
      module _ (s : K) (others : List K) (split : items ≡ s ∷ others) (free : count_up_to order others (value (first + 1)) ≡ 0) where
        up : IsAscending order (s ∷ others)
        up = subst (IsAscending order) split it.sorted

        low : is_le (order s (value first)) ≡ true
        low =
            count-head o s others up (value first)
            (let is : count_up_to order (s ∷ others) (value first) ≡ 1 = subst (λ l. count_up_to order l (value first) ≡ 1) split it.in_first in omega (arith, is))

        next_one : count_up_to order items (value (first + 1)) ≡ 1
        next_one =
            subst (λ l. count_up_to order l (value (first + 1)) ≡ 1) (sym split)
            (count_up_to-cons_in order s others (value (first + 1)) (le-trans o s (value first) (value (first + 1)) low (le_values first (first + 1) (omega arith) (omega (arith, more, it.fits))))
            ∙ ap suc free)

        pub AreEnds-next : AreEnds order value count items (first + 1) last
        AreEnds-next = record {
          sorted = it.sorted;
          ordered = omega (arith, more);
          fits = it.fits;
          in_first = next_one;
          is_member = it.is_member;
          in_last = it.in_last;
        }

        pub others-next : members_of order value items first (suc last - first) ≡ value first ∷ members_of order value items (first + 1) (suc last - (first + 1))
        others-next = others_above items (first + 1) (omega (arith, more)) (omega arith) (λ i a b. absurd (omega (arith, a, b))) (λ i a b. refl)

      -- a boundary after the first that doesn't stand just above the lowest member stands further above
      pub free-end : (s e : K) (rest : List K) → items ≡ s ∷ e ∷ rest → is_value e → (place e ≡ first + 1 → ⊥) → count_up_to order (e ∷ rest) (value (first + 1)) ≡ 0
      free-end s e rest split w other =
          count-above_head o e rest (tail_ascends o s (e ∷ rest) up) (value (first + 1))
          (Greater-value o is_value value place count value_is_value place_of_value place_fits in_order e (first + 1) w (omega (arith, more, it.fits)) beyond)
        where
          up : IsAscending order (s ∷ e ∷ rest)
          up = subst (IsAscending order) split it.sorted

          above_first : first < place e
          above_first =
              elim (cases_lt first (place e)) as (λ _. first < place e) [
                | inl fine ↦ fine
                | inr below ↦
                    let far = le-value o is_value value place count value_is_value place_of_value place_fits in_order e first w (omega (arith, more, it.fits)) below in
                    let is : count_up_to order (s ∷ e ∷ rest) (value first) ≡ 1 = subst (λ l. count_up_to order l (value first) ≡ 1) split it.in_first in
                    absurd (omega (arith, is, count-past_two o s e rest up (value first) far))
              ]

          beyond : first + 1 < place e
          beyond =
              elim (cases_lt (first + 1) (place e)) as (λ _. first + 1 < place e) [
                | inl fine ↦ fine
                | inr near ↦ absurd (other (omega (arith, near, above_first)))
              ]

      pub free-none : (others : List K) → length others ≡ 0 → count_up_to order others (value (first + 1)) ≡ 0
      free-none others none = omega (arith, none, count_up_to-le_length order (value (first + 1)) others)

      -- the first range ends just above the lowest member
      module _ (s e : K) (rest : List K) (split : items ≡ s ∷ e ∷ rest) (w : is_value e) (near : place e ≡ first + 1) where
        up2 : IsAscending order (s ∷ e ∷ rest)
        up2 = subst (IsAscending order) split it.sorted

        past_end : (n : ℕ) → n < count → first < n → count_up_to order items (value n) ≡ suc (suc (count_up_to order rest (value n)))
        past_end n less past =
            subst (λ l. count_up_to order l (value n) ≡ suc (suc (count_up_to order rest (value n)))) (sym split)
            (count-past_two o s e rest up2 (value n)
            (le-value o is_value value place count value_is_value place_of_value place_fits in_order e n w less (omega (arith, near, past))))

        same_past : (n : ℕ) → n < count → first < n → member order items (value n) ≡ member order rest (value n)
        same_past n less past = ap is_odd (past_end n less past) ∙ odd_twice (count_up_to order rest (value n))

        pub no_rest : length rest ≡ 0 → ⊥
        no_rest none =
            let zero : count_up_to order rest (value last) ≡ 0 = omega (arith, none, count_up_to-le_length order (value last) rest) in
            true≢false (sym it.is_member ∙ same_past last it.fits more ∙ ap is_odd zero)

        module _ (start : K) (after : List K) (later : rest ≡ start ∷ after) (v : is_value start) where
          up3 : IsAscending order (start ∷ after)
          up3 = subst (IsAscending order) later (tail_ascends o e rest (tail_ascends o s (e ∷ rest) up2))

          fits : place start < count
          fits = place_fits start v

          before_start : (n : ℕ) → n < count → n < place start → count_up_to order rest (value n) ≡ 0
          before_start n less below =
              subst (λ l. count_up_to order l (value n) ≡ 0) (sym later)
              (count-above_head o start after up3 (value n) (Greater-value o is_value value place count value_is_value place_of_value place_fits in_order start n v less below))

          above_end : first < place start
          above_end =
              let rises : order e start ≡ Less =
              subst (λ l. IsAscending order (s ∷ e ∷ l)) later up2 1 2 e (omega arith) (omega arith) in
              omega (arith, near, place-less o is_value value place count value_is_value place_of_value place_fits in_order e start w v rises)

          up_to_last : place start ≤ last
          up_to_last =
              elim (cases_lt last (place start)) as (λ _. place start ≤ last) [
                | inl low ↦ absurd (true≢false (sym it.is_member ∙ same_past last it.fits more ∙ ap is_odd (before_start last it.fits low)))
                | inr fine ↦ fine
              ]

          pub AreEnds-jump : AreEnds order value count rest (place start) last
          AreEnds-jump = record {
            sorted = tail_ascends o e rest (tail_ascends o s (e ∷ rest) up2);
            ordered = up_to_last;
            fits = it.fits;
            in_first = subst (λ l. count_up_to order l (value (place start)) ≡ 1) (sym later) (count-start start after up3 v);
            is_member = sym (same_past last it.fits more) ∙ it.is_member;
            in_last = omega (arith, it.in_last, past_end last it.fits more, ap length split);
          }

          pub others-jump : members_of order value items first (suc last - first) ≡ value first ∷ members_of order value rest (place start) (suc last - place start)
          others-jump =
              others_above rest (place start) up_to_last above_end
              (λ i a b. same_past i (omega (arith, b, fits)) a ∙ ap is_odd (before_start i (omega (arith, b, fits)) b))
              (λ i a b. same_past i (omega (arith, b, it.fits)) (omega (arith, a, above_end)))

  -- all members lie between the places of the lowest and of the highest
  module _ (items : List K) (up : IsAscending order items) (start : K) (after : List K) (split : items ≡ start ∷ after) (v : is_value start)
      (last : ℕ) (fits : last < count) (is_member : member order items (value last) ≡ true) (in_last : length items ≤ count_up_to order items (value last) + 1)
      (highest : (n : ℕ) → last < n → n < count → member order items (value n) ≡ false) where
    up_start : IsAscending order (start ∷ after)
    up_start = subst (IsAscending order) split up

    some_count : 0 < count_up_to order items (value last)
    some_count =
        elim (cases_lt 0 (count_up_to order items (value last))) as (λ _. 0 < count_up_to order items (value last)) [
          | inl some ↦ some
          | inr none ↦ absurd (not_odd (count_up_to order items (value last)) is_member (omega (arith, none)))
        ]

    in_order_ends : place start ≤ last
    in_order_ends =
        up_to_place start last v fits
        (count-head o start after up_start (value last) (omega (arith, some_count, ap (λ l. count_up_to order l (value last)) split)))

    pub AreEnds-all : AreEnds order value count items (place start) last
    AreEnds-all = record {
      sorted = up;
      ordered = in_order_ends;
      fits = fits;
      in_first = subst (λ l. count_up_to order l (value (place start)) ≡ 1) (sym split) (count-start start after up_start v);
      is_member = is_member;
      in_last = in_last;
    }

    none_before : (n : ℕ) → n < place start → member order items (value n) ≡ false
    none_before n below =
        subst (λ l. member order l (value n) ≡ false) (sym split)
        (ap is_odd (count-above_head o start after up_start (value n) (Greater-value o is_value value place count value_is_value place_of_value place_fits in_order start n v (omega (arith, below, place_fits start v)) below)))

    pub members_of-ends : members_of order value items 0 count ≡ members_of order value items (place start) (suc last - place start)
    members_of-ends =
        let parts : count ≡ place start + (count - place start) = omega (arith, place_fits start v) in
        let rest : count - place start ≡ (suc last - place start) + (count - suc last) = omega (arith, fits, in_order_ends) in
        ap (members_of order value items 0) parts
        ∙ members_of-skip order value items (place start) 0 (place start) (count - place start) (omega arith) (λ i a b. none_before i b)
        ∙ ap (members_of order value items (place start)) rest
        ∙ members_of-append order value items (place start) (suc last - place start) (count - suc last) (suc last) (omega (arith, in_order_ends))
        ∙ ap (λ l. members_of order value items (place start) (suc last - place start) ++ l)
        (members_of-none order value items (suc last) (count - suc last) (λ i a b. highest i (omega (arith, a)) (omega (arith, b, fits))))
        ∙ append-nil (members_of order value items (place start) (suc last - place start))
