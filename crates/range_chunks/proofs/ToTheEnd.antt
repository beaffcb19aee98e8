-- A range without an end set in a list: what is left of it behind the cut around the start is the
-- start, if that is put.
use Rattle.std.proofs.Common.{◌≡◌, ◌≢◌, refl, sym, ap, ◌∙◌, subst, ℕ, inl, inr, ◌+◌, ◌≤◌, Option, Some, None, Bool, true, false, not, cond, ◌&&◌, ◌||◌, List, [], ◌∷◌, ◌++◌, length, take, drop, get_or, arith, All, Contains, true≢false, Result, OnOk, OnErr, IsOk, ⊎_elim, length-append, append-nil}
use Rattle.std.specs.Option.{option_to_list}
use Rattle.std.proofs.lemmas.List.{length-take-le}
use Rattle.std.proofs.lemmas.List.Elements.{All-nil, All-cons, All-head, All-tail, All-append, All-take, All-weaker, All-contains_itself, length_all_zip}
use Rattle.std.proofs.lemmas.Result.{on_ok_weaker}
use Rattle.std.specs.Cmp.{IsTotalOrder}
use Rattle.std.specs.declared.alloc.AllocError.{AllocError}
use Rattle.std.specs.declared.cmp.Ordering.{Ordering}
use Rattle.std.specs.declared.cmp.Ordering.TheVariants.{Less, Equal, Greater}
use Rattle.std.specs.Ordering.{is_le}
use Rattle.range_merge.specs.Boundaries.{IsAscending, count_up_to, member, is_odd}
use Rattle.range_merge.specs.Connective.{Means, differ}
use Rattle.range_merge.proofs.Members.{member-nil, member-cons, by_Ordering}
use Rattle.range_merge.proofs.Orders.{Greater-from_less, Less-from_greater}
use Rattle.range_merge.proofs.Parity.{differ-false}
use Rattle.range_merge.proofs.SameSet.{same_items}
use Rattle.range_collections.specs.InPlace.{IsOwnElse, AreOwnElseOf}
use Rattle.range_collections.specs.Insertion.{IsChangedByRange}
use Rattle.range_collections.specs.Splicing.{range_table, IsCut}
use Rattle.range_collections.proofs.Ascending.{IsAscending-head, IsAscending-tail, IsAscending-cons}
use Rattle.range_collections.proofs.Cut.{IsAscending-take, count_up_to-front, All-take_within, All-drop_within}
use Rattle.range_collections.proofs.Insertion.{IsAscending-answer, union-alike, difference-alike}
use Rattle.range_collections.proofs.Shortest.{is_le-cases, count_up_to-append, count_up_to-all, count_up_to-none, Less-then_le, le-trans}
use Rattle.range_collections.proofs.Values.{IsAscending-one}

module _ {K : Type 0} {order : K → K → Ordering} (o : IsTotalOrder order) where
  member-from : (start x : K) → member order (start ∷ []) x ≡ is_le (order start x)
  member-from start x = member-cons order start [] x ∙ ap (differ (is_le (order start x))) (member-nil order x) ∙ differ-false (is_le (order start x))

  IsAscending-behind : (xs : List K) (y : K) → IsAscending order xs → All (λ x. order x y ≡ Less) xs → IsAscending order (xs ++ y ∷ [])
  IsAscending-behind [] y up h = IsAscending-one o y
  IsAscending-behind (x ∷ xs) y up h =
      IsAscending-cons order x (xs ++ y ∷ [])
      (All-append (λ z. order x z ≡ Less) xs (y ∷ []) (IsAscending-head order x xs up)
      (All-cons (λ z. order x z ≡ Less) y [] (All-head (λ z. order z y ≡ Less) x xs h) (All-nil (λ z. order x z ≡ Less))))
      (IsAscending-behind xs y (IsAscending-tail order x xs up) (All-tail (λ z. order z y ≡ Less) x xs h))

  module _ (inside : Bool) (a : List K) (start : K) (n : ℕ) (s : Option K) (up : IsAscending order a) (p : IsCut order inside a start n s) where
    abbrev front : List K
    front = take n a ++ option_to_list s

    abbrev IsPut : K → Type 0
    IsPut y = (y ≡ start) × All (λ x. order x start ≢ Equal) a

    put : (P : K → Type 0) → P start → All P (option_to_list s)
    put P h = All-weaker IsPut P (λ y w. subst P (sym w.0) h) (option_to_list s) p.is_put

    kept_low : All (λ y. is_le (order y start) ≡ true) (take n a)
    kept_low = All-take_within order (λ y. is_le (order y start) ≡ true) n a p.within p.before

    length-front : length front ≡ n + length (option_to_list s)
    length-front = omega (arith, length-append (take n a) (option_to_list s), length-take-le n a p.within)

    ascending : (t : Option K) → All IsPut (option_to_list t) → IsAscending order (take n a ++ option_to_list t)
    ascending None h = subst (λ (ys : List K). IsAscending order ys) (sym (append-nil (take n a))) (IsAscending-take order n a up)
    ascending (Some y) h =
        let is = All-head IsPut y [] h in
        IsAscending-behind (take n a) y (IsAscending-take order n a up)
        (λ k d within.
        let item = get_or (take n a) k d in
        subst (λ z. order item z ≡ Less) (sym is.0)
        (by_Ordering (order item start) (λ l. l)
        (λ t. absurd (All-take (λ x. order x start ≢ Equal) n a is.1 k d within t))
        (λ g. absurd (true≢false (sym (kept_low k d within) ∙ ap is_le g)))))

    pub IsAscending-front : IsAscending order front
    IsAscending-front = ascending s p.is_put

    -- below the start the members are the old ones
    member-before : (x : K) → order start x ≡ Greater → member order front x ≡ member order a x
    member-before x g =
        let low : order x start ≡ Less = Less-from_greater o start x g in
        let none : count_up_to order (option_to_list s) x ≡ 0 = count_up_to-none order x (option_to_list s) (put (λ y. order y x ≡ Greater) g) in
        let rest : count_up_to order (drop n a) x ≡ 0 =
        count_up_to-none order x (drop n a)
        (All-drop_within order (λ y. order y x ≡ Greater) n a p.within
        (λ k d more high. Greater-from_less o x (get_or a k d) (Less-then_le o x start (get_or a k d) low (p.from k d more high)))) in
        ap is_odd (omega (arith, count_up_to-append order (take n a) (option_to_list s) x, none, count_up_to-front order n a x, rest))

    -- from the start on all boundaries that are left count
    member-after : (x : K) → is_le (order start x) ≡ true → member order front x ≡ inside
    member-after x far =
        let all : count_up_to order front x ≡ length front =
        count_up_to-all order x front
        (All-append (λ y. is_le (order y x) ≡ true) (take n a) (option_to_list s)
        (λ k d within. le-trans o (get_or (take n a) k d) start x (kept_low k d within) far)
        (put (λ y. is_le (order y x) ≡ true) far)) in
        ap is_odd (all ∙ length-front) ∙ p.parity

    pub Means-front : Means order (range_table inside) front a (start ∷ [])
    Means-front = record {
      sorted = IsAscending-front;
      members = λ x.
          is_le-cases (order start x)
          (λ t. member-after x t ∙ ap (λ b. cond b inside (member order a x)) (sym (member-from start x ∙ t)))
          (λ g. member-before x g ∙ ap (λ b. cond b inside (member order a x)) (sym (member-from start x ∙ ap is_le g)));
    }

    AreOwnElseOf-front : AreOwnElseOf order a (start ∷ []) front
    AreOwnElseOf-front =
        let Own = IsOwnElse order (Contains (start ∷ [])) a in
        All-append Own (take n a) (option_to_list s)
        (All-take Own n a (All-weaker (Contains a) Own (λ y h. inl h) a (All-contains_itself a)))
        (All-weaker IsPut Own (λ y w. subst Own (sym w.0) (inr ((0, omega arith, refl), w.1))) (option_to_list s) p.is_put)

    length-meant : (items : List K) → Means order (range_table inside) items a (start ∷ []) → length items ≡ length front
    length-meant items m =
        length_all_zip (λ x y. order x y ≡ Equal) items front
        (same_items o items front m.sorted IsAscending-front (λ x. m.members x ∙ sym (Means-front.members x)))

    module _ (new : List K) (r : Result (Unit {0}) AllocError) (taken : OnOk r (new ≡ front)) (same : OnErr r (new ≡ a)) where
      pub ascending-changed_from : IsAscending order new
      ascending-changed_from = IsAscending-answer order r new front a taken same IsAscending-front up

      pub changed-from : (n + length (option_to_list s) ≤ length a → IsOk r) → IsChangedByRange order (range_table inside) 0 a (start ∷ []) new r
      changed-from sure = record {
        means = on_ok_weaker r (λ kept. rw kept Means-front) taken;
        left_own_item = on_ok_weaker r (λ kept. rw kept AreOwnElseOf-front) taken;
        unchanged = same;
        succeeds = λ items m few.
            let e = length-meant items m in
            sure (⊎_elim (λ fits. omega (arith, fits, e, length-front)) (λ none. omega (arith, none, e, length-front)) few);
        empty = λ none. absurd (omega (arith, ap length none));
      }

  -- ---- the members after a change
  module _ (start : K) (items a : List K) where
    pub members-put_from : Means order (range_table true) items a (start ∷ []) → (x : K) → member order items x ≡ (member order a x || is_le (order start x))
    members-put_from m x = m.members x ∙ union-alike (member order a x) (member order (start ∷ []) x) ∙ ap (λ t. member order a x || t) (member-from start x)

    pub members-taken_from : Means order (range_table false) items a (start ∷ []) → (x : K) → member order items x ≡ (member order a x && not (is_le (order start x)))
    members-taken_from m x = m.members x ∙ difference-alike (member order a x) (member order (start ∷ []) x) ∙ ap (λ t. member order a x && not t) (member-from start x)
