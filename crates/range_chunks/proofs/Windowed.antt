-- The result of an operation in a window of a list of boundaries is the result of the operation on the
-- whole list, with the boundaries outside the window or without them.
use Rattle.std.proofs.Common.{◌≡◌, ◌≢◌, sym, ap, ◌∙◌, subst, refl, ℕ, zero, suc, ◌+◌, ◌<◌, Bool, true, false, not, true≢false, List, [], ◌∷◌, ◌++◌, ◌-◌, ◌%◌, ◌≤◌, length, take, drop, get_or, arith, inl, inr, All, Any, Contains, Result, Ok, Err, OnOk, OnErr}
use Rattle.std.specs.Cmp.{IsTotalOrder}
use Rattle.std.specs.Ordering.{is_le, is_lt}
use Rattle.std.specs.declared.alloc.AllocError.{AllocError}
use Rattle.std.specs.declared.cmp.Ordering.{Ordering}
use Rattle.std.specs.declared.cmp.Ordering.TheVariants.{Less, Equal, Greater}
use Rattle.std.specs.List.{AllWithin}
use Rattle.std.proofs.lemmas.Bool.{cases_lt}
use Rattle.std.proofs.lemmas.List.{get_or_default, length-drop, length-take-le, take-append-drop}
use Rattle.std.proofs.lemmas.List.Elements.{All-nil, All-cons, All-head, All-tail, All-weaker, All-append, All-contains, All-contains_itself, Contains-append_left, Contains-append_right}
use Rattle.range_merge.specs.Boundaries.{IsAscending, is_odd, member}
use Rattle.range_merge.specs.Connective.{Table, differ}
use Rattle.range_merge.proofs.Members.{member-nil, member-cons, member-above, by_Ordering}
use Rattle.range_merge.proofs.Orders.{Greater-from_less, Less-from_greater, Equal-sym, Less-trans, Less-then_equal, Less-from_equal, Greater-trans}
use Rattle.range_merge.proofs.Parity.{is_odd-suc, is_odd-add, differ-false, differ-assoc}
use Rattle.range_collections.specs.Headline.{EveryElement, IsItselfOr, IsTaken, IsTheResult}
use Rattle.range_collections.proofs.Ascending.{IsAscending-nil, IsAscending-head, IsAscending-tail, IsAscending-cons}
use Rattle.range_collections.proofs.Cut.{All-take_within, All-drop_within}
use Rattle.range_collections.proofs.Headline.{IsTheResult-among}
use Rattle.range_collections.proofs.Points.{is_odd-at_zero}
use Rattle.range_chunks.specs.Window.{IsWindow}

-- ---- the table
keeps : (f : Table) → f false false ≡ false → f true false ≡ true → (a : Bool) → f a false ≡ a
keeps f off keep true = keep
keeps f off keep false = off

drops : (f : Table) → f false false ≡ false → f true false ≡ false → (a : Bool) → f a false ≡ false
drops f off drop true = drop
drops f off drop false = off

module _ (f : Table) (off : f false false ≡ false) where
  -- what both sides answer where the parts before and behind the window are on or off
  pub kept-answer : f true false ≡ true → (before within that behind : Bool) → (before ≡ true → (within ≡ false) × (that ≡ false)) → (behind ≡ true → (within ≡ false) × (that ≡ false)) →
      differ before (differ (f within that) behind) ≡ f (differ before (differ within behind)) that
  kept-answer keep true within that behind on_before on_behind =
      let w = (on_before refl).0 in
      let t = (on_before refl).1 in
      ap (λ b. not (differ b behind)) (ap (λ a. f a that) w ∙ ap (λ a. f false a) t ∙ off)
      ∙ sym (ap (λ a. f (not (differ a behind)) that) w ∙ ap (λ a. f (not behind) a) t ∙ keeps f off keep (not behind))
  kept-answer keep false within that true on_before on_behind =
      let w = (on_behind refl).0 in
      let t = (on_behind refl).1 in
      ap (λ b. differ b true) (ap (λ a. f a that) w ∙ ap (λ a. f false a) t ∙ off)
      ∙ sym (ap (λ a. f (differ a true) that) w ∙ ap (λ a. f true a) t ∙ keep)
  kept-answer keep false within that false on_before on_behind = differ-false (f within that) ∙ ap (λ a. f a that) (sym (differ-false within))

  pub dropped-answer : f true false ≡ false → (before within that behind : Bool) → (before ≡ true → (within ≡ false) × (that ≡ false)) → (behind ≡ true → (within ≡ false) × (that ≡ false)) →
      f within that ≡ f (differ before (differ within behind)) that
  dropped-answer drop true within that behind on_before on_behind =
      let w = (on_before refl).0 in
      let t = (on_before refl).1 in
      ap (λ a. f a that) w ∙ ap (λ a. f false a) t ∙ off
      ∙ sym (ap (λ a. f (not (differ within behind)) a) t ∙ drops f off drop (not (differ within behind)))
  dropped-answer drop false within that true on_before on_behind =
      let w = (on_behind refl).0 in
      let t = (on_behind refl).1 in
      ap (λ a. f a that) w ∙ ap (λ a. f false a) t ∙ off
      ∙ sym (ap (λ a. f (differ within true) a) t ∙ drops f off drop (differ within true))
  dropped-answer drop false within that false on_before on_behind = ap (λ a. f a that) (sym (differ-false within))

module _ {K : Type 0} where
  Any-part : (P : K → Type 0) (xs ys : List K) → ((x : K) → Contains xs x → Contains ys x) → Any P xs → Any P ys
  Any-part P xs ys part h =
      let there = part h.1 (h.0, h.2, h.3) in
      (there.0, h.1, there.1, there.2, h.4)

  drop-nil : (n : ℕ) → drop {A = K} n [] ≡ []
  drop-nil zero = refl
  drop-nil (suc n) = refl

  first_of : (zs : List K) → 0 < length zs → (z : K) × (get_or zs 0 z ≡ z)
  first_of [] some = absurd (omega (arith, some))
  first_of (z ∷ zs) some = (z, refl)

  -- each of these stands so to each of those
  pub flipped : (R : K → K → Type 0) (ys zs : List K) → All (λ z. All (λ y. R y z) ys) zs → All (λ y. All (λ z. R y z) zs) ys
  flipped R ys zs h = λ j d lj k e lk. h k e lk j d lj

module _ {K : Type 0} (order : K → K → Ordering) where
  pub member-append : (xs ys : List K) (x : K) → member order (xs ++ ys) x ≡ differ (member order xs x) (member order ys x)
  member-append [] ys x = ap (λ b. differ b (member order ys x)) (sym (member-nil order x))
  member-append (z ∷ xs) ys x =
      member-cons order z (xs ++ ys) x
      ∙ ap (λ b. differ (is_le (order z x)) b) (member-append xs ys x)
      ∙ sym (differ-assoc (is_le (order z x)) (member order xs x) (member order ys x))
      ∙ ap (λ b. differ b (member order ys x)) (sym (member-cons order z xs x))

  -- at or above all items: the parity of their number
  pub member-all : (xs : List K) (x : K) → All (λ y. is_le (order y x) ≡ true) xs → member order xs x ≡ is_odd (length xs)
  member-all [] x h = member-nil order x
  member-all (z ∷ xs) x h =
      member-cons order z xs x
      ∙ ap (λ b. differ b (member order xs x)) (All-head (λ y. is_le (order y x) ≡ true) z xs h)
      ∙ ap not (member-all xs x (All-tail (λ y. is_le (order y x) ≡ true) z xs h))
      ∙ sym (is_odd-suc (length xs))

  -- below each of these items stands each of those
  abbrev pub AreBelow : List K → List K → Type 0
  AreBelow xs ys = All (λ y. All (λ x. order x y ≡ Less) xs) ys

  pub ascending-append : (xs ys : List K) → IsAscending order xs → IsAscending order ys → AreBelow xs ys → IsAscending order (xs ++ ys)
  ascending-append [] ys p q below = q
  ascending-append (x ∷ xs) ys p q below =
      IsAscending-cons order x (xs ++ ys)
      (All-append (λ y. order x y ≡ Less) xs ys (IsAscending-head order x xs p) (All-weaker (λ y. All (λ z. order z y ≡ Less) (x ∷ xs)) (λ y. order x y ≡ Less) (λ y h. All-head (λ z. order z y ≡ Less) x xs h) ys below))
      (ascending-append xs ys (IsAscending-tail order x xs p) q (All-weaker (λ y. All (λ z. order z y ≡ Less) (x ∷ xs)) (λ y. All (λ z. order z y ≡ Less) xs) (λ y h. All-tail (λ z. order z y ≡ Less) x xs h) ys below))

  front-ascending : (xs ys : List K) → IsAscending order (xs ++ ys) → IsAscending order xs
  front-ascending [] ys p = IsAscending-nil order
  front-ascending (x ∷ xs) ys p =
      IsAscending-cons order x xs (All-front (λ y. order x y ≡ Less) xs ys (IsAscending-head order x (xs ++ ys) p)) (front-ascending xs ys (IsAscending-tail order x (xs ++ ys) p))
    where
      All-front : (P : K → Type 0) (us vs : List K) → All P (us ++ vs) → All P us
      All-front P [] vs h = All-nil P
      All-front P (u ∷ us) vs h = All-cons P u us (All-head P u (us ++ vs) h) (All-front P us vs (All-tail P u (us ++ vs) h))

  back-ascending : (xs ys : List K) → IsAscending order (xs ++ ys) → IsAscending order ys
  back-ascending [] ys p = p
  back-ascending (x ∷ xs) ys p = back-ascending xs ys (IsAscending-tail order x (xs ++ ys) p)

  pub ascending-between : (m n : ℕ) (xs : List K) → IsAscending order xs → IsAscending order (take n (drop m xs))
  ascending-between m n xs up =
      front-ascending (take n (drop m xs)) (drop n (drop m xs))
      (subst (λ (ws : List K). IsAscending order ws) (sym (take-append-drop n (drop m xs)))
      (back-ascending (take m xs) (drop m xs) (subst (λ (ws : List K). IsAscending order ws) (sym (take-append-drop m xs)) up)))

  front-below : (xs ys : List K) → IsAscending order (xs ++ ys) → AreBelow xs ys
  front-below [] ys p = λ k d lk. All-nil (λ x. order x (get_or ys k d) ≡ Less)
  front-below (x ∷ xs) ys p = λ k d lk.
      All-cons (λ z. order z (get_or ys k d) ≡ Less) x xs
      (All-back (λ y. order x y ≡ Less) xs ys (IsAscending-head order x (xs ++ ys) p) k d lk)
      (front-below xs ys (IsAscending-tail order x (xs ++ ys) p) k d lk)
    where
      All-back : (P : K → Type 0) (us vs : List K) → All P (us ++ vs) → All P vs
      All-back P [] vs h = h
      All-back P (u ∷ us) vs h = All-back P us vs (All-tail P u (us ++ vs) h)

module _ {K : Type 0} {order : K → K → Ordering} (o : IsTotalOrder order) where
  is_le-then : (y z x : K) → order y z ≡ Less → is_le (order z x) ≡ true → is_le (order y x) ≡ true
  is_le-then y z x less le =
      by_Ordering (order z x)
      (λ l. ap is_le (Less-trans o y z x less l))
      (λ e. ap is_le (Less-then_equal o y z x less e))
      (λ g. absurd (true≢false (sym le ∙ ap is_le g)))

  -- where an even number of items is on, what is above all of them is above the element
  above-on : (xs : List K) (x z : K) → is_odd (length xs) ≡ false → member order xs x ≡ true → All (λ y. order y z ≡ Less) xs → order z x ≡ Greater
  above-on xs x z even on below =
      by_Ordering (order z x)
      (λ l. absurd (true≢false (not_le (ap is_le l))))
      (λ e. absurd (true≢false (not_le (ap is_le e))))
      (λ g. g)
    where
      not_le : is_le (order z x) ≡ true → true ≡ false
      not_le le =
          sym on ∙ member-all order xs x (All-weaker (λ y. order y z ≡ Less) (λ y. is_le (order y x) ≡ true) (λ y h. is_le-then y z x h le) xs below) ∙ even

  -- where items are on, what is below all of them is at or below the element
  below-on : (xs : List K) (x z : K) → member order xs x ≡ true → All (λ y. order z y ≡ Less) xs → is_le (order z x) ≡ true
  below-on xs x z on below =
      by_Ordering (order z x)
      (λ l. ap is_le l)
      (λ e. ap is_le e)
      (λ g. absurd (true≢false (sym on ∙ member-above order xs x (All-weaker (λ y. order z y ≡ Less) (λ y. order y x ≡ Greater) (λ y h. Greater-trans o y z x (Greater-from_less o z y h) g) xs below))))

  some-on : (xs : List K) (x : K) → member order xs x ≡ true → 0 < length xs
  some-on [] x on = absurd (true≢false (sym on ∙ member-nil order x))
  some-on (y ∷ ys) x on = omega arith

  module _ (is_copy : K → K → Type 0) (equal : (x y : K) → is_copy x y → order x y ≡ Equal) (f : Table) (off : f false false ≡ false)
      (before within behind that items : List K) (up : IsAscending order (before ++ (within ++ behind)))
      (below : AreBelow order before that) (above : AreBelow order that behind)
      (even_before : is_odd (length before) ≡ false) (even_within : 0 < length behind → is_odd (length within) ≡ false)
      (even_that : 0 < length behind → is_odd (length that) ≡ false)
      (h : IsTheResult order EveryElement f within that is_copy is_copy items) where
    abbrev pub own : List K
    own = before ++ (within ++ behind)

    up_rest : IsAscending order (within ++ behind)
    up_rest = back-ascending order before (within ++ behind) up

    below_rest : AreBelow order before (within ++ behind)
    below_rest = front-below order before (within ++ behind) up

    below_within : AreBelow order before within
    below_within = λ k d lk. All-contains (λ y. All (λ x. order x y ≡ Less) before) (within ++ behind) (get_or within k d) below_rest (Contains-append_left within behind (get_or within k d) (All-contains_itself within k d lk))

    below_behind : AreBelow order before behind
    below_behind = λ k d lk. All-contains (λ y. All (λ x. order x y ≡ Less) before) (within ++ behind) (get_or behind k d) below_rest (Contains-append_right within behind (get_or behind k d) (All-contains_itself behind k d lk))

    within_below : AreBelow order within behind
    within_below = front-below order within behind up_rest

    -- what holds of all that the result stands for holds of its items
    module _ (P : K → Type 0) (same : (x y : K) → order x y ≡ Equal → P x → P y) (w : All P within) (t : All P that) where
      pub All-result : All P items
      All-result = All-weaker (IsTaken order EveryElement f within that is_copy is_copy) P taken items h.left_own_item
        where
          from : (xs : List K) (y : K) → All P xs → Any (λ x. is_copy x y) xs → P y
          from xs y all any = same any.1 y (equal any.1 y any.4) (All-contains P xs any.1 all (any.0, any.2, any.3))

          taken : (y : K) → IsTaken order EveryElement f within that is_copy is_copy y → P y
          taken y (inl left) = from within y w left
          taken y (inr (inl right)) = from that y t right.0
          taken y (inr (inr none)) = absurd (true≢false (sym none.0 ∙ off))

    below_items : AreBelow order before items
    below_items =
        All-result (λ y. All (λ x. order x y ≡ Less) before)
        (λ x y e. All-weaker (λ z. order z x ≡ Less) (λ z. order z y ≡ Less) (λ z less. Less-then_equal o z x y less e) before) below_within below

    items_below : AreBelow order items behind
    items_below =
        flipped (λ y z. order z y ≡ Less) behind items
        (All-result (λ y. All (λ z. order y z ≡ Less) behind)
        (λ x y e. All-weaker (λ z. order x z ≡ Less) (λ z. order y z ≡ Less) (λ z less. Less-from_equal o y x z (Equal-sym o x y e) less) behind)
        (flipped (λ y z. order y z ≡ Less) within behind within_below) (flipped (λ y z. order y z ≡ Less) that behind above))

    off-before : (x : K) → member order before x ≡ true → (member order within x ≡ false) × (member order that x ≡ false)
    off-before x on =
        let over : (zs : List K) → AreBelow order before zs → member order zs x ≡ false = λ zs all.
        member-above order zs x (All-weaker (λ z. All (λ y. order y z ≡ Less) before) (λ z. order z x ≡ Greater) (λ z less. above-on before x z even_before on less) zs all) in (
          over within below_within,
          over that below,
        )

    off-behind : (x : K) → member order behind x ≡ true → (member order within x ≡ false) × (member order that x ≡ false)
    off-behind x on =
        let under : (zs : List K) → AreBelow order zs behind → is_odd (length zs) ≡ false → member order zs x ≡ false = λ zs all even.
        member-all order zs x (All-weaker (λ z. All (λ y. order z y ≡ Less) behind) (λ z. is_le (order z x) ≡ true) (λ z less. below-on behind x z on less) zs (flipped (λ y z. order y z ≡ Less) zs behind all)) ∙ even in (
          under within within_below (even_within (some-on behind x on)),
          under that above (even_that (some-on behind x on)),
        )

    member-own : (x : K) → member order own x ≡ differ (member order before x) (differ (member order within x) (member order behind x))
    member-own x = member-append order before (within ++ behind) x ∙ ap (λ b. differ (member order before x) b) (member-append order within behind x)

    meant : (x : K) → member order items x ≡ f (member order within x) (member order that x)
    meant x = h.members x (λ _. tt)

    -- an item taken in the window, of the whole
    taken_item : (y : K) → IsTaken order EveryElement f within that is_copy is_copy y → All (λ x. order x y ≡ Less) before → All (λ z. order y z ≡ Less) behind →
        IsTaken order EveryElement f own that (IsItselfOr is_copy) is_copy y
    taken_item y (inl left) low high =
        inl (Any-part (λ x. IsItselfOr is_copy x y) within own
        (λ x c. Contains-append_right before (within ++ behind) x (Contains-append_left within behind x c)) (left.0, left.1, left.2, left.3, inr left.4))
    taken_item y (inr (inl right)) low high =
        let P : K → Type 0 = λ x. order x y ≢ Equal in
        inr (inl (
          right.0,
          All-append P before (within ++ behind) (All-weaker (λ x. order x y ≡ Less) P (λ x l same. true≢false (sym (ap is_lt l) ∙ ap is_lt same)) before low)
              (All-append P within behind right.1 (All-weaker (λ z. order y z ≡ Less) P (λ z l same. true≢false (sym (ap is_le same) ∙ ap is_le (Greater-from_less o y z l))) behind high)),
        ))
    taken_item y (inr (inr none)) low high = absurd (true≢false (sym none.0 ∙ off))

    taken_items : All (IsTaken order EveryElement f own that (IsItselfOr is_copy) is_copy) items
    taken_items = λ k d lk.
        taken_item (get_or items k d) (h.left_own_item k d lk) (below_items k d lk) (flipped (λ y z. order y z ≡ Less) items behind items_below k d lk)

    stays : (part : List K) → ((x : K) → Contains part x → Contains own x) → All (IsTaken order EveryElement f own that (IsItselfOr is_copy) is_copy) part
    stays part inside = All-weaker (Contains part) (IsTaken order EveryElement f own that (IsItselfOr is_copy) is_copy) (λ y c. let there = inside y c in inl (there.0, y, there.1, there.2, inl refl)) part (All-contains_itself part)

    pub even_items : 0 < length behind → is_odd (length items) ≡ false
    even_items some = sym (member-all order items z (at_top items (flipped (λ y w. order y w ≡ Less) items behind items_below))) ∙ meant z ∙ ap (λ b. f b (member order that z)) (under within within_below (even_within some)) ∙ ap (λ b. f false b) (under that above (even_that some)) ∙ off
      where
        top : (z : K) × (get_or behind 0 z ≡ z)
        top = first_of behind some

        z : K
        z = top.0

        at_top : (zs : List K) → All (λ y. All (λ w. order y w ≡ Less) behind) zs → All (λ y. is_le (order y z) ≡ true) zs
        at_top zs all = λ k d lk. ap is_le (subst (λ w. order (get_or zs k d) w ≡ Less) top.1 (all k d lk 0 z some))

        under : (zs : List K) → AreBelow order zs behind → is_odd (length zs) ≡ false → member order zs z ≡ false
        under zs all even = member-all order zs z (at_top zs (flipped (λ y w. order y w ≡ Less) zs behind all)) ∙ even

    pub kept-result : f true false ≡ true → IsTheResult order EveryElement f own that (IsItselfOr is_copy) is_copy (before ++ (items ++ behind))
    kept-result keep =
        IsTheResult-among o EveryElement f own that (IsItselfOr is_copy) is_copy (before ++ (items ++ behind))
        (record {
          sorted = ascending-append order before (items ++ behind) (front-ascending order before (within ++ behind) up)
              (ascending-append order items behind h.sorted (back-ascending order within behind up_rest) items_below)
              (All-append (λ y. All (λ x. order x y ≡ Less) before) items behind below_items below_behind);
          members = λ x _.
              member-append order before (items ++ behind) x
              ∙ ap (λ b. differ (member order before x) b) (member-append order items behind x ∙ ap (λ b. differ b (member order behind x)) (meant x))
              ∙ kept-answer f off keep (member order before x) (member order within x) (member order that x) (member order behind x) (off-before x) (off-behind x)
              ∙ ap (λ b. f b (member order that x)) (sym (member-own x));
        })
        (All-append (IsTaken order EveryElement f own that (IsItselfOr is_copy) is_copy) before (items ++ behind) (stays before (λ x c. Contains-append_left before (within ++ behind) x c))
        (All-append (IsTaken order EveryElement f own that (IsItselfOr is_copy) is_copy) items behind taken_items
        (stays behind (λ x c. Contains-append_right before (within ++ behind) x (Contains-append_right within behind x c)))))

    pub dropped-result : f true false ≡ false → IsTheResult order EveryElement f own that (IsItselfOr is_copy) is_copy items
    dropped-result goes =
        IsTheResult-among o EveryElement f own that (IsItselfOr is_copy) is_copy items
        (record {
          sorted = h.sorted;
          members = λ x _.
              meant x
              ∙ dropped-answer f off goes (member order before x) (member order within x) (member order that x) (member order behind x) (off-before x) (off-behind x)
              ∙ ap (λ b. f b (member order that x)) (sym (member-own x));
        })
        taken_items

  -- ---- the window of another list, by its first item and its last one
  module _ (own that : List K) (up : IsAscending order that) where
    all-above : (n : ℕ) (first : K) → first ≡ get_or that 0 first → AllWithin (λ y. order y first ≡ Less) own 0 n → All (λ t. AllWithin (λ y. order y t ≡ Less) own 0 n) that
    all-above n first read h = λ k d lk j e lo hi. at k d lk (get_or own j e) (h j e lo hi)
      where
        same : (d : K) → 0 < length that → first ≡ get_or that 0 d
        same d some = read ∙ get_or_default that 0 first d some

        at : (k : ℕ) (d : K) → k < length that → (y : K) → order y first ≡ Less → order y (get_or that k d) ≡ Less
        at zero d lk y less = ap (λ x. order y x) (sym (same d lk)) ∙ less
        at (suc k) d lk y less =
            let some : 0 < length that = omega (arith, lk) in
            Less-trans o y first (get_or that (suc k) d) less (ap (λ x. order x (get_or that (suc k) d)) (same d some) ∙ up 0 (suc k) d (omega arith) lk)

    all-below : (n : ℕ) (last : K) → last ≡ get_or that (length that - 1) last → AllWithin (λ y. order y last ≡ Greater) own n (length own) →
        All (λ t. AllWithin (λ y. order t y ≡ Less) own n (length own)) that
    all-below n last read h = λ k d lk j e lo hi. at k d lk (get_or own j e) (Less-from_greater o (get_or own j e) last (h j e lo hi))
      where
        at : (k : ℕ) (d : K) → k < length that → (y : K) → order last y ≡ Less → order (get_or that k d) y ≡ Less
        at k d lk y less =
            let same : last ≡ get_or that (length that - 1) d = read ∙ get_or_default that (length that - 1) last d (omega (arith, lk)) in
            elim (cases_lt k (length that - 1)) as (λ _. order (get_or that k d) y ≡ Less) [
              | inl lower ↦
                  Less-trans o (get_or that k d) last y
                  (ap (λ x. order (get_or that k d) x) same ∙ up k (length that - 1) d lower (omega (arith, lk))) less
              | inr top ↦
                  let e : k ≡ length that - 1 = omega (arith, top, lk) in
                  ap (λ i. order (get_or that i d) y) e ∙ ap (λ x. order x y) (sym same) ∙ less
            ]

    pub IsWindow-open : (from to : ℕ) (first : K) → first ≡ get_or that 0 first → AllWithin (λ y. order y first ≡ Less) own 0 from → is_odd from ≡ false → from ≤ length own →
        to ≡ length own → IsWindow order own that from to
    IsWindow-open from to first read low even within end = record {
      ordered = omega (arith, within, end);
      within = omega (arith, end);
      below = all-above from first read low;
      above = λ k d lk j e lo hi. absurd (omega (arith, lo, hi, end));
      starts_off = even;
      ends_off = λ more. absurd (omega (arith, more, end));
      that_ends_off = λ more. absurd (omega (arith, more, end));
    }

    pub IsWindow-closed : (from to : ℕ) (first last : K) → first ≡ get_or that 0 first → last ≡ get_or that (length that - 1) last → 0 < length that →
        AllWithin (λ y. order y first ≡ Less) own 0 from → is_odd from ≡ false → from ≤ length own →
        AllWithin (λ y. order y last ≡ Greater) own to (length own) → (to < length own → is_odd to ≡ false) → to ≤ length own → is_odd (length that) ≡ false → IsWindow order own that from to
    IsWindow-closed from to first last read_first read_last some low even from_within high even_to to_within even_that = record {
      ordered = ordered;
      within = to_within;
      below = all-above from first read_first low;
      above = all-below to last read_last high;
      starts_off = even;
      ends_off = even_to;
      that_ends_off = λ _. even_that;
    }
      where
        ordered : from ≤ to
        ordered =
            elim (cases_lt to from) as (λ _. from ≤ to) [
              | inl less ↦
                  let l = all-above from first read_first low 0 first some to first (omega arith) less in
                  let g = Greater-from_less o (get_or that 0 first) (get_or own to first) (all-below to last read_last high 0 first some to first (omega arith) (omega (arith, less, from_within))) in
                  absurd (true≢false (sym (ap is_lt l) ∙ ap is_lt g))
              | inr more ↦ omega (arith, more)
            ]

  pub IsWindow-none : (own that : List K) (from to : ℕ) → length that ≡ 0 → from ≡ 0 → to ≡ 0 → IsWindow order own that from to
  IsWindow-none own that from to none f t = record {
    ordered = omega (arith, f, t);
    within = omega (arith, t);
    below = λ k d lk. absurd (omega (arith, lk, none));
    above = λ k d lk. absurd (omega (arith, lk, none));
    starts_off = ap is_odd f;
    ends_off = λ _. ap is_odd t;
    that_ends_off = λ _. ap is_odd none;
  }

  -- the window between two places
  module _ (is_copy : K → K → Type 0) (equal : (x y : K) → is_copy x y → order x y ≡ Equal) (f : Table) (off : f false false ≡ false) (own that items : List K) (from to : ℕ)
      (up : IsAscending order own) (w : IsWindow order own that from to) (h : IsTheResult order EveryElement f (take (to - from) (drop from own)) that is_copy is_copy items) where
    window_parts : own ≡ take from own ++ (take (to - from) (drop from own) ++ drop to own)
    window_parts =
        let e : from + (to - from) ≡ to = omega (arith, w.ordered) in
        sym (take-append-drop from own) ∙ ap (λ xs. take from own ++ xs) (sym (take-append-drop (to - from) (drop from own)) ∙ ap (λ xs. take (to - from) (drop from own) ++ xs) (drop-twice from (to - from) own ∙ ap (λ n. drop n own) e))
      where
        drop-twice : (m n : ℕ) (xs : List K) → drop n (drop m xs) ≡ drop (m + n) xs
        drop-twice zero n xs = let e : n ≡ 0 + n = omega arith in ap (λ k. drop k xs) e
        drop-twice (suc m) n [] = drop-nil n ∙ sym (drop-nil (suc m + n))
        drop-twice (suc m) n (x ∷ xs) = let e : suc (m + n) ≡ suc m + n = omega arith in drop-twice m n xs ∙ ap (λ k. drop k (x ∷ xs)) e

    parts_up : IsAscending order (take from own ++ (take (to - from) (drop from own) ++ drop to own))
    parts_up = subst (λ (xs : List K). IsAscending order xs) window_parts up

    from_within : from ≤ length own
    from_within = omega (arith, w.ordered, w.within)

    front_below : AreBelow order (take from own) that
    front_below = λ k d lk. All-take_within order (λ y. order y (get_or that k d) ≡ Less) from own from_within (w.below k d lk)

    back_above : AreBelow order that (drop to own)
    back_above = flipped (λ y z. order z y ≡ Less) (drop to own) that (λ k d lk. All-drop_within order (λ y. order (get_or that k d) y ≡ Less) to own w.within (w.above k d lk))

    even_front : is_odd (length (take from own)) ≡ false
    even_front = ap is_odd (length-take-le from own from_within) ∙ w.starts_off

    goes_on : 0 < length (drop to own) → to < length own
    goes_on some = omega (arith, some, length-drop to own)

    even_window : 0 < length (drop to own) → is_odd (length (take (to - from) (drop from own))) ≡ false
    even_window some =
        let n : length (take (to - from) (drop from own)) ≡ to - from = length-take-le (to - from) (drop from own) (omega (arith, w.within, w.ordered, length-drop from own)) in
        let e : from + (to - from) ≡ to = omega (arith, w.ordered) in
        ap is_odd n ∙ ap (λ b. differ b (is_odd (to - from))) (sym w.starts_off) ∙ sym (is_odd-add from (to - from)) ∙ ap is_odd e ∙ w.ends_off (goes_on some)

    even_others : 0 < length (drop to own) → is_odd (length that) ≡ false
    even_others some = w.that_ends_off (goes_on some)

    pub kept-window : f true false ≡ true → IsTheResult order EveryElement f own that (IsItselfOr is_copy) is_copy (take from own ++ (items ++ drop to own))
    kept-window keep =
        subst (λ (xs : List K). IsTheResult order EveryElement f xs that (IsItselfOr is_copy) is_copy (take from own ++ (items ++ drop to own))) (sym window_parts)
        (kept-result is_copy equal f off (take from own) (take (to - from) (drop from own)) (drop to own) that items parts_up front_below back_above even_front even_window even_others h keep)

    pub dropped-window : f true false ≡ false → IsTheResult order EveryElement f own that (IsItselfOr is_copy) is_copy items
    dropped-window goes =
        subst (λ (xs : List K). IsTheResult order EveryElement f xs that (IsItselfOr is_copy) is_copy items) (sym window_parts)
        (dropped-result is_copy equal f off (take from own) (take (to - from) (drop from own)) (drop to own) that items parts_up front_below back_above even_front even_window even_others h goes)

    pub even-window : to < length own → is_odd (from + length items) ≡ is_odd to
    even-window more =
        let some : 0 < length (drop to own) = omega (arith, more, length-drop to own) in
        is_odd-add from (length items) ∙ ap (λ b. differ b (is_odd (length items))) w.starts_off
        ∙ even_items is_copy equal f off (take from own) (take (to - from) (drop from own)) (drop to own) that items parts_up front_below back_above even_front even_window even_others h some
        ∙ sym (w.ends_off more)

  pub ascending-after : (is_copy as_left : K → K → Type 0) (f : Table) (own that new : List K) (r : Result (Unit {0}) AllocError) → OnOk r (IsTheResult order EveryElement f own that as_left is_copy new) → OnErr r (new ≡ own) →
      IsAscending order own → IsAscending order new
  ascending-after is_copy as_left f own that new (Ok u) ok err up = ok.sorted
  ascending-after is_copy as_left f own that new (Err e) ok err up = subst (λ (xs : List K). IsAscending order xs) (sym err) up

  pub even-from_odd : (xs : List K) → length xs % 2 ≢ 1 → is_odd (length xs) ≡ false
  even-from_odd xs not_one =
      elim (cases_lt (length xs % 2) 1) as (λ _. is_odd (length xs) ≡ false) [
        | inl none ↦ is_odd-at_zero (length xs) (omega (arith, none))
        | inr some ↦ absurd (not_one (omega (arith, some)))
      ]
