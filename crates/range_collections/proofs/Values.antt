-- Sets among values: the least value first, negation, and lists of values with the same members
-- among them.
use Rattle.std.proofs.Common.{◌≡◌, ◌≢◌, ◌↔◌, IsTrue, refl, sym, ap, ap₂, ◌∙◌, Ok, rules, Bool, true, false, not, ◌&&◌, List, [], ◌∷◌, ◌<◌, length, get_or, drop, arith, All, subst, ◌≤◌, true≢false}
use Rattle.std.specs.List.{AllZip, HoldsAt, insert, remove}
use Rattle.std.specs.Cmp.{IsTotalOrder}
use Rattle.std.specs.Ordering.{is_le, is_lt}
use Rattle.std.proofs.lemmas.List.Elements.{All-nil, All-cons, All-head, All-tail, AllZip-get_or, length_all_zip}
use Rattle.std.specs.declared.cmp.Ordering.{Ordering}
use Rattle.std.specs.declared.cmp.Ordering.TheVariants.{Less, Equal, Greater}
use Rattle.range_merge.specs.Boundaries.{IsAscending, member}
use Rattle.range_merge.specs.Connective.{Means, differ, intersection_table, difference_table}
use Rattle.range_merge.proofs.Members.{member-nil, member-cons, member-above, by_Ordering}
use Rattle.range_merge.proofs.Orders.{Greater-from_less, Less-from_greater, Equal-sym, Equal-self, same_left, same_right, Less-then_equal, Less-from_equal}
use Rattle.range_merge.proofs.SameSet.{same_items, IsSameSet-from_items, member-head, differ-cancel, member-before}
use Rattle.range_collections.specs.Sets.{AreEqual}
use Rattle.range_collections.specs.Values.{BeginsAt, BeginsWithValue, HasLeastInFront, IsFlipped, EqualsAreValues, Negates, GivesOwnNegation, AreSameAmongValues, IsEverything}
use Rattle.range_collections.proofs.Ascending.{IsAscending-nil, IsAscending-head, IsAscending-tail, IsAscending-cons}
use Rattle.range_merge.proofs.Parity.{differ-false}
use Rattle.range_merge.proofs.ChangesLemmas.{and-false}

-- truths

differ-twice : (b c : Bool) → differ b (differ b c) ≡ c
differ-twice true true = refl
differ-twice true false = refl
differ-twice false c = refl

pub not-not : (b : Bool) → not (not b) ≡ b
not-not true = refl
not-not false = refl

is_le-from_not_Greater : (r : Ordering) → (r ≡ Greater → ⊥) → is_le r ≡ true
is_le-from_not_Greater Less h = refl
is_le-from_not_Greater Equal h = refl
is_le-from_not_Greater Greater h = absurd (h refl)

Greater-from_neither : (r : Ordering) → r ≢ Less → (r ≡ Equal → ⊥) → r ≡ Greater
Greater-from_neither Less l e = absurd (l refl)
Greater-from_neither Equal l e = absurd (e refl)
Greater-from_neither Greater l e = refl

-- lists equal item by item

-- a range that has no element: its start isn't below its end
pub not_less-from_none : (r : Bool) (v : Ordering) → IsTrue r ↔ (v ≡ Less) → r ≡ false → is_lt v ≡ false
not_less-from_none r Less h off = absurd (true≢false (sym (h.1 refl) ∙ off))
not_less-from_none r Equal h off = refl
not_less-from_none r Greater h off = refl

module _ {K : Type 0} {order : K → K → Ordering} (o : IsTotalOrder order) where
  pub IsAscending-equal : (a b : List K) → AllZip (λ x y. order x y ≡ Equal) a b → IsAscending order a → IsAscending order b
  IsAscending-equal a b h up i j d below within =
      let R = λ (x y : K). order x y ≡ Equal in
      let n : length a ≡ length b = length_all_zip R a b h in
      let here : order (get_or a i d) (get_or b i d) ≡ Equal = AllZip-get_or R a b i d d h (omega arith) in
      let there : order (get_or a j d) (get_or b j d) ≡ Equal = AllZip-get_or R a b j d d h (omega arith) in
      sym (same_left o (get_or a i d) (get_or b i d) (get_or b j d) here)
      ∙ sym (same_right o (get_or a j d) (get_or b j d) (get_or a i d) there)
      ∙ up i j d below (omega arith)

  -- the first item removed, and an item put first
  remove-first : (a : List K) → remove a 0 ≡ drop 1 a
  remove-first [] = refl
  remove-first (x ∷ xs) = refl

  insert-front : (y : K) (a : List K) → insert a 0 y ≡ y ∷ a
  insert-front y [] = refl
  insert-front y (x ∷ xs) = refl

  -- a list begins at the least value or it doesn't
  pub by_BeginsAt : {G : Type 0} (least : K) (a : List K) → (BeginsAt order least a → G) → (¬ (BeginsAt order least a) → G) → G
  by_BeginsAt least [] on off = off (λ h. h)
  by_BeginsAt least (x ∷ xs) on off =
      by_Ordering (order x least)
      (λ l. off (λ e. let no : Less ≡ Equal = sym l ∙ e in cc))
      (λ e. on e)
      (λ g. off (λ e. let no : Greater ≡ Equal = sym g ∙ e in cc))

  module _ (is_value : K → Type 0) (equals : EqualsAreValues order is_value) where
    -- a list equal to one of values is one of values
    pub All-equal : (r a : List K) → AreEqual order r a → All is_value a → All is_value r
    All-equal [] [] h v = All-nil is_value
    All-equal [] (y ∷ ys) h v = absurd h
    All-equal (x ∷ xs) [] h v = absurd h
    All-equal (x ∷ xs) (y ∷ ys) h v =
        All-cons is_value x xs (equals y x (Equal-sym o x y h.0) (All-head is_value y ys v)) (All-equal xs ys h.1 (All-tail is_value y ys v))

    All-rest : (a : List K) → All is_value a → All is_value (drop 1 a)
    All-rest [] v = All-nil is_value
    All-rest (x ∷ xs) v = All-tail is_value x xs v

    -- with the least value put first or removed it is one of values still
    pub All-flipped : (least : K) → is_value least → (a i : List K) → All is_value a → IsFlipped order least a i → All is_value i
    All-flipped least value a i v w =
        by_BeginsAt least a
        (λ h. rw (w.removed h) (All-rest a v))
        (λ n. in_front (w.put n))
      where
        in_front : HasLeastInFront order least a i → All is_value i
        in_front (x, e, is) = rw is (All-cons is_value x a (equals least x (Equal-sym o x least e) value) v)

  pub IsAscending-one : (x : K) → IsAscending order (x ∷ [])
  IsAscending-one x = IsAscending-cons order x [] (All-nil (λ y. order x y ≡ Less)) (IsAscending-nil order)

  pub IsAscending-two : (x y : K) → order x y ≡ Less → IsAscending order (x ∷ y ∷ [])
  IsAscending-two x y h =
      IsAscending-cons order x (y ∷ []) (All-cons (λ z. order x z ≡ Less) y [] h (All-nil (λ z. order x z ≡ Less))) (IsAscending-one y)

  pub member-one : (y x : K) → member order (y ∷ []) x ≡ is_le (order y x)
  member-one y x = member-cons order y [] x ∙ ap (differ (is_le (order y x))) (member-nil order x) ∙ differ-false (is_le (order y x))

  is_lt-from_is_le : (x y : K) → is_lt (order x y) ≡ not (is_le (order y x))
  is_lt-from_is_le x y =
      by_Ordering (order y x)
      (λ l. ap is_lt (Greater-from_less o y x l) ∙ ap (λ r. not (is_le r)) (sym l))
      (λ e. ap is_lt (Equal-sym o y x e) ∙ ap (λ r. not (is_le r)) (sym e))
      (λ g. ap is_lt (Less-from_greater o y x g) ∙ ap (λ r. not (is_le r)) (sym g))

  -- where y is at or below x, so is what is below y
  is_le-below : (z y x : K) → order z y ≡ Less → is_le (order y x) ≡ true → is_le (order z x) ≡ true
  is_le-below z y x low h =
      by_Ordering (order y x)
      (λ l. ap is_le (o.trans z y x low l))
      (λ e. ap is_le (Less-then_equal o z y x low e))
      (λ g. absurd (true≢false (sym h ∙ ap is_le g)))

  differ-and : (p q : Bool) → (q ≡ true → p ≡ true) → differ p q ≡ (p && not q)
  differ-and true q h = refl
  differ-and false true h = sym (h refl)
  differ-and false false h = refl

  pub member-two : (start end x : K) → order start end ≡ Less →
      member order (start ∷ end ∷ []) x ≡ (is_le (order start x) && is_lt (order x end))
  member-two start end x h =
      member-cons order start (end ∷ []) x
      ∙ ap (differ (is_le (order start x))) (member-one end x)
      ∙ differ-and (is_le (order start x)) (is_le (order end x)) (is_le-below start end x h)
      ∙ ap (λ b. is_le (order start x) && b) (sym (is_lt-from_is_le x end))

  -- no element is in a range whose start isn't below its end
  pub nothing_between : (start end x : K) → is_lt (order start end) ≡ false → false ≡ (is_le (order start x) && is_lt (order x end))
  nothing_between start end x h =
      by_Ordering (order x end)
      (λ l. outside start x l (is_le-cases l))
      (λ e. sym (and-false (is_le (order start x))) ∙ ap (λ r. is_le (order start x) && is_lt r) (sym e))
      (λ g. sym (and-false (is_le (order start x))) ∙ ap (λ r. is_le (order start x) && is_lt r) (sym g))
    where
      is_le-cases : order x end ≡ Less → is_le (order start x) ≡ false
      is_le-cases l =
          by_Ordering (order start x)
          (λ below. absurd (true≢false (sym (ap is_lt (o.trans start x end below l)) ∙ h)))
          (λ e. absurd (true≢false (sym (ap is_lt (Less-from_equal o start x end e l)) ∙ h)))
          (λ g. ap is_le g)

      outside : (s y : K) → order x end ≡ Less → is_le (order start x) ≡ false → false ≡ (is_le (order start x) && is_lt (order x end))
      outside s y l e = ap (λ b. b && is_lt (order x end)) (sym e)

-- the least value

module _ {K : Type 0} {order : K → K → Ordering} (o : IsTotalOrder order) (is_value : K → Type 0) (least : K)
    (value : is_value least) (lowest : (x : K) → is_value x → order x least ≢ Less) where
  -- what equals the least value is at or below every value
  pub is_le-least : (y x : K) → order y least ≡ Equal → is_value x → is_le (order y x) ≡ true
  is_le-least y x e v =
      ap is_le (same_left o y least x e) ∙ is_le-from_not_Greater (order least x) (λ g. lowest x v (Less-from_greater o least x g))

  -- and below every other value
  pub Less-least : (y x : K) → order y least ≡ Equal → is_value x → (order x least ≡ Equal → ⊥) → order y x ≡ Less
  Less-least y x e v n =
      same_left o y least x e ∙ Less-from_greater o x least (Greater-from_neither (order x least) (lowest x v) n)

  pub IsEverything-one : (y : K) → order y least ≡ Equal → IsEverything order is_value (y ∷ [])
  IsEverything-one y e x v = member-one o y x ∙ is_le-least y x e v

  pub member-until : (y end x : K) → order y least ≡ Equal → is_value end → (order end least ≡ Equal → ⊥) → is_value x →
      member order (y ∷ end ∷ []) x ≡ is_lt (order x end)
  member-until y end x e w n v =
      member-two o y end x (Less-least y end e w n) ∙ ap (λ b. b && is_lt (order x end)) (is_le-least y x e v)

  pub nothing_below : (end x : K) → order end least ≡ Equal → is_value x → member order [] x ≡ is_lt (order x end)
  nothing_below end x e v =
      member-nil order x ∙ ap not (sym (is_le-least end x e v)) ∙ sym (is_lt-from_is_le o x end)

  -- which sets have every value

  not_everything-nil : IsEverything order is_value [] → ⊥
  not_everything-nil h = true≢false (sym (h least value) ∙ member-nil order least)

  Equal-from_everything : (y : K) → is_value y → IsEverything order is_value (y ∷ []) → order y least ≡ Equal
  Equal-from_everything y v h =
      by_Ordering (order y least)
      (λ l. absurd (lowest y v l))
      (λ e. e)
      (λ g. absurd (true≢false (sym (h least value) ∙ member-one o y least ∙ ap is_le g)))

  not_everything-two : (x y : K) (xs : List K) → IsAscending order (x ∷ y ∷ xs) → is_value y →
      IsEverything order is_value (x ∷ y ∷ xs) → ⊥
  not_everything-two x y xs up v h =
      let low : order x y ≡ Less = All-head (λ z. order x z ≡ Less) y xs (IsAscending-head order x (y ∷ xs) up) in
      let off : member order (x ∷ y ∷ xs) y ≡ false =
      member-cons order x (y ∷ xs) y
      ∙ ap₂ differ (ap is_le low) (member-head o y xs (IsAscending-tail order x (y ∷ xs) up)) in
      true≢false (sym (h y v) ∙ off)

  pub IsTrue-two_are_not_everything : (l : List K) (y : K) → 1 < length l → HoldsAt (λ z. y ≡ z) l 1 → IsAscending order l → is_value y →
      IsTrue false ↔ IsEverything order is_value l
  IsTrue-two_are_not_everything [] y more at up v = absurd (omega arith)
  IsTrue-two_are_not_everything (x ∷ []) y more at up v = absurd (omega arith)
  IsTrue-two_are_not_everything (x ∷ z ∷ xs) y more at up v =
      (λ t. absurd (true≢false (sym t)), λ h. absurd (not_everything-two x z xs up (subst is_value (at y) v) h))

  pub IsTrue-one_is_everything : (l : List K) (r : Bool) → length l ≤ 1 → BeginsWithValue order is_value l →
      IsTrue r ↔ BeginsAt order least l → IsTrue r ↔ IsEverything order is_value l
  IsTrue-one_is_everything [] r few v h = (λ t. absurd (h.0 t), λ all. absurd (not_everything-nil all))
  IsTrue-one_is_everything (x ∷ []) r few v h = (λ t. IsEverything-one x (h.0 t), λ all. h.1 (Equal-from_everything x v all))
  IsTrue-one_is_everything (x ∷ z ∷ xs) r few v h = absurd (omega arith)

  -- negation

  pub Negates-rest : (x : K) (xs : List K) → order x least ≡ Equal → IsAscending order (x ∷ xs) → Negates order is_value xs (x ∷ xs)
  Negates-rest x xs e up = record {
    sorted = IsAscending-tail order x xs up;
    members = λ z v.
        sym (not-not (member order xs z))
        ∙ ap not (sym (member-cons order x xs z ∙ ap (λ b. differ b (member order xs z)) (is_le-least x z e v)));
  }

  IsAscending-front : (y : K) (a : List K) → order y least ≡ Equal → IsAscending order a → BeginsWithValue order is_value a →
      (BeginsAt order least a → ⊥) → IsAscending order (y ∷ a)
  IsAscending-front y [] e up v n = IsAscending-one o y
  IsAscending-front y (x ∷ xs) e up v n =
      let low : order y x ≡ Less = Less-least y x e v n in
      IsAscending-cons order y (x ∷ xs)
      (All-cons (λ z. order y z ≡ Less) x xs low (λ k d within. o.trans y x (get_or xs k d) low (IsAscending-head order x xs up k d within))) up

  pub Negates-front : (y : K) (a : List K) → order y least ≡ Equal → IsAscending order a → BeginsWithValue order is_value a →
      (BeginsAt order least a → ⊥) → Negates order is_value (y ∷ a) a
  Negates-front y a e up v n = record {
    sorted = IsAscending-front y a e up v n;
    members = λ z w. member-cons order y a z ∙ ap (λ b. differ b (member order a z)) (is_le-least y z e w);
  }

  pub Negates-removed : (a : List K) → BeginsAt order least a → IsAscending order a → Negates order is_value (remove a 0) a
  Negates-removed [] e up = absurd e
  Negates-removed (x ∷ xs) e up = Negates-rest x xs e up

  pub Negates-inserted : (y : K) (a : List K) → order y least ≡ Equal → IsAscending order a → BeginsWithValue order is_value a →
      (BeginsAt order least a → ⊥) → Negates order is_value (insert a 0 y) a
  Negates-inserted y [] e up v n = Negates-front y [] e up v n
  Negates-inserted y (x ∷ xs) e up v n = Negates-front y (x ∷ xs) e up v n

  -- a is the set, l its list, b the list that is borrowed, and r the list that is made
  pub GivesOwnNegation-removed : (infallible : Type 0) (a l b r : List K) (t : Bool) → l ≡ a → b ≡ l → IsAscending order l → IsTrue t ↔ BeginsAt order least b →
      t ≡ true → r ≡ remove l 0 → GivesOwnNegation order is_value least infallible a (Ok r)
  GivesOwnNegation-removed infallible a l b r t la bl up says begins is =
      let P : List K → Type 0 = λ m. BeginsAt order least m in
      let here : BeginsAt order least l = subst P bl (says.0 begins) in
      let own : r ≡ drop 1 a = is ∙ remove-first o l ∙ ap (drop 1) la in
      record {
        negates = rw (← la, is) (Negates-removed l here up);
        flipped = record { removed = λ _. own; put = λ n. absurd (n (subst P la here)) };
        values = λ equals v. rw own (All-rest o is_value equals a v);
        succeeds = λ _. search rules;
      }

  pub GivesOwnNegation-inserted : (infallible : Type 0) (a l b r : List K) (t : Bool) (y : K) → l ≡ a → b ≡ l → IsAscending order l → IsTrue t ↔ BeginsAt order least b →
      BeginsWithValue order is_value b → t ≡ false → order y least ≡ Equal → r ≡ insert l 0 y →
      GivesOwnNegation order is_value least infallible a (Ok r)
  GivesOwnNegation-inserted infallible a l b r t y la bl up says v off e is =
      let P : List K → Type 0 = λ m. BeginsWithValue order is_value m in
      let Q : List K → Type 0 = λ m. BeginsAt order least m in
      let elsewhere : BeginsAt order least l → ⊥ = λ h. true≢false (sym (says.1 (subst Q (sym bl) h)) ∙ off) in
      let own : r ≡ y ∷ a = is ∙ insert-front o y l ∙ ap (λ m. y ∷ m) la in
      record {
        negates = rw (← la, is) (Negates-inserted y l e up (subst P bl v) elsewhere);
        flipped = record { removed = λ h. absurd (elsewhere (subst Q (sym la) h)); put = λ _. (y, e, own) };
        values = λ equals v. rw own (All-cons is_value y a (equals least y (Equal-sym o y least e) value) v);
        succeeds = λ _. search rules;
      }

  -- the list that is made ascends
  pub IsAscending-inserted : (l b : List K) (t : Bool) (y : K) → b ≡ l → IsAscending order l → IsTrue t ↔ BeginsAt order least b →
      BeginsWithValue order is_value b → t ≡ false → order y least ≡ Equal → IsAscending order (insert l 0 y)
  IsAscending-inserted l b t y bl up says v off e =
      let P : List K → Type 0 = λ m. BeginsWithValue order is_value m in
      let Q : List K → Type 0 = λ m. BeginsAt order least m in
      (Negates-inserted y l e up (subst P bl v) (λ h. true≢false (sym (says.1 (subst Q (sym bl) h)) ∙ off))).sorted

  -- what is negated may be exchanged for a list equal item by item
  pub Negates-equal : (r a b : List K) → AreEqual order a b → Negates order is_value r b → Negates order is_value r a
  Negates-equal r a b h m = record {
    sorted = m.sorted;
    members = λ z v. m.members z v ∙ ap not (sym (IsSameSet-from_items o a b h z));
  }

-- lists of values

module _ {K : Type 0} {order : K → K → Ordering} (o : IsTotalOrder order) (is_value : K → Type 0) where
  AreSameAmongValues-tail : (x y : K) (xs ys : List K) → order x y ≡ Equal → AreSameAmongValues order is_value (x ∷ xs) (y ∷ ys) →
      AreSameAmongValues order is_value xs ys
  AreSameAmongValues-tail x y xs ys e h z v =
      differ-cancel (is_le (order x z)) (member order xs z) (member order ys z)
      (sym (member-cons order x xs z) ∙ h z v ∙ member-cons order y ys z ∙ ap (λ r. differ (is_le r) (member order ys z)) (sym (same_left o x y z e)))

  pub same_values : (a b : List K) → All is_value a → All is_value b → IsAscending order a → IsAscending order b →
      AreSameAmongValues order is_value a b → AreEqual order a b
  same_values [] [] u v p q h = tt
  same_values [] (y ∷ ys) u v p q h =
      true≢false (sym (member-head o y ys q) ∙ sym (h y (All-head is_value y ys v)) ∙ member-nil order y)
  same_values (x ∷ xs) [] u v p q h =
      true≢false (sym (member-head o x xs p) ∙ h x (All-head is_value x xs u) ∙ member-nil order x)
  same_values (x ∷ xs) (y ∷ ys) u v p q h =
      by_Ordering (order x y)
      (λ l. absurd (true≢false (sym (member-head o x xs p) ∙ h x (All-head is_value x xs u) ∙ member-before o x y ys l q)))
      (λ e. (
        e,
        same_values xs ys (All-tail is_value x xs u) (All-tail is_value y ys v) (IsAscending-tail order x xs p) (IsAscending-tail order y ys q)
            (AreSameAmongValues-tail x y xs ys e h),
      ))
      (λ g. absurd (true≢false (sym (member-head o y ys q) ∙ sym (h y (All-head is_value y ys v)) ∙
      member-before o y x xs (Less-from_greater o x y g) p)))

  pub AreEqual-twice : (a b c : List K) → All is_value a → All is_value c → IsAscending order a → Negates order is_value b a →
      Negates order is_value c b → AreEqual order a c
  AreEqual-twice a b c u v up m n =
      same_values a c u v up n.sorted
      (λ x w. sym (not-not (member order a x)) ∙ ap not (sym (m.members x w)) ∙ sym (n.members x w))

-- the negation at every element, and the difference

module _ {K : Type 0} {order : K → K → Ordering} (o : IsTotalOrder order) (is_value : K → Type 0) (least : K)
    (value : is_value least) (lowest : (x : K) → is_value x → order x least ≢ Less) where
  -- a list of values that is the negation, and at every element differs from b exactly at or above
  -- the least value
  record Exact (b : List K) : Type 0 where
    items : List K
    values : All is_value items
    negates : Negates order is_value items b
    everywhere : (x : K) → member order items x ≡ differ (is_le (order least x)) (member order b x)

  exact : (b : List K) → All is_value b → IsAscending order b → Exact b
  exact [] v up = record {
    items = least ∷ [];
    values = All-cons is_value least [] value (All-nil is_value);
    negates = Negates-front o is_value least value lowest least [] (Equal-self o least) up tt (λ h. h);
    everywhere = λ x. member-cons order least [] x;
  }
  exact (y ∷ ys) v up =
      by_Ordering (order y least)
      (λ l. absurd (lowest y (All-head is_value y ys v) l))
      (λ e. record {
        items = ys;
        values = All-tail is_value y ys v;
        negates = Negates-rest o is_value least value lowest y ys e up;
        everywhere = λ x.
            sym (differ-twice (is_le (order least x)) (member order ys x))
            ∙ ap (differ (is_le (order least x)))
            (ap (λ r. differ (is_le r) (member order ys x)) (sym (same_left o y least x e)) ∙ sym (member-cons order y ys x));
      })
      (λ g. record {
        items = least ∷ y ∷ ys;
        values = All-cons is_value least (y ∷ ys) value v;
        negates = Negates-front o is_value least value lowest least (y ∷ ys) (Equal-self o least) up (All-head is_value y ys v)
            (λ e. let off : Greater ≡ Equal = sym g ∙ e in cc);
        everywhere = λ x. member-cons order least (y ∷ ys) x;
      })

  negation-everywhere : (n b : List K) → All is_value n → All is_value b → IsAscending order b → Negates order is_value n b →
      (x : K) → member order n x ≡ differ (is_le (order least x)) (member order b x)
  negation-everywhere n b u v up m x =
      let e = exact b v up in
      IsSameSet-from_items o n e.items
      (same_values o is_value n e.items u e.values m.sorted e.negates.sorted (λ z w. m.members z w ∙ sym (e.negates.members z w))) x
      ∙ e.everywhere x

  -- nothing below the least value is a member of a list of values
  member-below_least : (a : List K) (x : K) → All is_value a → order x least ≡ Less → member order a x ≡ false
  member-below_least a x v low =
      member-above order a x (λ k d within. above (get_or a k d) (v k d within))
    where
      above : (y : K) → is_value y → order y x ≡ Greater
      above y w =
          Greater-from_less o x y
          (by_Ordering (order y least)
          (λ l. absurd (lowest y w l))
          (λ e. Less-then_equal o x least y low (Equal-sym o y least e))
          (λ g. o.trans x least y low (Less-from_greater o y least g)))

  pub AreEqual-difference : (a b n r s : List K) → All is_value a → All is_value b → All is_value n →
      IsAscending order a → IsAscending order b → Negates order is_value n b →
      Means order difference_table r a b → Means order intersection_table s a n → AreEqual order r s
  AreEqual-difference a b n r s u v w p q m d i =
      same_items o r s d.sorted i.sorted (λ x. d.members x ∙ step x ∙ sym (i.members x))
    where
      opposite : (x : K) → is_le (order least x) ≡ true → not (member order b x) ≡ member order n x
      opposite x e = sym (negation-everywhere n b w v q m x ∙ ap (λ t. differ t (member order b x)) e)

      step : (x : K) → (member order a x && not (member order b x)) ≡ (member order a x && member order n x)
      step x =
          by_Ordering (order least x)
          (λ l. ap (λ t. member order a x && t) (opposite x (ap is_le l)))
          (λ e. ap (λ t. member order a x && t) (opposite x (ap is_le e)))
          (λ g.
          let out : member order a x ≡ false = member-below_least a x u (Less-from_greater o least x g) in
          ap (λ t. t && not (member order b x)) out ∙ sym (ap (λ t. t && member order n x) out))
