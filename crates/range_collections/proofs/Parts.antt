-- The parts of a range that are in a set, or those that are not: the boundaries between its start
-- and its end, with the ends that are put.
use Rattle.std.proofs.Common.{◌≡◌, refl, sym, ap, ap₂, ◌∙◌, subst, ℕ, suc, ◌<◌, ◌≤◌, ◌+◌, ◌-◌, ◌%◌, ◌==◌, Option, Some, None, Bool, true, false, not, cond, ◌&&◌, List, [], ◌∷◌, ◌++◌, length, take, drop, get_or, arith, All, get_or-take, get_or-drop, length-drop, length-append, ◌≢◌, Contains, inl, inr}
use Rattle.std.specs.List.{AllWithin}
use Rattle.std.specs.Borrow.{Bor}
use Rattle.std.specs.Bool.{then_some}
use Rattle.std.specs.Option.{option_to_list, option_copied}
use Rattle.std.proofs.Math.Bool.{beq}
use Rattle.std.specs.Ordering.{is_le, is_lt}
use Rattle.std.specs.Cmp.{IsTotalOrder}
use Rattle.std.proofs.lemmas.List.{length-take-le}
use Rattle.std.proofs.lemmas.List.Elements.{All-nil, All-cons, All-append, All-take, All-drop, All-weaker, All-contains_itself}
use Rattle.std.specs.declared.cmp.Ordering.{Ordering}
use Rattle.std.specs.declared.ops.Range.{Range as Ends}
use Rattle.std.specs.declared.cmp.Ordering.TheVariants.{Less, Equal, Greater}
use Rattle.range_merge.specs.Boundaries.{IsAscending, member, count_up_to, is_odd}
use Rattle.range_merge.specs.Connective.{Means, differ}
use Rattle.range_merge.proofs.Members.{by_Ordering, member-nil}
use Rattle.range_merge.proofs.Orders.{Greater-from_less, Less-from_greater, Equal-sym}
use Rattle.range_merge.proofs.Pairs.{AllPairs-drop}
use Rattle.range_merge.proofs.Parity.{is_odd-add, is_odd-suc, differ-self}
use Rattle.range_collections.specs.InPlace.{IsOwnElse, AreOwnElseOf}
use Rattle.range_collections.specs.Ranges.{range_items}
use Rattle.range_collections.specs.Within.{within_table, borrowed_items, GivesParts}
use Rattle.range_collections.proofs.Ascending.{IsAscending-nil}
use Rattle.range_collections.proofs.Cut.{IsAscending-take, count_up_to-front}
use Rattle.range_collections.proofs.Insertion.{IsAscending-append, same_from_beq, other_from_beq}
use Rattle.range_collections.proofs.Points.{counts_ordered}
use Rattle.range_collections.proofs.Shortest.{is_le-cases, count_up_to-append, count_up_to-all, count_up_to-none, Less-then_le, le-trans, le-from_greater}
use Rattle.range_collections.proofs.Values.{IsAscending-one, member-two}

-- ---- truths

table_out : (inside b : Bool) → within_table inside false b ≡ false
table_out true b = refl
table_out false b = refl

table_in : (inside b : Bool) → within_table inside true b ≡ differ (not inside) b
table_in true b = refl
table_in false true = refl
table_in false false = refl

-- what of three truths follows from one equation
solved : (p q r : Bool) → differ p q ≡ r → p ≡ differ r q
solved true true r e = rw (sym e) refl
solved true false r e = rw (sym e) refl
solved false true r e = rw (sym e) refl
solved false false r e = rw (sym e) refl

not_equal-less : (r : Ordering) → r ≡ Less → r ≢ Equal
not_equal-less r less e = cc

not_equal-greater : (r : Ordering) → r ≡ Greater → r ≢ Equal
not_equal-greater r greater e = cc

is_odd-same : (m n : ℕ) → m % 2 ≡ n % 2 → is_odd m ≡ is_odd n
is_odd-same m n e = ap (λ k. k == 1) e

module _ {K : Type 0} {order : K → K → Ordering} (o : IsTotalOrder order) where
  module _ (start end : K) (xs : List K) (n m : ℕ) (up : IsAscending order xs) (less : order start end ≡ Less)
      (within_n : n ≤ length xs) (before_n : AllWithin (λ y. is_le (order y start) ≡ true) xs 0 n) (from_n : AllWithin (λ y. order y start ≡ Greater) xs n (length xs))
      (within_m : m ≤ length xs) (before_m : AllWithin (λ y. order y end ≡ Less) xs 0 m) (from_m : AllWithin (λ y. is_le (order end y) ≡ true) xs m (length xs))
      (inside : Bool) (s e : Option K)
      (is_s : All (λ y. y ≡ start) (option_to_list s)) (is_e : All (λ y. y ≡ end) (option_to_list e))
      (put_s : is_odd (n + length (option_to_list s)) ≡ not inside) (put_e : is_odd (m + length (option_to_list e)) ≡ not inside) where
    ordered : n ≤ m
    ordered = counts_ordered o start end xs n m up less within_n before_n from_n within_m before_m from_m

    abbrev between : List K
    between = take (m - n) (drop n xs)

    abbrev parts : List K
    parts = option_to_list s ++ (between ++ option_to_list e)

    fits : m - n ≤ length (drop n xs)
    fits = omega (arith, length-drop n xs, ordered, within_m)

    length-between : length between ≡ m - n
    length-between = length-take-le (m - n) (drop n xs) fits

    item : (k : ℕ) (d : K) → k < m - n → get_or between k d ≡ get_or xs (n + k) d
    item k d low = get_or-take (m - n) (drop n xs) k d low ∙ get_or-drop n xs k d

    above_start : All (λ y. order start y ≡ Less) between
    above_start k d low =
        let near : k < m - n = omega (arith, low, length-between) in
        rw (item k d near) (Less-from_greater o (get_or xs (n + k) d) start (from_n (n + k) d (omega arith) (omega (arith, near, within_m))))

    below_end : All (λ y. order y end ≡ Less) between
    below_end k d low =
        let near : k < m - n = omega (arith, low, length-between) in
        rw (item k d near) (before_m (n + k) d (omega arith) (omega (arith, near)))

    all_start : (P : K → Type 0) → P start → All P (option_to_list s)
    all_start P h = All-weaker (λ y. y ≡ start) P (λ y w. subst P (sym w) h) (option_to_list s) is_s

    all_end : (P : K → Type 0) → P end → All P (option_to_list e)
    all_end P h = All-weaker (λ y. y ≡ end) P (λ y w. subst P (sym w) h) (option_to_list e) is_e

    ascending_one : (put : Option K) → IsAscending order (option_to_list put)
    ascending_one None = IsAscending-nil order
    ascending_one (Some y) = IsAscending-one o y

    between_below : All (λ x. All (λ y. order x y ≡ Less) (option_to_list e)) between
    between_below = All-weaker (λ x. order x end ≡ Less) (λ x. All (λ y. order x y ≡ Less) (option_to_list e)) (λ x low. all_end (λ y. order x y ≡ Less) low) between below_end

    sorted : IsAscending order parts
    sorted =
        IsAscending-append o (option_to_list s) (between ++ option_to_list e) (ascending_one s)
        (IsAscending-append o between (option_to_list e) (IsAscending-take order (m - n) (drop n xs) (AllPairs-drop (λ x y. order x y ≡ Less) n xs up)) (ascending_one e) between_below)
        (all_start (λ x. All (λ y. order x y ≡ Less) (between ++ option_to_list e))
        (All-append (λ y. order start y ≡ Less) between (option_to_list e) above_start (all_end (λ y. order start y ≡ Less) less)))

    counted : (x : K) → count_up_to order parts x ≡ count_up_to order (option_to_list s) x + (count_up_to order between x + count_up_to order (option_to_list e) x)
    counted x =
        count_up_to-append order (option_to_list s) (between ++ option_to_list e) x
        ∙ ap (λ k. count_up_to order (option_to_list s) x + k) (count_up_to-append order between (option_to_list e) x)

    member-below : (x : K) → order x start ≡ Less → member order parts x ≡ false
    member-below x low =
        let none_s : count_up_to order (option_to_list s) x ≡ 0 =
        count_up_to-none order x (option_to_list s) (all_start (λ y. order y x ≡ Greater) (Greater-from_less o x start low)) in
        let none_between : count_up_to order between x ≡ 0 =
        count_up_to-none order x between (All-weaker (λ y. order start y ≡ Less) (λ y. order y x ≡ Greater) (λ y h. Greater-from_less o x y (o.trans x start y low h)) between above_start) in
        let none_e : count_up_to order (option_to_list e) x ≡ 0 =
        count_up_to-none order x (option_to_list e) (all_end (λ y. order y x ≡ Greater) (Greater-from_less o x end (o.trans x start end low less))) in
        let none : count_up_to order parts x ≡ 0 = omega (arith, counted x, none_s, none_between, none_e) in
        ap is_odd none

    member-beyond : (x : K) → is_le (order end x) ≡ true → member order parts x ≡ false
    member-beyond x far =
        let all_s : count_up_to order (option_to_list s) x ≡ length (option_to_list s) =
        count_up_to-all order x (option_to_list s) (all_start (λ y. is_le (order y x) ≡ true) (ap is_le (Less-then_le o start end x less far))) in
        let all_between : count_up_to order between x ≡ length between =
        count_up_to-all order x between (All-weaker (λ y. order y end ≡ Less) (λ y. is_le (order y x) ≡ true) (λ y h. ap is_le (Less-then_le o y end x h far)) between below_end) in
        let all_e : count_up_to order (option_to_list e) x ≡ length (option_to_list e) =
        count_up_to-all order x (option_to_list e) (all_end (λ y. is_le (order y x) ≡ true) far) in
        let whole : count_up_to order parts x ≡ length (option_to_list s) + ((m - n) + length (option_to_list e)) =
        omega (arith, counted x, all_s, all_between, all_e, length-between) in
        let shifted : count_up_to order parts x % 2 ≡ ((n + length (option_to_list s)) + (m + length (option_to_list e))) % 2 = omega (arith, whole, ordered) in
        is_odd-same (count_up_to order parts x) ((n + length (option_to_list s)) + (m + length (option_to_list e))) shifted
        ∙ is_odd-add (n + length (option_to_list s)) (m + length (option_to_list e))
        ∙ ap₂ differ put_s put_e ∙ differ-self (not inside)

    member-within : (x : K) → is_le (order start x) ≡ true → order x end ≡ Less → member order parts x ≡ differ (not inside) (member order xs x)
    member-within x far low =
        let all_s : count_up_to order (option_to_list s) x ≡ length (option_to_list s) =
        count_up_to-all order x (option_to_list s) (all_start (λ y. is_le (order y x) ≡ true) far) in
        let none_e : count_up_to order (option_to_list e) x ≡ 0 =
        count_up_to-none order x (option_to_list e) (all_end (λ y. order y x ≡ Greater) (Greater-from_less o x end low)) in
        let all_front : count_up_to order (take n xs) x ≡ n =
        count_up_to-all order x (take n xs)
        (λ k d near.
        let small : k < n = omega (arith, near, length-take-le n xs within_n) in
        rw (get_or-take n xs k d small) (le-trans o (get_or xs k d) start x (before_n k d (omega arith) small) far))
        ∙ length-take-le n xs within_n in
        let none_back : count_up_to order (drop (m - n) (drop n xs)) x ≡ 0 =
        count_up_to-none order x (drop (m - n) (drop n xs))
        (λ k d near.
        rw (get_or-drop (m - n) (drop n xs) k d, get_or-drop n xs (m - n + k) d)
        (Greater-from_less o x (get_or xs (n + (m - n + k)) d)
        (Less-then_le o x end (get_or xs (n + (m - n + k)) d) low
        (from_m (n + (m - n + k)) d (omega (arith, ordered)) (omega (arith, near, ordered, length-drop (m - n) (drop n xs), length-drop n xs)))))) in
        let of_set : count_up_to order xs x ≡ n + count_up_to order between x =
        omega (arith, count_up_to-front order n xs x, count_up_to-front order (m - n) (drop n xs) x, all_front, none_back) in
        let of_parts : count_up_to order parts x ≡ length (option_to_list s) + count_up_to order between x = omega (arith, counted x, all_s, none_e) in
        let both : (count_up_to order parts x + count_up_to order xs x) % 2 ≡ (n + length (option_to_list s)) % 2 = omega (arith, of_set, of_parts) in
        solved (member order parts x) (member order xs x) (not inside)
        (sym (is_odd-add (count_up_to order parts x) (count_up_to order xs x))
        ∙ is_odd-same (count_up_to order parts x + count_up_to order xs x) (n + length (option_to_list s)) both ∙ put_s)

    range_is : range_items order start end ≡ start ∷ end ∷ []
    range_is = ap (λ r. cond (is_lt r) (start ∷ end ∷ []) []) less

    in_range : (x : K) (b : Bool) → (is_le (order start x) && is_lt (order x end)) ≡ b → member order (range_items order start end) x ≡ b
    in_range x b h = ap (λ ys. member order ys x) range_is ∙ member-two o start end x less ∙ h

    out : (x : K) → (is_le (order start x) && is_lt (order x end)) ≡ false → member order parts x ≡ false →
        member order parts x ≡ within_table inside (member order (range_items order start end) x) (member order xs x)
    out x h none = none ∙ sym (ap (λ b. within_table inside b (member order xs x)) (in_range x false h) ∙ table_out inside (member order xs x))

    members : (x : K) → member order parts x ≡ within_table inside (member order (range_items order start end) x) (member order xs x)
    members x =
        is_le-cases (order start x)
        (λ t.
        by_Ordering (order x end)
        (λ l. member-within x t l ∙ sym (ap (λ b. within_table inside b (member order xs x)) (in_range x true (ap₂ ◌&&◌ t (ap is_lt l))) ∙ table_in inside (member order xs x)))
        (λ u. out x (ap₂ ◌&&◌ t (ap is_lt u)) (member-beyond x (Equal-le x u)))
        (λ g. out x (ap₂ ◌&&◌ t (ap is_lt g)) (member-beyond x (le-from_greater o x end g))))
        (λ g. out x (ap (λ r. is_le r && is_lt (order x end)) g) (member-below x (Less-from_greater o start x g)))
      where
        Equal-le : (x : K) → order x end ≡ Equal → is_le (order end x) ≡ true
        Equal-le x u = ap is_le (Equal-sym o x end u)

    Means-parts : Means order (within_table inside) parts (range_items order start end) xs
    Means-parts = record { sorted = sorted; members = members }

    apart : (y : K) → order start y ≡ Less → order y end ≡ Less → All (λ x. order x y ≢ Equal) (range_items order start end)
    apart y above below =
        let Apart : K → Type 0 = λ x. order x y ≢ Equal in
        rw range_is
        (All-cons Apart start (end ∷ []) (not_equal-less (order start y) above)
        (All-cons Apart end [] (not_equal-greater (order end y) (Greater-from_less o y end below)) (All-nil Apart)))

    -- the ends that are put are the range's own, and those between them equal neither
    AreOwnElseOf-parts : AreOwnElseOf order (range_items order start end) xs parts
    AreOwnElseOf-parts =
        let Own = IsOwnElse order (Contains xs) (range_items order start end) in
        let of_set : All (Contains xs) between = All-take (Contains xs) (m - n) (drop n xs) (All-drop (Contains xs) n xs (All-contains_itself xs)) in
        All-append Own (option_to_list s) (between ++ option_to_list e)
        (all_start Own (inl (rw range_is (0, omega arith, refl))))
        (All-append Own between (option_to_list e)
        (λ k d low. inr (of_set k d low, apart (get_or between k d) (above_start k d low) (below_end k d low)))
        (all_end Own (inl (rw range_is (1, omega arith, refl)))))

    pub is_even-parts : is_odd (length parts) ≡ false
    is_even-parts =
        let whole : length parts ≡ length (option_to_list s) + ((m - n) + length (option_to_list e)) =
        omega (arith, length-append (option_to_list s) (between ++ option_to_list e), length-append between (option_to_list e), length-between) in
        let shifted : length parts % 2 ≡ ((n + length (option_to_list s)) + (m + length (option_to_list e))) % 2 = omega (arith, whole, ordered) in
        is_odd-same (length parts) ((n + length (option_to_list s)) + (m + length (option_to_list e))) shifted
        ∙ is_odd-add (n + length (option_to_list s)) (m + length (option_to_list e))
        ∙ ap₂ differ put_s put_e ∙ differ-self (not inside)

  Means-nothing : (inside : Bool) (start end : K) (xs : List K) → is_lt (order start end) ≡ false → Means order (within_table inside) [] (range_items order start end) xs
  Means-nothing inside start end xs off = record {
    sorted = IsAscending-nil order;
    members = λ x.
        member-nil order x
        ∙ sym (ap (λ b. within_table inside b (member order xs x)) (ap (λ b. member order (cond b (start ∷ end ∷ []) []) x) off ∙ member-nil order x) ∙ table_out inside (member order xs x));
  }

  -- a range whose start isn't below its end has no parts
  pub GivesParts-nothing : (inside : Bool) (within : Ends (Bor K)) (xs : List K) → is_lt (order within.start.now within.end.now) ≡ false →
      GivesParts order (within_table inside) within xs []
  GivesParts-nothing inside within xs off = record {
    means = Means-nothing inside within.start.now within.end.now xs off;
    own_ends = All-nil (IsOwnElse order (Contains xs) (range_items order within.start.now within.end.now));
  }

-- ---- an end that is put where the count at it is as odd as it should be

module _ {K : Type 0} (x : Bor K) where
  All-put : (t : Bool) → All (λ y. y ≡ x.now) (option_to_list (option_copied (then_some t x)))
  All-put true = All-cons (λ y. y ≡ x.now) x.now [] refl (All-nil (λ y. y ≡ x.now))
  All-put false = All-nil (λ y. y ≡ x.now)

  is_odd-put : (n : ℕ) (inside t : Bool) → t ≡ beq (is_odd n) inside → is_odd (n + length (option_to_list (option_copied (then_some t x)))) ≡ not inside
  is_odd-put n inside true e =
      let same : is_odd n ≡ inside = same_from_beq (is_odd n) inside (sym e) in
      let one : n + 1 ≡ suc n = omega arith in
      ap is_odd one ∙ is_odd-suc n ∙ ap not same
  is_odd-put n inside false e =
      let none : n + 0 ≡ n = omega arith in
      ap is_odd none ∙ opposite_of (is_odd n) inside (λ same. other_from_beq (is_odd n) inside (sym e) same)
    where
      opposite_of : (p q : Bool) → (p ≡ q → ⊥) → p ≡ not q
      opposite_of true true h = absurd (h refl)
      opposite_of true false h = refl
      opposite_of false true h = refl
      opposite_of false false h = absurd (h refl)

module _ {K : Type 0} {order : K → K → Ordering} (o : IsTotalOrder order) where
  module _ (start end : Bor K) (xs : List K) (n m : ℕ) (up : IsAscending order xs) (less : order start.now end.now ≡ Less)
      (within_n : n ≤ length xs) (before_n : AllWithin (λ y. is_le (order y start.now) ≡ true) xs 0 n) (from_n : AllWithin (λ y. order y start.now ≡ Greater) xs n (length xs))
      (within_m : m ≤ length xs) (before_m : AllWithin (λ y. order y end.now ≡ Less) xs 0 m) (from_m : AllWithin (λ y. is_le (order end.now y) ≡ true) xs m (length xs))
      (inside s e : Bool) (put_s : s ≡ beq (is_odd n) inside) (put_e : e ≡ beq (is_odd m) inside) where
    pub GivesParts-borrowed : GivesParts order (within_table inside) (record { start = start; end = end }) xs (borrowed_items (then_some s start) (take (m - n) (drop n xs)) (then_some e end))
    GivesParts-borrowed = record {
      means = Means-parts o start.now end.now xs n m up less within_n before_n from_n within_m before_m from_m inside _ _
          (All-put start s) (All-put end e) (is_odd-put start n inside s put_s) (is_odd-put end m inside e put_e);
      own_ends = AreOwnElseOf-parts o start.now end.now xs n m up less within_n before_n from_n within_m before_m from_m inside _ _
          (All-put start s) (All-put end e) (is_odd-put start n inside s put_s) (is_odd-put end m inside e put_e);
    }

    pub is_even-borrowed : is_odd (length (borrowed_items (then_some s start) (take (m - n) (drop n xs)) (then_some e end))) ≡ false
    is_even-borrowed =
        is_even-parts o start.now end.now xs n m up less within_n before_n from_n within_m before_m from_m inside _ _
        (All-put start s) (All-put end e) (is_odd-put start n inside s put_s) (is_odd-put end m inside e put_e)
