-- A range added to a set: cuts near the set's end, the list after it, and the union of one range
-- more.
use Rattle.std.proofs.Common.{◌≡◌, ◌≢◌, refl, sym, ap, ap₂, ◌∙◌, subst, ℕ, zero, suc, ◌↔◌, ◌*◌, ◌/◌, inl, inr, ◌<◌, ◌≤◌, ◌+◌, ◌-◌, Option, Some, None, Bool, true, false, not, cond, ◌||◌, List, [], ◌∷◌, ◌++◌, length, take, drop, get_or, set, arith, All, true≢false, Result, Ok, Err, IsOk, IsErr, OnOk, append_assoc, length-append}
use Rattle.std.specs.Cmp.{IsTotalOrder}
use Rattle.std.specs.List.{AllZip, AllWithin, flat_map}
use Rattle.std.specs.Ordering.{is_le, is_lt}
use Rattle.std.specs.declared.alloc.AllocError.{AllocError}
use Rattle.std.specs.declared.cmp.Ordering.{Ordering}
use Rattle.std.specs.declared.cmp.Ordering.TheVariants.{Less, Equal}
use Rattle.std.proofs.lemmas.Bool.{cases_lt}
use Rattle.std.proofs.lemmas.List.{drop_all, get_or_default, take_all, take_more, take-append-drop}
use Rattle.std.proofs.lemmas.List.Elements.{All-nil, All-cons, All-head, All-tail, All-weaker, length_all_zip}
use Rattle.std.proofs.lemmas.Grind.{flat_map-append}
use Rattle.range_merge.specs.Boundaries.{IsAscending, member, is_odd}
use Rattle.range_merge.specs.Connective.{Means, union_table}
use Rattle.range_merge.proofs.Members.{member-nil, by_Ordering}
use Rattle.range_merge.proofs.Orders.{Equal-sym, Less-from_equal, Less-then_equal}
use Rattle.range_merge.proofs.Parity.{is_odd-suc}
use Rattle.range_collections.specs.InPlace.{AreOwnElseOf}
use Rattle.range_collections.specs.ManyRanges.{EndsBefore, NoneStartsAbove}
use Rattle.range_collections.specs.Ranges.{range_items}
use Rattle.range_collections.specs.Splicing.{IsCut, range_table, spliced}
use Rattle.range_collections.specs.Unions.{GivesUnion, IsAdded, IsJoined}
use Rattle.range_collections.proofs.Ascending.{IsAscending-cons}
use Rattle.range_collections.proofs.FirstParts.{All-front, All-back}
use Rattle.range_collections.proofs.Insertion.{IsAscending-spliced, IsCut-before_found, IsCut-put, Means-spliced, AreOwnElseOf-spliced, AreOwnElseOf-unchanged, Means-alike, union-alike}
use Rattle.range_collections.proofs.Shortest.{Less-then_le, le-from_greater}
use Rattle.range_collections.proofs.Splices.{set-parts}
use Rattle.range_collections.proofs.Unions.{GivesUnion-one, GivesUnion-joined, length-halves, length-union}
use Rattle.range_collections.proofs.Values.{IsAscending-one}

or-false : (b : Bool) → (b || false) ≡ b
or-false true = refl
or-false false = refl

not-false : (b : Bool) → not b ≡ false → b ≡ true
not-false true h = refl
not-false false h = cc

false_is_not_true : (b : Bool) → b ≡ false → b ≡ true → ⊥
false_is_not_true b f t = true≢false (sym t ∙ f)

positive : (n : ℕ) → is_odd n ≡ true → 0 < n
positive zero h = cc
positive (suc n) h = omega arith

module _ {K : Type 0} {order : K → K → Ordering} (o : IsTotalOrder order) where
  -- ---- where an element is cut off near the end
  module _ (xs : List K) (at : K) (up : IsAscending order xs) (even : is_odd (length xs) ≡ false) where
    cut_after : AllWithin (λ y. order y at ≡ Less) xs 0 (length xs) → IsCut order true xs at (length xs) (Some at)
    cut_after below =
        IsCut-put o true xs at (length xs) up (omega arith) below (λ k d low high. absurd (omega (arith, low, high)))
        (λ odd. false_is_not_true (is_odd (length xs)) even odd)

    pub IsCut-empty : length xs ≡ 0 → IsCut order true xs at (length xs) (Some at)
    IsCut-empty none = cut_after (λ k d low high. absurd (omega (arith, none, high)))

    module _ (y : K) (some : 0 < length xs) (is : y ≡ get_or xs (length xs - 1) y) where
      last_is : (k : ℕ) (d : K) → k ≡ length xs - 1 → get_or xs k d ≡ y
      last_is k d e = ap (λ n. get_or xs n d) e ∙ get_or_default xs (length xs - 1) d y (omega (arith, some)) ∙ sym is

      pub IsCut-after_last : order y at ≡ Less → IsCut order true xs at (length xs) (Some at)
      IsCut-after_last below =
          cut_after
          (λ k d low high.
          elim (cases_lt k (length xs - 1)) as (λ _. order (get_or xs k d) at ≡ Less) [
            | inl less ↦
                o.trans (get_or xs k d) y at
                (subst (λ z. order (get_or xs k d) z ≡ Less) (last_is (length xs - 1) d refl) (up k (length xs - 1) d less (omega (arith, some)))) below
            | inr last ↦ subst (λ z. order z at ≡ Less) (sym (last_is k d (omega (arith, last, high)))) below
          ])

      -- the element isn't above the last item, and not below the one before it
      pub IsCut-in_last : (z : K) → 1 < length xs → z ≡ get_or xs (length xs - 2) z → is_lt (order y at) ≡ false → is_le (order z at) ≡ true →
          IsCut order true xs at (length xs - 1) None
      IsCut-in_last z two is_z short reached = record {
        within = omega arith;
        before = λ k d low high.
            elim (cases_lt k (length xs - 2)) as (λ _. is_le (order (get_or xs k d) at) ≡ true) [
              | inl less ↦
                  ap is_le
                  (Less-then_le o (get_or xs k d) z at
                  (subst (λ w. order (get_or xs k d) w ≡ Less) (start_is (length xs - 2) d refl) (up k (length xs - 2) d less (omega (arith, two))))
                  reached)
              | inr last ↦ subst (λ w. is_le (order w at) ≡ true) (sym (start_is k d (omega (arith, last, high)))) reached
            ];
        from = λ k d low high. subst (λ w. is_le (order at w) ≡ true) (sym (last_is k d (omega (arith, low, high)))) reaches;
        is_put = All-nil (λ w. (w ≡ at) × All (λ x. order x at ≢ Equal) xs);
        parity = ap is_odd plain ∙ not-false (is_odd (length xs - 1)) (sym (is_odd-suc (length xs - 1)) ∙ sym (ap is_odd back) ∙ even);
      }
        where
          start_is : (k : ℕ) (d : K) → k ≡ length xs - 2 → get_or xs k d ≡ z
          start_is k d e = ap (λ n. get_or xs n d) e ∙ get_or_default xs (length xs - 2) d z (omega (arith, two)) ∙ sym is_z

          plain : length xs - 1 + 0 ≡ length xs - 1
          plain = omega arith

          back : length xs ≡ suc (length xs - 1)
          back = omega (arith, some)

          reaches : is_le (order at y) ≡ true
          reaches =
              by_Ordering (order y at) (λ l. absurd (false_is_not_true (is_lt (order y at)) short (ap is_lt l)))
              (λ e. ap is_le (Equal-sym o y at e)) (λ g. le-from_greater o y at g)

  -- all items are at or below the element, and the last one is a start
  module _ (xs : List K) (at : K) (up : IsAscending order xs) (odd : is_odd (length xs) ≡ true) where
    pub IsCut-in_open : (y : K) → y ≡ get_or xs (length xs - 1) y → is_le (order y at) ≡ true → IsCut order true xs at (length xs) None
    IsCut-in_open y is reached = record {
      within = omega arith;
      before = λ k d low high.
          elim (cases_lt k (length xs - 1)) as (λ _. is_le (order (get_or xs k d) at) ≡ true) [
            | inl less ↦
                ap is_le
                (Less-then_le o (get_or xs k d) y at
                (subst (λ w. order (get_or xs k d) w ≡ Less) (last_is (length xs - 1) d refl) (up k (length xs - 1) d less (omega (arith, positive (length xs) odd)))) reached)
            | inr last ↦ subst (λ w. is_le (order w at) ≡ true) (sym (last_is k d (omega (arith, last, high)))) reached
          ];
      from = λ k d low high. absurd (omega (arith, low, high));
      is_put = All-nil (λ w. (w ≡ at) × All (λ x. order x at ≢ Equal) xs);
      parity = ap is_odd plain ∙ odd;
    }
      where
        last_is : (k : ℕ) (d : K) → k ≡ length xs - 1 → get_or xs k d ≡ y
        last_is k d e = ap (λ n. get_or xs n d) e ∙ get_or_default xs (length xs - 1) d y (omega (arith, positive (length xs) odd)) ∙ sym is

        plain : length xs + 0 ≡ length xs
        plain = omega arith

  -- ---- what lies at the end
  module _ (xs : List K) (up : IsAscending order xs) where
    pub All-below_last : (x y : K) → 0 < length xs → y ≡ get_or xs (length xs - 1) y → order y x ≡ Less → All (λ z. order z x ≡ Less) xs
    All-below_last x y some is below k d within =
        elim (cases_lt k (length xs - 1)) as (λ _. order (get_or xs k d) x ≡ Less) [
          | inl less ↦ o.trans (get_or xs k d) y x (subst (λ z. order (get_or xs k d) z ≡ Less) (last_is (length xs - 1) refl) (up k (length xs - 1) d less (omega (arith, some)))) below
          | inr last ↦ subst (λ z. order z x ≡ Less) (sym (last_is k (omega (arith, last, within)))) below
        ]
      where
        last_is : (n : ℕ) → n ≡ length xs - 1 → get_or xs n d ≡ y
        last_is n e = ap (λ m. get_or xs m d) e ∙ get_or_default xs (length xs - 1) d y (omega (arith, some)) ∙ sym is

    pub IsCut-all_below : (x : K) → is_odd (length xs) ≡ false → All (λ z. order z x ≡ Less) xs → IsCut order true xs x (length xs) (Some x)
    IsCut-all_below x even h = cut_after xs x up even (λ k d low high. h k d high)

    pub none_above : (x y : K) → 0 < length xs → y ≡ get_or xs ((length xs - 1) / 2 * 2) y → (is_le (order y x) ≡ true) ↔ NoneStartsAbove order xs x
    none_above x y some is = (
      λ le i d within.
          elim (cases_lt (2 * i) ((length xs - 1) / 2 * 2)) as (λ _. is_le (order (get_or xs (2 * i) d) x) ≡ true) [
            | inl less ↦
                ap is_le
                (Less-then_le o (get_or xs (2 * i) d) y x
                (subst (λ z. order (get_or xs (2 * i) d) z ≡ Less) (there d) (up (2 * i) ((length xs - 1) / 2 * 2) d less (omega (arith, some)))) le)
            | inr far ↦
                let same : 2 * i ≡ (length xs - 1) / 2 * 2 = omega (arith, far, within) in
                subst (λ z. is_le (order z x) ≡ true) (sym (ap (λ n. get_or xs n d) same ∙ there d)) le
          ],
      λ none.
          let even : 2 * ((length xs - 1) / 2) ≡ (length xs - 1) / 2 * 2 = omega arith in
          subst (λ z. is_le (order z x) ≡ true) (ap (λ n. get_or xs n y) even ∙ there y) (none ((length xs - 1) / 2) y (omega (arith, some))),
    )
      where
        there : (d : K) → get_or xs ((length xs - 1) / 2 * 2) d ≡ y
        there d = get_or_default xs ((length xs - 1) / 2 * 2) d y (omega (arith, some)) ∙ sym is

  -- ---- where the set ends
  pub EndsBefore-none : (xs : List K) (at : K) → length xs ≡ 0 → EndsBefore order false xs at
  EndsBefore-none xs at none = record {
    even = ap is_odd none;
    below = λ _ k d within. absurd (omega (arith, none, within));
    last = λ touches. absurd (true≢false (sym touches));
  }

  module _ (xs : List K) (at y : K) (even : is_odd (length xs) ≡ false) (some : 0 < length xs) (is : y ≡ get_or xs (length xs - 1) y) where
    pub EndsBefore-below : IsAscending order xs → order y at ≡ Less → EndsBefore order false xs at
    EndsBefore-below up less = record {
      even = even;
      below = λ _. All-below_last xs up at y some is less;
      last = λ touches. absurd (true≢false (sym touches));
    }

    pub EndsBefore-at : order y at ≡ Equal → EndsBefore order true xs at
    EndsBefore-at same = record {
      even = even;
      below = λ apart. absurd (true≢false apart);
      last = λ _. (some, λ d. subst (λ z. order z at ≡ Equal) (is ∙ get_or_default xs (length xs - 1) y d (omega (arith, some))) same);
    }

  -- an element above that at which the set ends
  pub All-below_above : (touches : Bool) (xs : List K) (start end : K) → IsAscending order xs → order start end ≡ Less → EndsBefore order touches xs start →
      All (λ z. order z end ≡ Less) xs
  All-below_above false xs start end up less h =
      All-weaker (λ z. order z start ≡ Less) (λ z. order z end ≡ Less) (λ z low. o.trans z start end low less) xs (h.below refl)
  All-below_above true xs start end up less h =
      let (some, here) = h.last refl in
      let last : K = get_or xs (length xs - 1) start in
      All-below_last xs up end last some (get_or_default xs (length xs - 1) start last (omega (arith, some))) (Less-from_equal o last start end (here start) less)

  -- the last item equals the element
  pub IsCut-at_last : (xs : List K) (at : K) → IsAscending order xs → EndsBefore order true xs at → IsCut order true xs at (length xs - 1) None
  IsCut-at_last xs at up h =
      let (some, here) = h.last refl in
      let back : length xs ≡ suc (length xs - 1) = omega (arith, some) in
      IsCut-before_found o true xs at (length xs - 1) up (omega (arith, some)) here
      (not-false (is_odd (length xs - 1)) (sym (is_odd-suc (length xs - 1)) ∙ sym (ap is_odd back) ∙ h.even))

  pub spliced-last : (xs : List K) (end : K) → 0 < length xs → set xs (length xs - 1) end ≡ spliced xs (length xs - 1) (length xs) None (Some end)
  spliced-last xs end some =
      let whole : length xs - 1 + 1 ≡ length xs = omega (arith, some) in
      set-parts xs (length xs - 1) end (omega (arith, some)) ∙ ap (λ n. take (length xs - 1) xs ++ (end ∷ drop n xs)) whole

  pub spliced-end : (xs : List K) (start end : K) → spliced xs (length xs) (length xs) (Some start) (Some end) ≡ xs ++ (start ∷ end ∷ [])
  spliced-end xs start end = ap₂ (λ us vs. us ++ (start ∷ end ∷ vs)) (take_all (length xs) xs (omega arith)) (drop_all (length xs) xs (omega arith))

  -- ---- a range with elements, put between its cuts
  pub range_is : (start end : K) → order start end ≡ Less → range_items order start end ≡ start ∷ end ∷ []
  range_is start end less = ap (λ r. cond (is_lt r) (start ∷ end ∷ []) []) less

  pub All-range_ends : (P : K → Type 0) (start end : K) → order start end ≡ Less → All P (range_items order start end) → P start × P end
  All-range_ends P start end less h =
      let both : All P (start ∷ end ∷ []) = subst (All P) (range_is start end less) h in
      (All-head P start (end ∷ []) both, All-head P end [] (All-tail P start (end ∷ []) both))

  module _ (a : List K) (start end : K) (from to : ℕ) (s e : Option K)
      (up : IsAscending order a) (less : order start end ≡ Less) (p : IsCut order true a start from s) (q : IsCut order true a end to e) where
    pub Means-put : Means order union_table (spliced a from to s e) a (start ∷ end ∷ [])
    Means-put =
        subst (λ ys. Means order union_table (spliced a from to s e) a ys) (range_is start end less)
        (Means-alike (range_table true) union_table union-alike (spliced a from to s e) a (range_items order start end)
        (Means-spliced o true a start end from to s e up less p q))

    pub AreOwnElseOf-put : AreOwnElseOf order a (start ∷ end ∷ []) (spliced a from to s e)
    AreOwnElseOf-put =
        subst (λ ys. AreOwnElseOf order a ys (spliced a from to s e)) (range_is start end less)
        (AreOwnElseOf-spliced o true a start end from to s e up less p q)

    pub put-spliced : (new : List K) → new ≡ spliced a from to s e →
        IsAscending order new × (Means order union_table new a (start ∷ end ∷ []) × AreOwnElseOf order a (start ∷ end ∷ []) new)
    put-spliced new is = rw is (IsAscending-spliced o true a start end from to s e up less p q, (Means-put, AreOwnElseOf-put))

    pub length-put : length (spliced a from to s e) ≤ length a + 2
    length-put =
        length-union o (spliced a from to s e) a (start ∷ end ∷ []) up
        (IsAscending-cons order start (end ∷ []) (All-cons (λ y. order start y ≡ Less) end [] less (All-nil (λ y. order start y ≡ Less))) (IsAscending-one o end))
        Means-put

  -- ---- a range with elements, put at the end
  module _ (a : List K) (start end : K) (up : IsAscending order a) (less : order start end ≡ Less) where
    IsCut-above : (touches : Bool) → EndsBefore order touches a start → IsCut order true a end (length a) (Some end)
    IsCut-above touches h = IsCut-all_below a up end h.even (All-below_above touches a start end up less h)

    abbrev IsPut : List K → Type 0
    IsPut new = IsAscending order new × (Means order union_table new a (start ∷ end ∷ []) × AreOwnElseOf order a (start ∷ end ∷ []) new)

    pub put-last : (new : List K) → EndsBefore order true a start → new ≡ set a (length a - 1) end → IsPut new
    put-last new h is =
        put-spliced a start end (length a - 1) (length a) None (Some end) up less (IsCut-at_last a start up h) (IsCut-above true h) new
        (is ∙ spliced-last a end (h.last refl).0)

    pub put-after : (new : List K) → EndsBefore order false a start → new ≡ a ++ (start ∷ end ∷ []) → IsPut new
    put-after new h is =
        put-spliced a start end (length a) (length a) (Some start) (Some end) up less (IsCut-all_below a up start h.even (h.below refl)) (IsCut-above false h) new
        (is ∙ sym (spliced-end a start end))

  -- the copies of the ends of a range with elements
  pub Less-copies : (start end x y : K) → order start x ≡ Equal → order end y ≡ Equal → order start end ≡ Less → order x y ≡ Less
  Less-copies start end x y e f less = Less-from_equal o x start y (Equal-sym o start x e) (Less-then_equal o start end y less f)

  module _ (is_copy : K → K → Type 0) (is_infallible : K → Type 0) (room : ℕ) where
    abbrev Added : List K → List K → List K → Result (Unit {0}) AllocError → Type 0
    Added a b new r = IsAdded order is_copy is_infallible room a b new r

    -- ---- a part added to a set
    pub IsAdded-copies : (a b copies new : List K) (r : Result (Unit {0}) AllocError) → AllZip is_copy b copies →
        OnOk r (Means order union_table new a copies) → OnOk r (AreOwnElseOf order a copies new) → (length a + length copies ≤ room → IsOk r) → Added a b new r
    IsAdded-copies a b copies new (Ok u) z m own s = record { added = (copies, z, m, own); succeeds = λ _ _. refl }
    IsAdded-copies a b copies new (Err e) z m own s = record {
      added = tt;
      succeeds = λ few _. s (omega (arith, few, length_all_zip is_copy b copies z));
    }

    pub IsAdded-none : (a b : List K) → IsAscending order a → b ≡ [] → Added a b a (Ok tt)
    IsAdded-none a b up none =
        subst (λ ys. Added a ys a (Ok tt)) (sym none)
        (record {
          added = (
            [],
            tt,
            record { sorted = up; members = λ x. sym (ap (λ t. member order a x || t) (member-nil order x) ∙ or-false (member order a x)) },
            AreOwnElseOf-unchanged o a [],
          );
          succeeds = λ _ _. refl;
        })

    pub IsAdded-refused : (a b new : List K) (r : Result (Unit {0}) AllocError) → IsErr r → (length a + length b ≤ room → All is_infallible b → ⊥) → Added a b new r
    IsAdded-refused a b new (Ok u) bad never = absurd (true≢false (sym bad))
    IsAdded-refused a b new (Err e) bad never = record { added = tt; succeeds = λ few sure. absurd (never few sure) }

    module _ (equal : (x y : K) → is_copy x y → order x y ≡ Equal) {P : Type 0} (boundaries : P → List K) (ascending : (part : P) → IsAscending order (boundaries part)) where
      abbrev Gives : List P → Result (List K) AllocError → Type 0
      Gives parts r = GivesUnion order is_copy is_infallible boundaries room parts r

      -- ---- one part more
      pub GivesUnion-more : (parts : List P) (i : ℕ) (part : P) (a new : List K) → i < length parts → part ≡ get_or parts i part →
          Gives (take i parts) (Ok a) → Added a (boundaries part) new (Ok tt) → Gives (take (i + 1) parts) (Ok new)
      GivesUnion-more parts i part a new within is f h =
          let (copies, z, m, own) = h.added in
          let last : Gives (part ∷ []) (Ok copies) =
          GivesUnion-one o is_copy is_infallible equal boundaries room (part ∷ []) part (Ok copies) refl refl (ascending part) z (λ _ _. refl) in
          let joins : IsJoined order room a copies (Ok new) = record { means = m; left_own_item = own; succeeds = λ _. refl } in
          GivesUnion-joined o is_copy is_infallible equal boundaries room ascending (take (i + 1) parts) (take i parts) (part ∷ []) a copies (Ok new)
          (take_more parts i part within ∙ ap (λ p. take i parts ++ p ∷ []) (sym is)) f last joins

      pub GivesUnion-not_added : (parts : List P) (i : ℕ) (part : P) (a new : List K) (error : AllocError) (r : Result (List K) AllocError) → i < length parts → part ≡ get_or parts i part → IsErr r →
          Gives (take i parts) (Ok a) → Added a (boundaries part) new (Err error) → Gives parts r
      GivesUnion-not_added parts i part a new error (Ok items) within is bad f h = absurd (true≢false (sym bad))
      GivesUnion-not_added parts i part a new error (Err other) within is bad f h = record {
        means = tt;
        first_own_item = tt;
        at_most = tt;
        succeeds = λ few sure.
            let later : All is_infallible (boundaries part ++ flat_map boundaries rest) =
            All-back is_infallible (flat_map boundaries (take i parts)) (flat_map boundaries (part ∷ rest))
            (subst (All is_infallible) (ap (flat_map boundaries) parts_are ∙ flat_map-append boundaries (take i parts) (part ∷ rest)) sure) in
            absurd (true≢false (sym (h.succeeds
            (omega (
              arith,
              few,
              f.at_most,
              length-halves boundaries parts (take i parts) (part ∷ rest) parts_are,
              length-append (boundaries part) (flat_map boundaries rest),
            ))
            (All-front is_infallible (boundaries part) (flat_map boundaries rest) later))));
      }
        where
          rest : List P
          rest = drop (i + 1) parts

          parts_are : parts ≡ take i parts ++ (part ∷ rest)
          parts_are =
              sym (take-append-drop (i + 1) parts)
              ∙ ap (λ front. front ++ rest) (take_more parts i part within ∙ ap (λ p. take i parts ++ p ∷ []) (sym is))
              ∙ append_assoc (take i parts) (part ∷ []) rest
