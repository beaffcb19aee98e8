-- Whether sets meet: the first range of some boundaries apart from the later ones, and the gaps before and between ranges.
use Rattle.std.proofs.Common.{◌≡◌, ◌⊎◌, inl, inr, refl, sym, ap, ◌∙◌, Bool, true, false, not, ◌||◌, true≢false, Option, Some, None, IfSome, IfNone, List, [], ◌∷◌, ℕ, get_or, slice_get, option_copied, arith}
use Rattle.std.specs.Borrow.{Bor}
use Rattle.std.specs.Cmp.{IsTotalOrder}
use Rattle.std.specs.Option.{is_some}
use Rattle.std.specs.Ordering.{is_le, is_lt}
use Rattle.std.specs.declared.cmp.Ordering.{Ordering}
use Rattle.std.specs.declared.cmp.Ordering.TheVariants.{Less, Equal, Greater}
use Rattle.range_merge.specs.Boundaries.{IsAscending, member}
use Rattle.range_merge.specs.Connective.{differ}
use Rattle.range_merge.proofs.Members.{member-nil, member-cons, by_Ordering}
use Rattle.range_merge.proofs.Orders.{Greater-from_less, Less-from_greater, Less-trans, Less-then_equal}
use Rattle.range_merge.proofs.Pairs.{AllPairs-head, AllPairs-tail}
use Rattle.range_merge.proofs.Parity.{differ-false}
use Rattle.range_merge.proofs.SameSet.{member-below_all, member-before, member-head}
use Rattle.range_collections.specs.Extent.{IsNext}
use Rattle.range_collections.proofs.Ascending.{Less-from_is_lt}
use Rattle.range_chunks.specs.Relating.{IsMet, IsNotMet}

not-twice : (b : Bool) → not (not b) ≡ b
not-twice true = refl
not-twice false = refl

false-unless : (b : Bool) → (b ≡ true → ⊥) → b ≡ false
false-unless true h = absurd (h refl)
false-unless false h = refl

module _ {K : Type 0} {order : K → K → Ordering} (o : IsTotalOrder order) where
  pub member-one : (s x : K) → member order (s ∷ []) x ≡ is_le (order s x)
  member-one s x = member-cons order s [] x ∙ ap (differ (is_le (order s x))) (member-nil order x) ∙ differ-false (is_le (order s x))

  tail : (y : K) (ys : List K) → IsAscending order (y ∷ ys) → IsAscending order ys
  tail = AllPairs-tail (λ x y. order x y ≡ Less)

  module _ (s e : K) (rest : List K) (up : IsAscending order (s ∷ e ∷ rest)) where
    pub later-ascends : IsAscending order rest
    later-ascends = tail e rest (tail s (e ∷ rest) up)

    s_below : order s e ≡ Less
    s_below = up 0 1 s (omega arith) (omega arith)

    module _ (x : K) where
      split_up : member order (s ∷ e ∷ rest) x ≡ differ (is_le (order s x)) (differ (is_le (order e x)) (member order rest x))
      split_up = member-cons order s (e ∷ rest) x ∙ ap (differ (is_le (order s x))) (member-cons order e rest x)

      -- from the end on the first range has no element
      past : is_le (order e x) ≡ true → is_le (order s x) ≡ true → member order (s ∷ e ∷ rest) x ≡ member order rest x
      past far near =
          split_up ∙ ap (λ b. differ b (differ (is_le (order e x)) (member order rest x))) near
          ∙ ap (λ b. not (differ b (member order rest x))) far ∙ not-twice (member order rest x)

      none_later : order e x ≡ Greater → member order rest x ≡ false
      none_later g =
          member-below_all o rest x
          (λ k d low. Less-trans o x e (get_or rest k d) (Less-from_greater o e x g) (AllPairs-head (λ x y. order x y ≡ Less) e rest (tail s (e ∷ rest) up) k d low))

      -- below the end only the first range has elements
      before : order e x ≡ Greater → member order (s ∷ e ∷ rest) x ≡ is_le (order s x)
      before g =
          split_up ∙ ap (λ b. differ (is_le (order s x)) (differ b (member order rest x))) (ap is_le g)
          ∙ ap (differ (is_le (order s x))) (none_later g) ∙ differ-false (is_le (order s x))

      at_or_past : {G : Type 0} → (is_le (order e x) ≡ true → is_le (order s x) ≡ true → G) → (order e x ≡ Greater → G) → G
      at_or_past far near =
          by_Ordering (order e x)
          (λ l. far (ap is_le l) (ap is_le (Less-trans o s e x s_below l)))
          (λ q. far (ap is_le q) (ap is_le (Less-then_equal o s e x s_below q)))
          near

      pub first-or_later : member order (s ∷ e ∷ rest) x ≡ true → ((is_le (order s x) ≡ true) × (order x e ≡ Less)) ⊎ (member order rest x ≡ true)
      first-or_later m =
          at_or_past (λ far near. inr (sym (past far near) ∙ m)) (λ g. inl (sym (before g) ∙ m, Less-from_greater o e x g))

      pub member-later : member order rest x ≡ true → member order (s ∷ e ∷ rest) x ≡ true
      member-later m =
          at_or_past (λ far near. past far near ∙ m) (λ g. absurd (true≢false (sym m ∙ none_later g)))

      pub member-first : is_le (order s x) ≡ true → order x e ≡ Less → member order (s ∷ e ∷ rest) x ≡ true
      member-first near less = before (Greater-from_less o x e less) ∙ near

  module _ (first : K) (gaps items : List K) (up : IsAscending order (first ∷ gaps)) where
    below-first : (x : K) → order x first ≡ Less → member order gaps x ≡ false
    below-first x less =
        member-below_all o gaps x (λ k d low. Less-trans o x first (get_or gaps k d) less (AllPairs-head (λ x y. order x y ≡ Less) first gaps up k d low))

    -- from the first boundary on, the gaps have what the ranges lack
    in_gaps : (x : K) → is_le (order first x) ≡ true → member order (first ∷ gaps) x ≡ not (member order gaps x)
    in_gaps x le = member-cons order first gaps x ∙ ap (λ b. differ b (member order gaps x)) le

    from_first : {G : Type 0} (x : K) → (is_le (order first x) ≡ true → G) → (order x first ≡ Less → G) → G
    from_first x far near =
        by_Ordering (order first x) (λ l. far (ap is_le l)) (λ q. far (ap is_le q)) (λ g. near (Less-from_greater o first x g))

    pub outside-below : (x : K) × (member order items x ≡ true) × (order x first ≡ Less) → IsMet order false items (first ∷ gaps)
    outside-below (x, m, less) = (x, m, member-before o x first gaps less up)

    pub outside-in_gap : IsMet order true gaps items → IsMet order false items (first ∷ gaps)
    outside-in_gap (x, gap, m) =
        (x, m, from_first x (λ far. in_gaps x far ∙ ap not gap) (λ less. absurd (true≢false (sym gap ∙ below-first x less))))

    pub outside-none : ((x : K) → order x first ≡ Less → member order items x ≡ false) → IsNotMet order true gaps items → IsNotMet order false items (first ∷ gaps)
    outside-none low none x m =
        from_first x
        (λ far. in_gaps x far ∙ ap not (false-unless (member order gaps x) (λ gap. true≢false (sym m ∙ none x gap))))
        (λ less. absurd (true≢false (sym m ∙ low x less)))

  pub IsMet-swapped : (inside : Bool) (a b : List K) → inside ≡ true → IsMet order true b a → IsMet order inside a b
  IsMet-swapped inside a b e (x, there, here) = (x, here, there ∙ sym e)

  pub IsNotMet-swapped : (inside : Bool) (a b : List K) → inside ≡ true → IsNotMet order true b a → IsNotMet order inside a b
  IsNotMet-swapped inside a b e none x m =
      false-unless (member order b x) (λ there. true≢false (sym m ∙ none x there)) ∙ ap not (sym e)

  -- ---- what a search from the start of a range without an end finds
  pub from_start-some : (inside : Bool) (items : List K) (s : K) (r : Option (Bor K)) (b : Bool) → b ≡ is_some r → IfSome r (λ next. IsNext order inside items s next.now) →
      b ≡ true → IsMet order inside (s ∷ []) items
  from_start-some inside items s None b e next t = absurd (true≢false (sym t ∙ e))
  from_start-some inside items s (Some x) b e next t = (x.now, member-one s x.now ∙ next.at_or_above, next.is_there)

  pub from_start-none : (inside : Bool) (items : List K) (s : K) (r : Option (Bor K)) (b : Bool) → b ≡ is_some r →
      IfNone r ((x : K) → is_le (order s x) ≡ true → member order items x ≡ not inside) → b ≡ false → IsNotMet order inside (s ∷ []) items
  from_start-none inside items s None b e none f = λ x m. none x (sym (member-one s x) ∙ m)
  from_start-none inside items s (Some x) b e none f = absurd (true≢false (sym e ∙ f))

  -- ---- the first boundary, and an element
  module _ (items : List K) (n : ℕ) (at_front : n ≡ 0) (up : IsAscending order items) where
    pub starts-some : (first : K) → Some first ≡ slice_get items n → member order items first ≡ true
    starts-some first e = by_items items up (e ∙ ap (slice_get items) at_front)
      where
        by_items : (xs : List K) → IsAscending order xs → Some first ≡ slice_get xs 0 → member order xs first ≡ true
        by_items [] xp is = absurd (cc)
        by_items (x ∷ xs) xp is = let same : first ≡ x = cc in rw same (member-head o x xs xp)

    pub starts-none : (first x : K) → Some first ≡ slice_get items n → order x first ≡ Less → member order items x ≡ false
    starts-none first x e less = by_items items up (e ∙ ap (slice_get items) at_front)
      where
        by_items : (xs : List K) → IsAscending order xs → Some first ≡ slice_get xs 0 → member order xs x ≡ false
        by_items [] xp is = absurd (cc)
        by_items (y ∷ ys) xp is = let same : first ≡ y = cc in member-before o x y ys (rw same at less) xp

    pub nothing-there : (x : K) → None ≡ slice_get items n → member order items x ≡ false
    nothing-there x e = by_items items (e ∙ ap (slice_get items) at_front)
      where
        by_items : (xs : List K) → None ≡ slice_get xs 0 → member order xs x ≡ false
        by_items [] is = member-nil order x
        by_items (y ∷ ys) is = absurd (cc)

    pub some-there : (r : Option (Bor K)) (b : Bool) → b ≡ is_some r → option_copied r ≡ slice_get items n → b ≡ true → IsMet order false items []
    some-there None b e is t = absurd (true≢false (sym t ∙ e))
    some-there (Some x) b e is t = (x.now, starts-some x.now is, member-nil order x.now)

    pub none-there : (r : Option (Bor K)) (b : Bool) → b ≡ is_some r → option_copied r ≡ slice_get items n → b ≡ false → IsNotMet order false items []
    none-there None b e is f = λ x m. absurd (true≢false (sym m ∙ nothing-there x is))
    none-there (Some x) b e is f = absurd (true≢false (sym e ∙ f))

  pub Less-tested : (r : Bool) (x y : K) (how : Ordering) → r ≡ is_lt how → how ≡ order x y → r ≡ true → order x y ≡ Less
  Less-tested r x y how e is t = Less-from_is_lt (order x y) (sym (ap is_lt is) ∙ sym e ∙ t)

  pub not_Less-tested : (r : Bool) (x y : K) (how : Ordering) → r ≡ is_lt how → how ≡ order x y → r ≡ false → order x y ≡ Less → ⊥
  not_Less-tested r x y how e is f less = true≢false (sym (e ∙ ap is_lt is ∙ ap is_lt less) ∙ f)

  pub Less-then_first : (x y z : K) → order x y ≡ Less → (order z y ≡ Less → ⊥) → order x z ≡ Less
  Less-then_first x y z less far =
      by_Ordering (order y z)
      (λ l. Less-trans o x y z less l)
      (λ q. Less-then_equal o x y z less q)
      (λ g. absurd (far (Less-from_greater o y z g)))
