-- What a connective makes of two sets from the least number on: what it is there, and what changes
-- after it.
use Rattle.std.proofs.Common.{◌≡◌, refl, sym, ap, ap₂, ◌∙◌, ℕ, ◌≤◌, ◌+◌, Bool, true, false, List, [], ◌∷◌, length, take, drop, All, arith, true≢false}
use Rattle.std.specs.List.{AllWithin}
use Rattle.std.proofs.lemmas.List.{take-append-drop, length-take-le, length-map}
use Rattle.std.proofs.lemmas.List.Elements.{All-nil, All-cons, All-weaker, length_all_zip}
use Rattle.std.specs.Cmp.{IsTotalOrder}
use Rattle.std.specs.declared.cmp.Ordering.{Ordering}
use Rattle.std.specs.declared.cmp.Ordering.TheVariants.{Less, Equal, Greater}
use Rattle.std.specs.Ordering.{is_le}
use Rattle.range_merge.specs.Boundaries.{IsAscending, count_up_to, member, is_odd}
use Rattle.range_merge.specs.Changes.{changes, taken_item, taken_items}
use Rattle.range_merge.specs.Connective.{Table, differ, Means}
use Rattle.range_merge.proofs.ChangesLemmas.{Means-changes}
use Rattle.range_merge.proofs.Members.{member-cons, member-above}
use Rattle.range_merge.proofs.Orders.{Greater-from_less, Less-from_greater, Equal-self}
use Rattle.range_merge.proofs.OwnersLemmas.{IsOwners-owners}
use Rattle.range_merge.proofs.Parity.{is_odd-add}
use Rattle.range_merge.proofs.SameSet.{same_items, member-head}
use Rattle.range_collections.proofs.Ascending.{IsAscending-head, IsAscending-cons}
use Rattle.range_collections.proofs.Cut.{All-take_within}
use Rattle.range_collections.proofs.Shortest.{is_le-cases, count_up_to-append, count_up_to-all, Less-then_le, Less-from_le, le-trans}
use Rattle.range_c.specs.Answers.{AnswersList}
use Rattle.range_c.specs.FromLeast.{MeansFrom, AnswersFrom}

differ-true-true : (b : Bool) → differ true (differ true b) ≡ b
differ-true-true true = refl
differ-true-true false = refl

module _ {K : Type 0} {order : K → K → Ordering} (o : IsTotalOrder order) (least : K) where
  -- an item above the least number is above what is at or below it
  above-low : (y x : K) → order y least ≡ Greater → is_le (order x least) ≡ true → order y x ≡ Greater
  above-low y x g h = Greater-from_less o x y (Less-from_le o x least y h (Less-from_greater o y least g))

  none_low : (xs : List K) (x : K) → All (λ y. order y least ≡ Greater) xs → is_le (order x least) ≡ true → member order xs x ≡ false
  none_low xs x h low = member-above order xs x (All-weaker (λ y. order y least ≡ Greater) (λ y. order y x ≡ Greater) (λ y g. above-low y x g low) xs h)

  -- after the items that are at or below the least number, the members change by their number
  pub member-drop : (items : List K) (n : ℕ) → n ≤ length items → AllWithin (λ y. is_le (order y least) ≡ true) items 0 n →
      (x : K) → is_le (order least x) ≡ true → member order items x ≡ differ (is_odd n) (member order (drop n items) x)
  member-drop items n within low x far =
      let front = take n items in
      let all : All (λ y. is_le (order y x) ≡ true) front =
      All-weaker (λ y. is_le (order y least) ≡ true) (λ y. is_le (order y x) ≡ true) (λ y h. le-trans o y least x h far) front
      (All-take_within order (λ y. is_le (order y least) ≡ true) n items within low) in
      ap (λ ys. member order ys x) (sym (take-append-drop n items))
      ∙ ap is_odd (count_up_to-append order front (drop n items) x ∙ ap (λ k. k + count_up_to order (drop n items) x) (count_up_to-all order x front all ∙ length-take-le n items within))
      ∙ is_odd-add n (count_up_to order (drop n items) x)

  module _ (f : Table) (a b : List K) where
    -- no number below the least is a member
    below : (items : List K) (x : K) → MeansFrom order least f items a b → order least x ≡ Greater → member order items x ≡ false
    below items x m g =
        member-above order items x
        (All-weaker (λ y. is_le (order least y) ≡ true) (λ y. order y x ≡ Greater)
        (λ y h. Greater-from_less o x y (Less-then_le o x least y (Less-from_greater o least x g) h)) items m.from)

    same-from : (i j : List K) → MeansFrom order least f i a b → MeansFrom order least f j a b → length i ≡ length j
    same-from i j m n =
        length_all_zip (λ x y. order x y ≡ Equal) i j
        (same_items o i j m.sorted n.sorted
        (λ x. is_le-cases (order least x) (λ h. m.members x h ∙ sym (n.members x h)) (λ g. below i x m g ∙ sym (below j x n g))))

    -- what changes from the least number on, where both lists were cut after it
    module _ (g : Table) (p q : Bool) (u v : List K) (off : g false false ≡ false) (changed : (s t : Bool) → g s t ≡ differ (f p q) (f (differ p s) (differ q t)))
        (u_above : All (λ y. order y least ≡ Greater) u) (v_above : All (λ y. order y least ≡ Greater) v)
        (in_a : (x : K) → is_le (order least x) ≡ true → member order a x ≡ differ p (member order u x))
        (in_b : (x : K) → is_le (order least x) ≡ true → member order b x ≡ differ q (member order v x)) where
      items_above : (items : List K) → Means order g items u v → All (λ y. order y least ≡ Greater) items
      items_above [] m = All-nil (λ y. order y least ≡ Greater)
      items_above (y ∷ ys) m =
          let first : order y least ≡ Greater =
          is_le-cases (order y least)
          (λ low. absurd (true≢false (sym (member-head o y ys m.sorted) ∙ m.members y ∙ ap₂ g (none_low u y u_above low) (none_low v y v_above low) ∙ off)))
          (λ h. h) in
          All-cons (λ z. order z least ≡ Greater) y ys first
          (All-weaker (λ z. order y z ≡ Less) (λ z. order z least ≡ Greater)
          (λ z l. Greater-from_less o least z (Less-from_le o least y z (ap is_le (Less-from_greater o y least first)) l)) ys (IsAscending-head order y ys m.sorted))

      told : (items : List K) → Means order g items u v → (x : K) → is_le (order least x) ≡ true →
          member order items x ≡ differ (f p q) (f (member order a x) (member order b x))
      told items m x far =
          m.members x ∙ changed (member order u x) (member order v x)
          ∙ ap₂ (λ s t. differ (f p q) (f s t)) (sym (in_a x far)) (sym (in_b x far))

      lows : (items : List K) → All (λ y. order y least ≡ Greater) items → All (λ y. order least y ≡ Less) items
      lows items h = All-weaker (λ y. order y least ≡ Greater) (λ y. order least y ≡ Less) (λ y g. Less-from_greater o y least g) items h

      froms : (items : List K) → All (λ y. order y least ≡ Greater) items → All (λ y. is_le (order least y) ≡ true) items
      froms items h = All-weaker (λ y. order y least ≡ Greater) (λ y. is_le (order least y) ≡ true) (λ y g. ap is_le (Less-from_greater o y least g)) items h

      MeansFrom-plain : (items : List K) → f p q ≡ false → Means order g items u v → MeansFrom order least f items a b
      MeansFrom-plain items e m = record {
        sorted = m.sorted;
        from = froms items (items_above items m);
        members = λ x far. told items m x far ∙ ap (λ s. differ s (f (member order a x) (member order b x))) e;
      }

      MeansFrom-after : (items : List K) → f p q ≡ true → Means order g items u v → MeansFrom order least f (least ∷ items) a b
      MeansFrom-after items e m = record {
        sorted = IsAscending-cons order least items (lows items (items_above items m)) m.sorted;
        from = All-cons (λ y. is_le (order least y) ≡ true) least items (ap is_le (Equal-self o least)) (froms items (items_above items m));
        members = λ x far.
            member-cons order least items x
            ∙ ap₂ differ far (told items m x far ∙ ap (λ s. differ s (f (member order a x) (member order b x))) e)
            ∙ differ-true-true (f (member order a x) (member order b x));
      }

      module _ (u_up : IsAscending order u) (v_up : IsAscending order v) where
        items_changed : Means order g (taken_items (changes order g u v)) u v
        items_changed = Means-changes o g u v off u_up v_up (IsOwners-owners o u v u_up v_up)

        pub AnswersFrom-plain : (old new : List K) (n : ℕ) → f p q ≡ false → AnswersList order g u v old new n → AnswersFrom order least f a b old new n
        AnswersFrom-plain old new n e r = record {
          counted = λ items m.
              r.counted ∙ sym (length-map (changes order g u v) taken_item)
              ∙ same-from (taken_items (changes order g u v)) items (MeansFrom-plain _ e items_changed) m;
          means = λ fits. MeansFrom-plain (take n new) e (r.means fits);
          after = r.after;
        }

        pub AnswersFrom-after : (old new : List K) (n : ℕ) → f p q ≡ true → n ≡ length (changes order g u v) + 1 →
            (n ≤ length old → take n new ≡ least ∷ taken_items (changes order g u v)) → (n ≤ length old → drop n new ≡ drop n old) →
            AnswersFrom order least f a b old new n
        AnswersFrom-after old new n e counted front rest = record {
          counted = λ items m.
              omega (arith, counted, length-map (changes order g u v) taken_item, same-from (least ∷ taken_items (changes order g u v)) items (MeansFrom-after _ e items_changed) m);
          means = λ fits. rw (front fits) (MeansFrom-after _ e items_changed);
          after = rest;
        }
