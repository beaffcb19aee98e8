-- A range set by a splice between two cuts: what stays, and when the list grows no longer.
use Rattle.std.proofs.Common.{suc, ◌≡◌, ◌≢◌, refl, sym, ap, ◌∙◌, subst, ⊎_elim, ℕ, inl, inr, ◌⊎◌, ◌≤◌, ◌+◌, ◌-◌, ◌%◌, Option, Some, None, Bool, true, false, not, List, [], ◌∷◌, ◌++◌, length, take, drop, get_or, arith, All, Contains, true≢false}
use Rattle.std.specs.Option.{option_to_list}
use Rattle.std.specs.Cmp.{IsTotalOrder}
use Rattle.std.specs.Ordering.{is_le}
use Rattle.std.specs.declared.cmp.Ordering.{Ordering}
use Rattle.std.specs.declared.cmp.Ordering.TheVariants.{Less, Equal}
use Rattle.std.proofs.lemmas.Bool.{cases_lt}
use Rattle.std.proofs.lemmas.List.{length-take-le, length-drop, get_or-take, get_or-drop}
use Rattle.std.proofs.lemmas.List.Elements.{All-head, All-weaker, All-contains, All-contains_itself, Contains-append_left, Contains-append_right}
use Rattle.range_merge.specs.Boundaries.{IsAscending, count_up_to, is_odd}
use Rattle.range_merge.specs.Connective.{Means}
use Rattle.range_merge.proofs.Members.{by_Ordering}
use Rattle.range_merge.proofs.Orders.{Greater-from_less}
use Rattle.range_merge.proofs.Parity.{is_odd-suc}
use Rattle.range_collections.specs.Splicing.{IsCut, IsSet, IsSettled, range_table, spliced}
use Rattle.range_collections.proofs.CountUpTo.{count_up_to-split}
use Rattle.range_collections.proofs.Insertion.{cuts_ordered, Means-spliced}
use Rattle.range_collections.proofs.ManyRanges.{range_is}
use Rattle.range_collections.proofs.Changing.{one_at_most, same_rest}
use Rattle.range_collections.proofs.Splices.{length-spliced}

pub other_than_itself : (b : Bool) → not b ≡ b → ⊥
other_than_itself true h = true≢false (sym h)
other_than_itself false h = true≢false h

module _ {K : Type 0} {order : K → K → Ordering} (o : IsTotalOrder order) where
  pub not_both : (x y : K) → order x y ≡ Less → is_le (order y x) ≡ true → ⊥
  not_both x y l h = true≢false (sym h ∙ ap is_le (Greater-from_less o x y l))

  pub Equal-both : (x y : K) → is_le (order x y) ≡ true → is_le (order y x) ≡ true → order x y ≡ Equal
  Equal-both x y h k =
      by_Ordering (order x y) (λ l. absurd (not_both x y l k)) (λ e. e) (λ g. absurd (true≢false (sym h ∙ ap is_le g)))

  module _ (inside : Bool) where
    -- ---- what a splice between two cuts keeps, and how long it is
    module _ (a : List K) (s e : K) (from to : ℕ) (ps pe : Option K) (up : IsAscending order a) (less : order s e ≡ Less)
        (p : IsCut order inside a s from ps) (q : IsCut order inside a e to pe) where
      kept_low : (y : K) → Contains a y → order y s ≡ Less → Contains (spliced a from to ps pe) y
      kept_low y (k, within, is) low =
          elim (cases_lt k from) as (λ _. Contains (spliced a from to ps pe) y) [
            | inl before ↦
                Contains-append_left (take from a) (option_to_list ps ++ (option_to_list pe ++ drop to a)) y
                (k, omega (arith, before, length-take-le from a p.within), get_or-take from a k y before ∙ is)
            | inr after ↦
                let high : is_le (order s y) ≡ true = subst (λ z. is_le (order s z) ≡ true) is (p.from k y after within) in
                absurd (not_both y s low high)
          ]

      kept_high : (y : K) → Contains a y → order e y ≡ Less → Contains (spliced a from to ps pe) y
      kept_high y (k, within, is) high =
          elim (cases_lt k to) as (λ _. Contains (spliced a from to ps pe) y) [
            | inl before ↦
                let low : is_le (order y e) ≡ true = subst (λ z. is_le (order z e) ≡ true) is (q.before k y (omega arith) before) in
                absurd (not_both e y high low)
            | inr after ↦
                let there : to + (k - to) ≡ k = omega (arith, after) in
                Contains-append_right (take from a) (option_to_list ps ++ (option_to_list pe ++ drop to a)) y
                (Contains-append_right (option_to_list ps) (option_to_list pe ++ drop to a) y
                (Contains-append_right (option_to_list pe) (drop to a) y
                (k - to, omega (arith, length-drop to a, within, after), get_or-drop to a (k - to) y ∙ ap (λ j. get_or a j y) there ∙ is)))
          ]

      pub IsSet-spliced : (new : List K) → new ≡ spliced a from to ps pe → IsSet order inside a s e new
      IsSet-spliced new is = record {
        means = subst (λ items. Means order (range_table inside) items a (s ∷ e ∷ [])) (sym is)
            (subst (λ (b : List K). Means order (range_table inside) (spliced a from to ps pe) a b) (range_is o s e less) (Means-spliced o inside a s e from to ps pe up less p q));
        kept = subst (λ (items : List K). All (λ y. (order y s ≡ Less) ⊎ (order e y ≡ Less) → Contains items y) a) (sym is)
            (All-weaker (Contains a) (λ y. (order y s ≡ Less) ⊎ (order e y ≡ Less) → Contains (spliced a from to ps pe) y)
            (λ y has. ⊎_elim (kept_low y has) (kept_high y has)) a (All-contains_itself a));
      }

      -- an item of a cut that is put is equal to none
      start_is_new : (x : K) → ps ≡ Some x → All (λ y. order y s ≢ Equal) a
      start_is_new x is =
          let put : All (λ z. (z ≡ s) × All (λ y. order y s ≢ Equal) a) (x ∷ []) = subst (λ (z : Option K). All (λ z. (z ≡ s) × All (λ y. order y s ≢ Equal) a) (option_to_list z)) is p.is_put in
          (All-head (λ z. (z ≡ s) × All (λ y. order y s ≢ Equal) a) x [] put).1

      end_is_new : (x : K) → pe ≡ Some x → All (λ y. order y e ≢ Equal) a
      end_is_new x is =
          let put : All (λ z. (z ≡ e) × All (λ y. order y e ≢ Equal) a) (x ∷ []) = subst (λ (z : Option K). All (λ z. (z ≡ e) × All (λ y. order y e ≢ Equal) a) (option_to_list z)) is q.is_put in
          (All-head (λ z. (z ≡ e) × All (λ y. order y e ≢ Equal) a) x [] put).1

      -- both are put at one place only where nothing was settled
      unsettled : from ≡ to → (x y : K) → ps ≡ Some x → pe ≡ Some y → IsSettled order inside a s e → ⊥
      unsettled same x y ps_is pe_is (inl (z, (k, within, is), high, low)) =
          elim (cases_lt k from) as (λ _. ⊥) [
            | inl before ↦
                let below : is_le (order z s) ≡ true = subst (λ v. is_le (order v s) ≡ true) is (p.before k z (omega arith) before) in
                All-contains (λ y. order y s ≢ Equal) a z (start_is_new x ps_is) (k, within, is) (Equal-both z s below high)
            | inr after ↦
                let above : is_le (order e z) ≡ true = subst (λ v. is_le (order e v) ≡ true) is (q.from k z (omega (arith, after, same)) within) in
                All-contains (λ y. order y e ≢ Equal) a z (end_is_new y pe_is) (k, within, is) (Equal-both z e low above)
          ]
      unsettled same x y ps_is pe_is (inr is_member) =
          let counted : count_up_to order a s ≡ from = count_up_to-split order s a from p.within p.before
          (λ k d low high.
          by_Ordering (order (get_or a k d) s)
          (λ l. absurd (not_both (get_or a k d) s l (p.from k d low high)))
          (λ t. absurd (start_is_new x ps_is k d high t))
          (λ g. g)) in
          let one : from + length (option_to_list ps) ≡ suc from = omega (arith, ap (λ (z : Option K). length (option_to_list z)) ps_is) in
          other_than_itself (is_odd from) (sym (is_odd-suc from) ∙ sym (ap is_odd one) ∙ p.parity ∙ sym is_member ∙ ap is_odd counted)

      pub no_longer : IsSettled order inside a s e → length (spliced a from to ps pe) ≤ length a
      no_longer settled = by_puts ps pe refl refl
        where
          ordered : from ≤ to
          ordered = cuts_ordered o inside a s e from to ps pe up less p q

          long : length (spliced a from to ps pe) + (to - from) ≡ length a + (length (option_to_list ps) + length (option_to_list pe))
          long = length-spliced a from to ps pe ordered q.within

          alike : (from + length (option_to_list ps)) % 2 ≡ (to + length (option_to_list pe)) % 2
          alike = same_rest (from + length (option_to_list ps)) (to + length (option_to_list pe)) (p.parity ∙ sym q.parity)

          by_puts : (x y : Option K) → ps ≡ x → pe ≡ y → length (spliced a from to ps pe) ≤ length a
          by_puts None None i j = omega (arith, long, ap (λ (z : Option K). length (option_to_list z)) i, ap (λ (z : Option K). length (option_to_list z)) j)
          by_puts (Some x) None i j = omega (arith, long, alike, ordered, ap (λ (z : Option K). length (option_to_list z)) i, ap (λ (z : Option K). length (option_to_list z)) j)
          by_puts None (Some y) i j = omega (arith, long, alike, ordered, ap (λ (z : Option K). length (option_to_list z)) i, ap (λ (z : Option K). length (option_to_list z)) j)
          by_puts (Some x) (Some y) i j =
              elim (cases_lt from to) as (λ _. length (spliced a from to ps pe) ≤ length a) [
                | inl some ↦ omega (arith, long, alike, some, ap (λ (z : Option K). length (option_to_list z)) i, ap (λ (z : Option K). length (option_to_list z)) j)
                | inr none ↦
                    let same : from ≡ to = omega (arith, none, ordered) in
                    absurd (unsettled same x y i j settled)
              ]
