-- The rest of a map's steps behind a range that was given one option: one may stand at the end of
-- the range, and those above it stay.
use Rattle.std.proofs.Common.{◌≡◌, ℕ, ◌≤◌, Bool, true, false, cond, None, Some, Option, List, [], ◌∷◌, ◌++◌, length, drop, get_or, refl, sym, ap, ap₂, ◌∙◌, All, arith, true≢false}
use Rattle.std.specs.List.{AllWithin}
use Rattle.std.specs.Option.{option_to_list}
use Rattle.std.specs.Cmp.{IsTotalOrder, IsEquivalence}
use Rattle.std.proofs.lemmas.List.{length-drop}
use Rattle.std.proofs.lemmas.List.Elements.{All-cons}
use Rattle.std.specs.declared.cmp.Ordering.{Ordering}
use Rattle.std.specs.declared.cmp.Ordering.TheVariants.{Less, Greater}
use Rattle.std.specs.Ordering.{is_le, is_lt}
use Rattle.range_merge.specs.Boundaries.{IsAscending}
use Rattle.range_merge.proofs.Members.{by_Ordering}
use Rattle.range_merge.proofs.Orders.{Greater-from_less, Less-from_greater, Equal-sym}
use Rattle.range_merge.proofs.Pairs.{AllPairs-drop}
use Rattle.range_collections.proofs.Ascending.{Less-from_is_lt, IsAscending-cons}
use Rattle.range_collections.proofs.Shortest.{le-trans, le-from_greater}
use Rattle.range_collections.proofs.Cut.{All-take_within, All-drop_within}
use Rattle.range_map.specs.Places.{IsUpToEnd, IsAboveEnd, needs_end}
use Rattle.range_map.proofs.Along.{along, along-in, along-out, along-below, along-front}
use Rattle.range_map.proofs.Differing.{Differ, Differ-drop, Differ-alike, not-true, not-false}
use Rattle.range_map.proofs.FromStart.{IsRest, along-equal, along-cut}

pub not_before : {K : Type 0} (order : K → K → Ordering) (o : IsTotalOrder order) (x end : K) → is_lt (order x end) ≡ false → is_le (order end x) ≡ true
not_before order o x end h =
    by_Ordering (order x end)
    (λ r. absurd (true≢false (sym (ap is_lt r) ∙ h)))
    (λ r. ap is_le (Equal-sym o x end r))
    (λ r. le-from_greater o x end r)

no_items : {X : Type 0} (xs : List X) → All (λ x. ⊥) xs → length xs ≡ 0
no_items [] h = refl
no_items (x ∷ xs) h = absurd (h 0 x (omega arith))

Differ-nothing : {W : Type 0} (E : W → W → Bool) (v : W) (us : List W) → length us ≡ 0 → Differ E v us
Differ-nothing E v [] h = tt
Differ-nothing E v (u ∷ us) h = absurd (omega (arith, h))

module _ {K W : Type 0} (order : K → K → Ordering) (E : W → W → Bool) (o : IsTotalOrder order) (e : IsEquivalence E)
    (p : W) (ks : List K) (ws : List W) (up : IsAscending order ks) (same : length ws ≡ length ks) (differs : Differ E p ws)
    (start : K) (to : ℕ) (to_in : to ≤ length ks) (v : W) where
  -- the option before place `to`
  abbrev at : W
  at = get_or (p ∷ ws) to p

  same_back : length (drop to ws) ≡ length (drop to ks)
  same_back = omega (arith, same, length-drop to ws, length-drop to ks)

  differ_back : Differ E at (drop to ws)
  differ_back = Differ-drop E p p to ws (omega (arith, same, to_in)) differs

  module _ (end : K) (less : order start end ≡ Less)
      (up_to : AllWithin (λ y. is_le (order y end) ≡ true) ks 0 to) (above : AllWithin (λ y. order y end ≡ Greater) ks to (length ks)) where
    back_above : All (λ k. order end k ≡ Less) (drop to ks)
    back_above k d within = Less-from_greater o _ end (All-drop_within order (λ y. order y end ≡ Greater) to ks to_in above k d within)

    -- at or above the end, the old reading goes on from the option before place `to`
    goes_on : (x : K) → is_le (order end x) ≡ true → along order p ks ws x ≡ along order at (drop to ks) (drop to ws) x
    goes_on x h =
        along-cut order E o e p ks ws up same to x to_in
        ∙ ap (λ q. along order q (drop to ks) (drop to ws) x)
        (along-front order p p to ks ws x to_in same (λ i d within. le-trans o _ end x (All-take_within order (λ y. is_le (order y end) ≡ true) to ks to_in up_to i d within) h))

    pub IsRest-put : (after : W) → E at v ≡ false → E after at ≡ true → IsRest order E p ks ws start (Some end) v (end ∷ drop to ks) (after ∷ drop to ws)
    IsRest-put after other alike =
        record {
          ascending = IsAscending-cons order end (drop to ks) back_above (AllPairs-drop (λ x y. order x y ≡ Less) to ks up);
          one_each = omega (arith, same_back);
          above = All-cons (λ k. order start k ≡ Less) end (drop to ks) less (λ k d within. o.trans start end _ less (back_above k d within));
          differ = (e.symm v after ∙ e.congr after at v alike ∙ other, Differ-alike E e at after (drop to ws) (e.symm at after ∙ alike) differ_back);
          inside = λ x h l. ap (λ q. E q v) (along-out order v end (drop to ks) after (drop to ws) x (Greater-from_less o x end (Less-from_is_lt (order x end) l))) ∙ e.refl v;
          behind = λ x h l.
              let f = not_before order o x end l in
              ap₂ E (along-in order v end (drop to ks) after (drop to ws) x f) (goes_on x f)
              ∙ along-equal order E o e after at (drop to ks) (drop to ws) x alike;
        }

    pub IsRest-kept : E at v ≡ true → IsRest order E p ks ws start (Some end) v (drop to ks) (drop to ws)
    IsRest-kept alike =
        record {
          ascending = AllPairs-drop (λ x y. order x y ≡ Less) to ks up;
          one_each = same_back;
          above = λ k d within. o.trans start end _ less (back_above k d within);
          differ = Differ-alike E e at v (drop to ws) alike differ_back;
          inside = λ x h l.
              ap (λ q. E q v)
              (along-below order v (drop to ks) (drop to ws) x (λ i d within. Greater-from_less o x _ (o.trans x end _ (Less-from_is_lt (order x end) l) (back_above i d within))))
              ∙ e.refl v;
          behind = λ x h l.
              ap (E (along order v (drop to ks) (drop to ws) x)) (goes_on x (not_before order o x end l))
              ∙ along-equal order E o e v at (drop to ks) (drop to ws) x (e.symm v at ∙ alike);
        }

  pub IsRest-endless : AllWithin (λ y. ⊥) ks to (length ks) → IsRest order E p ks ws start None v (drop to ks) (drop to ws)
  IsRest-endless above =
      let none : All (λ y. ⊥) (drop to ks) = All-drop_within order (λ y. ⊥) to ks to_in above in
      let no_keys : length (drop to ks) ≡ 0 = no_items (drop to ks) none in
      record {
        ascending = AllPairs-drop (λ x y. order x y ≡ Less) to ks up;
        one_each = same_back;
        above = λ k d within. absurd (none k d within);
        differ = Differ-nothing E v (drop to ws) (same_back ∙ no_keys);
        inside = λ x h l. ap (λ q. E q v) (along-below order v (drop to ks) (drop to ws) x (λ i d within. absurd (none i d within))) ∙ e.refl v;
        behind = λ x h l. absurd (true≢false l);
      }

  pub IsRest-any : (end : Option K) (c : Bool) (after : W) → ((z : K) → end ≡ Some z → order start z ≡ Less) →
      AllWithin (IsUpToEnd order end) ks 0 to → AllWithin (IsAboveEnd order end) ks to (length ks) →
      c ≡ needs_end E end v (get_or (p ∷ ws) to p) → (c ≡ true → E after (get_or (p ∷ ws) to p) ≡ true) →
      IsRest order E p ks ws start end v (option_to_list (cond c end None) ++ drop to ks) (option_to_list (cond c (Some after) None) ++ drop to ws)
  IsRest-any None true after some up_to above is alike = absurd (true≢false is)
  IsRest-any None false after some up_to above is alike = IsRest-endless above
  IsRest-any (Some z) true after some up_to above is alike = IsRest-put z (some z refl) up_to above after (not-true E e (E at v) is) (alike refl)
  IsRest-any (Some z) false after some up_to above is alike = IsRest-kept z (some z refl) up_to above (not-false E e (E at v) is)
