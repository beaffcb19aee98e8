-- Steps that move down where they stay, as steps that are put one by one.
use Rattle.std.proofs.Common.{◌≡◌, ap₂, subst, ℕ, ◌+◌, ◌-◌, ◌<◌, ◌≤◌, zero, suc, inl, inr, Bool, true, false, Option, None, List, [], ◌∷◌, ◌++◌, length, take, drop, set, get_or, sym, ap, ◌∙◌, refl, arith}
use Rattle.std.proofs.lemmas.Bool.{cases_lt}
use Rattle.std.proofs.lemmas.List.{take-map, get_or-map, drop-drop, drop-set-lt, length-set, length-take-le, get_or-drop, get_or-set_same, get_or-take, take-set-le, take_more_set}
use Rattle.std.proofs.lemmas.List.Edits.{swap_is}
use Rattle.std.specs.List.{swap}
use Rattle.std.specs.Option.{option_eq}
use Rattle.std.specs.Cmp.{IsTotalOrder}
use Rattle.std.specs.declared.cmp.Ordering.{Ordering}
use Rattle.range_merge.proofs.Orders.{Equal-self}
use Rattle.std.specs.Cmp.{IsEquivalence}
use Rattle.std.specs.Cmp.Lexicographic.{options_equiv}
use Rattle.range_merge.specs.Boundaries.{IsAscending}
use Rattle.range_collections.proofs.Ascending.{IsAscending-nil}
use Rattle.range_map.specs.Steps.{Steps, value_at, AreAlike}
use Rattle.range_map.specs.Combining.{IsPut, IsMadeUpTo}
use Rattle.range_map.specs.Listed.{steps_of}
use Rattle.range_collections.specs.declared.range_set_range.RangeSetRange.{RangeSetRange}
use Rattle.range_map.specs.Updated.{kept, kept_at, kept_steps, IsRetained}
use Rattle.range_map.specs.declared.step.Step.{Step}
use Rattle.range_map.proofs.Pushed.{IsPut-left_out, IsPut-behind}
use Rattle.range_map.proofs.Along.{get_or-behind_first, read-along}
use Rattle.range_map.proofs.Filtered.{among-along, kept-along, keys-kept, length-kept, kept-same}
use Rattle.range_map.proofs.Listed.{length-keys, length-options}
use Rattle.range_map.proofs.MadeUpTo.{IsMadeUpTo-nothing, IsMadeUpTo-left, IsCombined-made}

module _ {X : Type 0} (xs : List X) (len i : ℕ) (ordered : len ≤ i) (within : i < length xs) (d : X) where
  swap-sets : swap xs len i ≡ set (set xs len (get_or xs i d)) i (get_or xs len d)
  swap-sets = sym (swap_is xs len i d (omega (arith, ordered, within)) within)

  -- the item at place i is moved down
  pub take-swap : take (len + 1) (swap xs len i) ≡ take len xs ++ get_or xs i d ∷ []
  take-swap =
      rw swap-sets
      (elim (cases_lt len i) as (λ _. take (len + 1) (set (set xs len (get_or xs i d)) i (get_or xs len d)) ≡ take len xs ++ get_or xs i d ∷ []) [
        | inl less ↦
            take-set-le (len + 1) (set xs len (get_or xs i d)) i (get_or xs len d) (omega (arith, less))
            ∙ take_more_set xs len (get_or xs i d) (omega (arith, ordered, within))
        | inr more ↦
            let same : i ≡ len = omega (arith, ordered, more) in
            rw same
            (take_more_set (set xs len (get_or xs len d)) len (get_or xs len d) (omega (arith, within, ordered, length-set xs len (get_or xs len d)))
            ∙ ap (λ ys. ys ++ get_or xs len d ∷ []) (take-set-le len xs len (get_or xs len d) (omega arith)))
      ])

  -- those behind it stay
  pub drop-swap : drop (i + 1) (swap xs len i) ≡ drop (i + 1) xs
  drop-swap =
      ap (drop (i + 1)) swap-sets
      ∙ drop-set-lt (i + 1) (set xs len (get_or xs i d)) i (get_or xs len d) (omega arith)
      ∙ drop-set-lt (i + 1) xs len (get_or xs i d) (omega (arith, ordered))

pub item_at : {X : Type 0} (xs : List X) (n : ℕ) → n < length xs → (x : X) × (get_or xs n x ≡ x)
item_at [] n within = absurd (omega (arith, within))
item_at (x ∷ xs) zero within = (x, refl)
item_at (x ∷ xs) (suc n) within = item_at xs n (omega (arith, within))

-- what stands from a place on, stands at it
pub get_or-from_drop : {X : Type 0} (xs ys : List X) (n : ℕ) (d : X) → drop n xs ≡ drop n ys → get_or xs n d ≡ get_or ys n d
get_or-from_drop xs ys n d h =
    let none : n + 0 ≡ n = omega arith in
    ap (λ m. get_or xs m d) (sym none) ∙ sym (get_or-drop n xs 0 d) ∙ ap (λ zs. get_or zs 0 d) h ∙ get_or-drop n ys 0 d ∙ ap (λ m. get_or ys m d) none

-- and so does what stands from the next one on
pub later : {X : Type 0} (xs ys : List X) (n : ℕ) → drop n xs ≡ drop n ys → drop (n + 1) xs ≡ drop (n + 1) ys
later xs ys n h = sym (drop-drop 1 n xs) ∙ ap (drop 1) h ∙ drop-drop 1 n ys

-- a step that is moved down, or left out, as one that is put behind those before
module _ {K V : Type 0} (order : K → K → Ordering) (o : IsTotalOrder order) (E : V → V → Bool) (items : List (Step K V)) (n i : ℕ)
    (ordered : n ≤ i) (within : i < length items) (test : RangeSetRange K × V → Bool) (d : Step K V) where
  abbrev kept_one : Step K V
  kept_one = kept_at test items i d

  abbrev changed : List (Step K V)
  changed = set items i kept_one

  front : take n changed ≡ take n items
  front = take-set-le n items i kept_one ordered

  front-len : n ≡ length (take n items)
  front-len = sym (length-take-le n items (omega (arith, ordered, within)))

  last-option : get_or (None ∷ (steps_of (take n items)).options) n None ≡ get_or (None ∷ (steps_of changed).options) n None
  last-option =
      ap (λ (xs : List (Step K V)). get_or (None ∷ (steps_of xs).options) n None) (sym front)
      ∙ ap (λ ws. get_or (None ∷ ws) n None) (sym (take-map (λ (s : Step K V). s.option) n changed))
      ∙ get_or-take (suc n) (None ∷ (steps_of changed).options) n None (omega arith)

  own-option : get_or (steps_of changed).options i None ≡ kept_one.option
  own-option =
      get_or-map (λ (s : Step K V). s.option) changed i d None (omega (arith, within, length-set items i kept_one))
      ∙ ap (λ (s : Step K V). s.option) (get_or-set_same items i kept_one d within)

  compared : (b : Bool) → b ≡ option_eq E (get_or (None ∷ (steps_of changed).options) n None) (get_or (steps_of changed).options i None) →
      option_eq E (get_or (None ∷ (steps_of (take n items)).options) n None) kept_one.option ≡ b
  compared b h = ap₂ (option_eq E) last-option (sym own-option) ∙ sym h

  pub IsPut-stays : (b : Bool) → b ≡ option_eq E (get_or (None ∷ (steps_of changed).options) n None) (get_or (steps_of changed).options i None) → b ≡ true →
      (new : List (Step K V)) → new ≡ changed → IsPut order E (steps_of (take n items)) kept_one.key kept_one.option (steps_of (take n new))
  IsPut-stays b h on new is =
      subst (λ (xs : List (Step K V)). IsPut order E (steps_of (take n items)) kept_one.key kept_one.option (steps_of xs)) (sym (ap (take n) is ∙ front))
      (IsPut-left_out order o E (take n items) kept_one.key kept_one.option n front-len (compared b h ∙ on))

  pub IsPut-moved : (b : Bool) → b ≡ option_eq E (get_or (None ∷ (steps_of changed).options) n None) (get_or (steps_of changed).options i None) → b ≡ false →
      (new : List (Step K V)) → new ≡ swap changed n i → IsPut order E (steps_of (take n items)) kept_one.key kept_one.option (steps_of (take (n + 1) new))
  IsPut-moved b h off new is =
      IsPut-behind order o E (take n items) kept_one.key kept_one.option n front-len (compared b h ∙ off) kept_one.key (Equal-self o kept_one.key) (take (n + 1) new)
      (ap (take (n + 1)) is ∙ take-swap changed n i ordered (omega (arith, within, length-set items i kept_one)) d
      ∙ ap₂ (λ xs s. xs ++ s ∷ []) front (get_or-set_same items i kept_one d within))

  pub later-stays : (new : List (Step K V)) → new ≡ changed → drop (i + 1) new ≡ drop (i + 1) items
  later-stays new is = ap (drop (i + 1)) is ∙ drop-set-lt (i + 1) items i kept_one (omega arith)

  pub later-moved : (new : List (Step K V)) → new ≡ swap changed n i → drop (i + 1) new ≡ drop (i + 1) items
  later-moved new is =
      ap (drop (i + 1)) is ∙ drop-swap changed n i ordered (omega (arith, within, length-set items i kept_one)) d ∙ drop-set-lt (i + 1) items i kept_one (omega arith)

  pub len-stays : (new : List (Step K V)) → new ≡ changed → length new ≡ length items
  len-stays new is = ap length is ∙ length-set items i kept_one

  pub len-moved : (new : List (Step K V)) → new ≡ swap changed n i → length new ≡ length items
  len-moved new is =
      ap length is
      ∙ ap length (sym (swap_is changed n i d (omega (arith, ordered, within, length-set items i kept_one)) (omega (arith, within, length-set items i kept_one))))
      ∙ length-set (set changed n (get_or changed i d)) i (get_or changed n d) ∙ length-set changed n (get_or changed i d) ∙ length-set items i kept_one

-- one more step of a list is read, as far as what was made of those that are kept
module _ {K V : Type 0} (order : K → K → Ordering) (o : IsTotalOrder order) (E : V → V → Bool) (e : IsEquivalence E) (test : RangeSetRange K × V → Bool)
    (old items : List (Step K V)) (i : ℕ) (ascending : IsAscending order (steps_of old).keys) where
  abbrev nothing : Steps K (Unit {0})
  nothing = record { keys = []; options = [] }

  abbrev all : List (Step K V)
  all = kept_steps test old

  all-ascend : IsAscending order (steps_of all).keys
  all-ascend = subst (IsAscending order) (sym (keys-kept test old)) ascending

  pub IsMadeUpTo-kept : (made new : Steps K V) (d : Step K V) → IsMadeUpTo order E (λ p q. p) (steps_of all) nothing i 0 made →
      IsPut order E made (get_or items i d).key (kept_at test items i d).option new → i < length old → drop i items ≡ drop i old →
      IsMadeUpTo order E (λ p q. p) (steps_of all) nothing (i + 1) 0 new
  IsMadeUpTo-kept made new d up_to put more same =
      let s : Step K V = kept_at test items i d in
      let within_all : i < length all = omega (arith, more, length-kept test old) in
      let within : i < length (steps_of all).keys = omega (arith, within_all, length-keys all) in
      let read : s ≡ get_or all i d = kept-same test old items i d same more in
      let key_is : s.key ≡ get_or (steps_of all).keys i s.key = ap (λ (t : Step K V). t.key) read ∙ sym (get_or-map (λ (t : Step K V). t.key) all i d s.key within_all) in
      let option_is : get_or (None ∷ (steps_of all).options) (i + 1) None ≡ s.option =
      get_or-behind_first None (steps_of all).options (i + 1) None (omega arith) ∙ one (steps_of all).options
      ∙ get_or-map (λ (t : Step K V). t.option) all i d None within_all ∙ sym (ap (λ (t : Step K V). t.option) read) in
      IsMadeUpTo-left order o E e (λ p q. p) (steps_of all) nothing all-ascend (IsAscending-nil order) i 0 (omega (arith, within)) (omega arith) made new
      s.key s.option up_to put within key_is (λ m f low high. absurd (omega (arith, high)))
      (ap (λ r. option_eq E s.option r) option_is ∙ (options_equiv e).refl s.option)
    where
      one : (ws : List (Option V)) → get_or ws (i + 1 - 1) None ≡ get_or ws i None
      one ws = let same : i + 1 - 1 ≡ i = omega arith in ap (λ n. get_or ws n None) same

  pub nothing-made : (made : Steps K V) → made.keys ≡ [] → made.options ≡ [] → IsMadeUpTo order E (λ p q. p) (steps_of all) nothing 0 0 made
  nothing-made made keys options = IsMadeUpTo-nothing order o E e (λ p q. p) (steps_of all) nothing refl made keys options

  pub all-kept : (made : Steps K V) → length old ≤ i → i ≤ length old → IsMadeUpTo order E (λ p q. p) (steps_of all) nothing i 0 made →
      IsRetained order E test (steps_of old) made
  all-kept made past within up_to x =
      let end : i ≡ length (steps_of all).keys = omega (arith, past, within, length-kept test old, length-keys all) in
      let along_all = read-along order o None None (steps_of all).keys (steps_of all).options x all-ascend (length-options all ∙ sym (length-keys all)) in
      ap (option_eq E (value_at order made x)) (among-along order o test old x ascending ∙ sym along_all)
      ∙ IsCombined-made order o E e (λ p q. p) (steps_of all) nothing made
      (subst (λ (n : ℕ). IsMadeUpTo order E (λ p q. p) (steps_of all) nothing n 0 made) end up_to) x

-- where the test looks at values alone
pub kept-by_value : {K V : Type 0} (order : K → K → Ordering) (o : IsTotalOrder order) (E : V → V → Bool) (test : V → Bool) (items : List (Step K V)) (r : Steps K V) →
    IsAscending order (steps_of items).keys → IsRetained order E (λ e. test e.1) (steps_of items) r →
    (x : K) → AreAlike E (value_at order r x) (kept test (value_at order (steps_of items) x))
kept-by_value order o E test items r ascending h x =
    ap (option_eq E (value_at order r x))
    (ap (kept test) (read-along order o None None (steps_of items).keys (steps_of items).options x ascending (length-options items ∙ sym (length-keys items)))
    ∙ sym (kept-along order test None items x) ∙ sym (among-along order o (λ e. test e.1) items x ascending))
    ∙ h x
