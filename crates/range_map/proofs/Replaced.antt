-- A map after a range was given one option.
use Rattle.std.proofs.Common.{◌≡◌, ◌+◌, ◌-◌, ◌<◌, ◌≤◌, ◌⊎◌, inl, inr, Bool, true, false, cond, Option, None, Some, List, ◌∷◌, ◌++◌, length, drop, get_or, nat_lt, refl, sym, ap, ap₂, ◌∙◌, arith, true≢false}
use Rattle.std.proofs.lemmas.Bool.{cases_lt}
use Rattle.std.proofs.lemmas.Bool.Decides.{Decides-ltb}
use Rattle.std.specs.Option.{option_to_list, option_eq}
use Rattle.std.specs.Cmp.{IsTotalOrder, IsEquivalence}
use Rattle.std.specs.Cmp.Lexicographic.{options_equiv}
use Rattle.std.proofs.lemmas.List.Elements.{length_all_zip}
use Rattle.std.specs.declared.cmp.Ordering.{Ordering}
use Rattle.std.specs.declared.cmp.Ordering.TheVariants.{Less, Equal, Greater}
use Rattle.range_collections.specs.Splicing.{spliced}
use Rattle.range_map.specs.Steps.{Steps, value_at, AreAlike, IsCanonical}
use Rattle.range_map.specs.Changed.{IsSetTo, FitsAfter, is_in_range}
use Rattle.range_map.specs.Places.{Span, ArePlaces, after_range, put_len, IsAboveEnd, needs_end}
use Rattle.range_map.proofs.Along.{along, value_at-along}
use Rattle.range_map.proofs.Differing.{Differ, Differ-from_adjacent, AllAdjacent-from_differ}
use Rattle.range_map.proofs.Uniqueness.{AreEqualSteps-from_same}
use Rattle.range_map.proofs.FromStart.{IsRest, ascending, one_each, differ, values}
use Rattle.range_map.proofs.UpToEnd.{IsRest-any}
use Rattle.range_map.proofs.Spliced.{length-spliced}

-- where no more steps are put than give way, some step gives way or none is put at the end
pub no_copy : (places : Span) → put_len places ≤ places.to - places.from → (places.from < places.to) ⊎ (places.ends ≡ false)
no_copy places h =
    elim (cases_lt places.from places.to) as (λ _. (places.from < places.to) ⊎ (places.ends ≡ false)) [
      | inl less ↦ inl less
      | inr more ↦ inr (not_put places.starts places.ends (omega (arith, h, more)))
    ]
  where
    not_put : (b c : Bool) → cond b 1 0 + cond c 1 0 ≤ 0 → c ≡ false
    not_put b false h = refl
    not_put true true h = absurd (omega (arith, h))
    not_put false true h = absurd (omega (arith, h))

-- the option moved or copied to the end is like the one that held there
pub after_range-alike : {V : Type 0} (E : V → V → Bool) → IsEquivalence E → (options : List (Option V)) (places : Span) (copied : Option V) →
    places.from ≤ places.to → (places.from ≡ places.to → places.ends ≡ true → AreAlike E copied (get_or (None ∷ options) places.to None)) →
    places.ends ≡ true → AreAlike E (after_range options places copied) (get_or (None ∷ options) places.to None)
after_range-alike {V} E e options places copied ordered copy ends =
    by_bool (nat_lt places.from places.to)
    (λ h. ap (λ b. option_eq E (cond b at copied) at) h ∙ (options_equiv e).refl at)
    (λ h. ap (λ b. option_eq E (cond b at copied) at) h ∙ copy (same h) ends)
  where
    at : Option V
    at = get_or (None ∷ options) places.to None

    by_bool : {G : Type 0} (c : Bool) → (c ≡ true → G) → (c ≡ false → G) → G
    by_bool true t f = t refl
    by_bool false t f = f refl

    same : nat_lt places.from places.to ≡ false → places.from ≡ places.to
    same h =
        elim (cases_lt places.from places.to) as (λ _. places.from ≡ places.to) [
          | inl less ↦ absurd (true≢false (sym ((Decides-ltb places.from places.to).1 less) ∙ h))
          | inr more ↦ omega (arith, ordered, more)
        ]

module _ {K V : Type 0} (order : K → K → Ordering) (o : IsTotalOrder order) (E : V → V → Bool) (e : IsEquivalence E)
    (m : Steps K V) (canonical : IsCanonical order E m)
    (start : K) (end : Option K) (some : (z : K) → end ≡ Some z → order start z ≡ Less) (option : Option V)
    (places : Span) (are : ArePlaces order E m start end option places) where
  -- no key is below the start and above the end
  pub places_ordered : places.from ≤ places.to
  places_ordered =
      elim (cases_lt places.to places.from) as (λ _. places.from ≤ places.to) [
        | inl h ↦
            let k : K = get_or m.keys places.to start in
            absurd (crossed end some (are.above places.to start (omega arith) (omega (arith, h, are.from_in))) (are.below places.to start (omega arith) h))
        | inr h ↦ omega (arith, h)
      ]
    where
      crossed : (end : Option K) → ((z : K) → end ≡ Some z → order start z ≡ Less) → IsAboveEnd order end (get_or m.keys places.to start) →
          order (get_or m.keys places.to start) start ≡ Less → ⊥
      crossed None some above below = above
      crossed (Some z) some above below =
          let less = o.trans (get_or m.keys places.to start) start z below (some z refl) in
          let off : Less ≡ Greater = sym less ∙ above in
          absurd (cc)

  module _ (after : Option V) (after_is : places.ends ≡ true → AreAlike E after (get_or (None ∷ m.options) places.to None)) (new : Steps K V)
      (keys_are : new.keys ≡ spliced m.keys places.from places.to (cond places.starts (Some start) None) (cond places.ends end None))
      (options_are : new.options ≡ spliced m.options places.from places.to (cond places.starts (Some option) None) (cond places.ends (Some after) None)) where
    differs : Differ (option_eq E) None m.options
    differs = Differ-from_adjacent (option_eq E) None m.options canonical.changes

    rest : IsRest order (option_eq E) None m.keys m.options start end option
        (option_to_list (cond places.ends end None) ++ drop places.to m.keys) (option_to_list (cond places.ends (Some after) None) ++ drop places.to m.options)
    rest =
        IsRest-any order (option_eq E) o (options_equiv e) None m.keys m.options canonical.ascending canonical.one_each differs start places.to are.to_in option
        end places.ends after some are.up_to are.above are.ends after_is

    pub IsCanonical-set : IsCanonical order E new
    IsCanonical-set =
        record {
          ascending = rw keys_are (ascending order (option_eq E) o (options_equiv e) None m.keys m.options canonical.ascending canonical.one_each differs start end places.from are.from_in are.below are.at_least option places.starts are.starts _ _ rest);
          one_each = rw (keys_are, options_are) (one_each order (option_eq E) o (options_equiv e) None m.keys m.options canonical.ascending canonical.one_each differs start end places.from are.from_in are.below are.at_least option places.starts are.starts _ _ rest);
          changes = AllAdjacent-from_differ (option_eq E) None new.options
              (rw options_are (differ order (option_eq E) o (options_equiv e) None m.keys m.options canonical.ascending canonical.one_each differs start end places.from are.from_in are.below are.at_least option places.starts are.starts _ _ rest));
        }

    pub IsSetTo-set : IsSetTo order E start end option m new
    IsSetTo-set x =
        ap₂ (λ p q. option_eq E p (cond (is_in_range order start end x) option q))
        (value_at-along order o E new x IsCanonical-set ∙ ap₂ (λ ks ws. along order None ks ws x) keys_are options_are)
        (value_at-along order o E m x canonical)
        ∙ values order (option_eq E) o (options_equiv e) None m.keys m.options canonical.ascending canonical.one_each differs start end places.from are.from_in are.below are.at_least option places.starts are.starts _ _ rest x

  module _ (fits : FitsAfter order E start end option m) where
    -- the map that is put together from options that are there has as many steps as any other
    abbrev fitting : Steps K V
    fitting =
        record {
          keys = spliced m.keys places.from places.to (cond places.starts (Some start) None) (cond places.ends end None);
          options = spliced m.options places.from places.to (cond places.starts (Some option) None) (cond places.ends (Some (get_or (None ∷ m.options) places.to None)) None);
        }

    alike_itself : AreAlike E (get_or (None ∷ m.options) places.to None) (get_or (None ∷ m.options) places.to None)
    alike_itself = (options_equiv e).refl (get_or (None ∷ m.options) places.to None)

    as_long : length fitting.keys ≡ length fits.after.keys
    as_long =
        let canonical_f = IsCanonical-set (get_or (None ∷ m.options) places.to None) (λ _. alike_itself) fitting refl refl in
        let set_f = IsSetTo-set (get_or (None ∷ m.options) places.to None) (λ _. alike_itself) fitting refl refl in
        length_all_zip (λ x y. order x y ≡ Equal) fitting.keys fits.after.keys
        (AreEqualSteps-from_same order o E e fitting fits.after canonical_f fits.canonical
        (λ x. (options_equiv e).congr (value_at order fitting x) (cond (is_in_range order start end x) option (value_at order m x)) (value_at order fits.after x) (set_f x)
        ∙ (options_equiv e).symm (cond (is_in_range order start end x) option (value_at order m x)) (value_at order fits.after x) ∙ fits.values x)).0

    put_is : (b c : Bool) (end : Option K) (after : Option V) → c ≡ needs_end (option_eq E) end option after →
        length (option_to_list (cond b (Some start) None)) + length (option_to_list (cond c end None)) ≡ cond b 1 0 + cond c 1 0
    put_is b true None after h = absurd (true≢false h)
    put_is true true (Some z) after h = refl
    put_is false true (Some z) after h = refl
    put_is true false end after h = refl
    put_is false false end after h = refl

    pub put_len-fits : put_len places ≤ places.to - places.from
    put_len-fits =
        omega (
          arith,
          places_ordered,
          are.to_in,
          as_long,
          fits.no_longer,
          put_is places.starts places.ends end (get_or (None ∷ m.options) places.to None) are.ends,
          length-spliced m.keys places.from places.to (cond places.starts (Some start) None) (cond places.ends end None) places_ordered are.to_in,
        )
