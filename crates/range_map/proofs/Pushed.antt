-- Steps put at the end of a list, and copies of steps.
use Rattle.std.proofs.Common.{◌≡◌, ◌∷◌, ◌++◌, [], ℕ, Bool, true, false, not, Option, None, List, length, get_or, sym, ap, ◌∙◌, All}
use Rattle.std.proofs.lemmas.List.{append-nil, map-append}
use Rattle.std.specs.List.{AllZip}
use Rattle.std.specs.Option.{option_eq}
use Rattle.std.specs.Cmp.{IsTotalOrder, IsEquivalence}
use Rattle.std.specs.declared.cmp.Ordering.{Ordering}
use Rattle.std.specs.declared.cmp.Ordering.TheVariants.{Less, Equal}
use Rattle.range_merge.proofs.Orders.{Equal-self, Less-then_equal}
use Rattle.range_collections.proofs.Unions.{copies_are_equal}
use Rattle.range_map.specs.Steps.{AreAlike, AreEqualSteps, IsCanonical}
use Rattle.range_map.specs.Combining.{IsPut}
use Rattle.range_map.specs.Listed.{steps_of}
use Rattle.range_map.specs.declared.step.Step.{Step}
use Rattle.range_map.proofs.Listed.{length-options}
use Rattle.range_map.proofs.MadeUpTo.{IsCanonical-put}

module _ {K V : Type 0} where
  pub keys-push : (xs ys : List (Step K V)) (s : Step K V) → ys ≡ xs ++ s ∷ [] → (steps_of ys).keys ≡ (steps_of xs).keys ++ s.key ∷ []
  keys-push xs ys s is = ap (λ (zs : List (Step K V)). (steps_of zs).keys) is ∙ map-append (λ (t : Step K V). t.key) xs (s ∷ [])

  pub options-push : (xs ys : List (Step K V)) (s : Step K V) → ys ≡ xs ++ s ∷ [] → (steps_of ys).options ≡ (steps_of xs).options ++ s.option ∷ []
  options-push xs ys s is = ap (λ (zs : List (Step K V)). (steps_of zs).options) is ∙ map-append (λ (t : Step K V). t.option) xs (s ∷ [])

  module _ (order : K → K → Ordering) (o : IsTotalOrder order) (E : V → V → Bool) (xs : List (Step K V)) (key : K) (p : Option V) (n : ℕ) (all : n ≡ length xs) where
    last_is : (b : Bool) → option_eq E (get_or (None ∷ (steps_of xs).options) n None) p ≡ b → not b ≡ not (option_eq E (get_or (None ∷ (steps_of xs).options) (length (steps_of xs).options) None) p)
    last_is b h =
        let e : n ≡ length (steps_of xs).options = all ∙ sym (length-options xs) in
        ap not (sym h ∙ ap (λ k. option_eq E (get_or (None ∷ (steps_of xs).options) k None) p) e)

    -- a step is left out whose option is like the last one
    pub IsPut-left_out : option_eq E (get_or (None ∷ (steps_of xs).options) n None) p ≡ true → IsPut order E (steps_of xs) key p (steps_of xs)
    IsPut-left_out h = record {
      key_put = key;
      is_put = false;
      equal = Equal-self o key;
      differs = last_is true h;
      keys_are = sym (append-nil (steps_of xs).keys);
      options_are = sym (append-nil (steps_of xs).options);
    }

    -- another one is put behind the others
    pub IsPut-behind : option_eq E (get_or (None ∷ (steps_of xs).options) n None) p ≡ false → (k : K) → order key k ≡ Equal → (ys : List (Step K V)) →
        ys ≡ xs ++ record { key = k; option = p } ∷ [] → IsPut order E (steps_of xs) key p (steps_of ys)
    IsPut-behind h k same ys is = record {
      key_put = k;
      is_put = true;
      equal = same;
      differs = last_is false h;
      keys_are = keys-push xs ys (record { key = k; option = p }) is;
      options_are = options-push xs ys (record { key = k; option = p }) is;
    }

  pub IsCanonical-behind : (order : K → K → Ordering) (o : IsTotalOrder order) (E : V → V → Bool) (e : IsEquivalence E) (xs : List (Step K V)) (key : K) (p : Option V) (n : ℕ) (all : n ≡ length xs) →
      option_eq E (get_or (None ∷ (steps_of xs).options) n None) p ≡ false → (k : K) → order key k ≡ Equal → (ys : List (Step K V)) →
      ys ≡ xs ++ record { key = k; option = p } ∷ [] → IsCanonical order E (steps_of xs) → All (λ y. order y key ≡ Less) (steps_of xs).keys → IsCanonical order E (steps_of ys)
  unfolding IsPut-behind
  IsCanonical-behind order o E e xs key p n all h k same ys is canonical below =
      IsCanonical-put order o E e (steps_of xs) (steps_of ys) key p canonical (IsPut-behind order o E xs key p n all h k same ys is)
      (λ m d within. Less-then_equal o (get_or (steps_of xs).keys m d) key k (below m d within) same)

  -- of copies of steps, step by step
  module _ (C : K → K → Type 0) (E : V → V → Bool) where
    abbrev pub IsCopy : Step K V → Step K V → Type 0
    IsCopy s t = C s.key t.key × AreAlike E s.option t.option

    pub copied_keys : (xs ys : List (Step K V)) → AllZip IsCopy xs ys → AllZip C (steps_of xs).keys (steps_of ys).keys
    copied_keys [] [] h = tt
    copied_keys [] (y ∷ ys) h = absurd h
    copied_keys (x ∷ xs) [] h = absurd h
    copied_keys (x ∷ xs) (y ∷ ys) h = (h.0.0, copied_keys xs ys h.1)

    pub copied_options : (xs ys : List (Step K V)) → AllZip IsCopy xs ys → AllZip (AreAlike E) (steps_of xs).options (steps_of ys).options
    copied_options [] [] h = tt
    copied_options [] (y ∷ ys) h = absurd h
    copied_options (x ∷ xs) [] h = absurd h
    copied_options (x ∷ xs) (y ∷ ys) h = (h.0.1, copied_options xs ys h.1)

    pub AreEqualSteps-copied : (order : K → K → Ordering) (o : IsTotalOrder order) → ((x y : K) → C x y → order x y ≡ Equal) → (xs ys : List (Step K V)) → AllZip IsCopy xs ys → AreEqualSteps order E (steps_of xs) (steps_of ys)
    AreEqualSteps-copied order o equal xs ys h = (copies_are_equal o equal (steps_of xs).keys (steps_of ys).keys (copied_keys xs ys h), copied_options xs ys h)
