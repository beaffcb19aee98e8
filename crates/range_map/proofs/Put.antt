-- A range put at its places in a list of steps.
use Rattle.std.proofs.Common.{◌≡◌, sym, ap, ap₂, ◌∙◌, subst, refl, ℕ, zero, suc, ◌+◌, ◌-◌, ◌<◌, ◌≤◌, Bool, true, false, cond, Option, Some, None, List, [], ◌∷◌, ◌++◌, map, length, take, drop, get_or, nat_lt, arith, true≢false, Result, Ok, Err, OnOk, OnErr}
use Rattle.std.specs.Prelude.{option_map}
use Rattle.std.specs.Cmp.{IsTotalOrder, IsEquivalence}
use Rattle.std.specs.Option.{option_to_list, option_eq}
use Rattle.std.specs.declared.cmp.Ordering.{Ordering}
use Rattle.std.specs.declared.cmp.Ordering.TheVariants.{Less}
use Rattle.std.proofs.lemmas.List.{map-append, take-map}
use Rattle.std.proofs.lemmas.Bool.Decides.{Decides-ltb}
use Rattle.std.specs.List.{drop-map}
use Rattle.range_collections.specs.Splicing.{spliced}
use Rattle.range_map.specs.Steps.{IsCanonical, AreAlike}
use Rattle.range_map.specs.Changed.{IsSetTo, FitsAfter}
use Rattle.range_map.specs.Listed.{steps_of}
use Rattle.range_map.specs.Places.{Span, ArePlaces, after_range, end_step, needs_end}
use Rattle.range_map.specs.declared.step.Step.{Step}
use Rattle.range_map.proofs.Replaced.{places_ordered, put_len-fits, after_range-alike, IsCanonical-set, IsSetTo-set}

pub none-put : {X : Type 0} (c : Bool) (x : X) → c ≡ false → None ≡ cond c (Some x) None
none-put true x e = absurd (cc)
none-put false x e = refl

pub one-put : {X : Type 0} (c : Bool) (x : X) → c ≡ true → Some x ≡ cond c (Some x) None
one-put true x e = refl
one-put false x e = absurd (cc)

module _ {X Y : Type 0} (f : X → Y) where
  mapped-list : (a : Option X) → map f (option_to_list a) ≡ option_to_list (option_map f a)
  mapped-list None = refl
  mapped-list (Some x) = refl

  -- a part of each item of a splice, as a splice of these parts
  mapped-spliced : (xs : List X) (n m : ℕ) (a b : Option X) → map f (spliced xs n m a b) ≡ spliced (map f xs) n m (option_map f a) (option_map f b)
  mapped-spliced xs n m a b =
      map-append f (take n xs) (option_to_list a ++ (option_to_list b ++ drop m xs))
      ∙ ap₂ (λ p q. p ++ q) (sym (take-map f n xs))
      (map-append f (option_to_list a) (option_to_list b ++ drop m xs)
      ∙ ap₂ (λ p q. p ++ q) (mapped-list a)
      (map-append f (option_to_list b) (drop m xs) ∙ ap₂ (λ p q. p ++ q) (mapped-list b) (sym (drop-map f m xs))))

length-end : {K : Type 0} (c : Bool) (end : Option K) → length (option_to_list (cond c end None)) ≤ cond c 1 0
length-end true None = omega arith
length-end true (Some z) = omega arith
length-end false end = omega arith

module _ {K V : Type 0} where
  key-first : (c : Bool) (start : K) (option : Option V) → option_map (λ (s : Step K V). s.key) (cond c (Some (record { key = start; option = option })) None) ≡ cond c (Some start) None
  key-first true start option = refl
  key-first false start option = refl

  option-first : (c : Bool) (start : K) (option : Option V) → option_map (λ (s : Step K V). s.option) (cond c (Some (record { key = start; option = option })) None) ≡ cond c (Some option) None
  option-first true start option = refl
  option-first false start option = refl

  key-end : (items : List (Step K V)) (span : Span) (end : Option K) (copied : Option V) → option_map (λ (s : Step K V). s.key) (end_step items span end copied) ≡ end
  key-end items span None copied = refl
  key-end items span (Some z) copied = refl

  option-end : (items : List (Step K V)) (span : Span) (c : Bool) (end : Option K) (after : Option V) (p : Option V) (E : Option V → Option V → Bool) (copied : Option V) → c ≡ needs_end E end p after →
      option_map (λ (s : Step K V). s.option) (end_step items span (cond c end None) copied) ≡ cond c (Some (after_range (steps_of items).options span copied)) None
  option-end items span true None after p E copied h = absurd (true≢false h)
  option-end items span true (Some z) after p E copied h = refl
  option-end items span false end after p E copied h = refl

  length-first : (c : Bool) (x : Step K V) → length (option_to_list (cond c (Some x) None)) ≡ cond c 1 0
  length-first true x = refl
  length-first false x = refl

  -- the step that gets the end as its key, or the copy there
  pub end_step-last : (items : List (Step K V)) (span : Span) (key : K) (copied : Option V) (d : Step K V) → span.from < span.to → span.to ≤ length items →
      Some (record { key = key; option = (get_or items (span.to - 1) d).option }) ≡ end_step items span (Some key) copied
  end_step-last items span key copied d less within =
      let on : nat_lt span.from span.to ≡ true = (Decides-ltb span.from span.to).1 less in
      let next : suc (span.to - 1) ≡ span.to = omega (arith, less) in
      ap (λ p. Some (record { key = key; option = p }))
      (read items (span.to - 1) d (omega (arith, less, within))
      ∙ ap (λ n. get_or (None ∷ (steps_of items).options) n None) next
      ∙ ap (λ c. cond c (get_or (None ∷ (steps_of items).options) span.to None) copied) (sym on))
    where
      read : (items : List (Step K V)) (n : ℕ) (d : Step K V) → n < length items → (get_or items n d).option ≡ get_or (steps_of items).options n None
      read [] n d within = absurd (omega (arith, within))
      read (x ∷ xs) zero d within = refl
      read (x ∷ xs) (suc n) d within = read xs n d (omega (arith, within))

module _ {K V : Type 0} (order : K → K → Ordering) (o : IsTotalOrder order) (E : V → V → Bool) (e : IsEquivalence E)
    (items : List (Step K V)) (canonical : IsCanonical order E (steps_of items))
    (start : K) (end : Option K) (some : (z : K) → end ≡ Some z → order start z ≡ Less) (option : Option V)
    (span : Span) (are : ArePlaces order E (steps_of items) start end option span) where
  pub span_ordered : span.from ≤ span.to
  span_ordered = places_ordered order o E e (steps_of items) canonical start end some option span are

  module _ (copied : Option V) (alike : span.from ≡ span.to → span.ends ≡ true → AreAlike E copied (get_or (None ∷ (steps_of items).options) span.to None))
      (first : Option (Step K V)) (last : Option K) (ef : first ≡ cond span.starts (Some (record { key = start; option = option })) None) (el : last ≡ cond span.ends end None)
      (new : List (Step K V)) (put : new ≡ spliced items span.from span.to first (end_step items span last copied)) where
    is-put : new ≡ spliced items span.from span.to (cond span.starts (Some (record { key = start; option = option })) None) (end_step items span (cond span.ends end None) copied)
    is-put = put ∙ ap₂ (λ a b. spliced items span.from span.to a (end_step items span b copied)) ef el

    keys_are : (steps_of new).keys ≡ spliced (steps_of items).keys span.from span.to (cond span.starts (Some start) None) (cond span.ends end None)
    keys_are =
        ap (λ (ss : List (Step K V)). (steps_of ss).keys) is-put
        ∙ mapped-spliced (λ (s : Step K V). s.key) items span.from span.to _ _
        ∙ ap₂ (λ a b. spliced (steps_of items).keys span.from span.to a b) (key-first span.starts start option) (key-end items span (cond span.ends end None) copied)

    options_are : (steps_of new).options ≡ spliced (steps_of items).options span.from span.to (cond span.starts (Some option) None) (cond span.ends (Some (after_range (steps_of items).options span copied)) None)
    options_are =
        ap (λ (ss : List (Step K V)). (steps_of ss).options) is-put
        ∙ mapped-spliced (λ (s : Step K V). s.option) items span.from span.to _ _
        ∙ ap₂ (λ a b. spliced (steps_of items).options span.from span.to a b) (option-first span.starts start option)
        (option-end items span span.ends end _ option (option_eq E) copied are.ends)

    pub canonical-put : IsCanonical order E (steps_of new)
    canonical-put =
        IsCanonical-set order o E e (steps_of items) canonical start end some option span are (after_range (steps_of items).options span copied)
        (after_range-alike E e (steps_of items).options span copied span_ordered alike) (steps_of new) keys_are options_are

    pub values-put : IsSetTo order E start end option (steps_of items) (steps_of new)
    values-put =
        IsSetTo-set order o E e (steps_of items) canonical start end some option span are (after_range (steps_of items).options span copied)
        (after_range-alike E e (steps_of items).options span copied span_ordered alike) (steps_of new) keys_are options_are

  -- no more is put than gives way, where some map with no more steps has what is asked
  pub put-fits : (first : Option (Step K V)) (last : Option K) → first ≡ cond span.starts (Some (record { key = start; option = option })) None → last ≡ cond span.ends end None →
      FitsAfter order E start end option (steps_of items) → span.from + length (option_to_list first) + length (option_to_list last) ≤ span.to
  put-fits first last ef el fits =
      omega (
        arith,
        span_ordered,
        put_len-fits order o E e (steps_of items) canonical start end some option span are fits,
        ap (λ p. length (option_to_list p)) ef,
        ap (λ p. length (option_to_list p)) el,
        length-first span.starts (record { key = start; option = option }),
        length-end span.ends end,
      )

-- a map stays canonical whatever the answer
pub canonical-answer : {K V X Z : Type 0} (order : K → K → Ordering) (E : V → V → Bool) (r : Result X Z) (items new ok : List (Step K V)) → OnOk r (new ≡ ok) → OnErr r (new ≡ items) →
    (new ≡ ok → IsCanonical order E (steps_of new)) → IsCanonical order E (steps_of items) → IsCanonical order E (steps_of new)
canonical-answer order E (Ok v) items new ok done kept p q = p done
canonical-answer order E (Err z) items new ok done kept p q = subst (λ (ss : List (Step _ _)). IsCanonical order E (steps_of ss)) (sym kept) q
