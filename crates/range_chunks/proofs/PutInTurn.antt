-- Ranges put one by one where they make a list of boundaries longer, and taken out again.
use Rattle.std.proofs.Common.{◌*◌, ◌≡◌, sym, ap, ap₂, ◌∙◌, subst, ℕ, inl, inr, ◌⊎◌, ◌<◌, ◌≤◌, ◌+◌, ◌-◌, Some, None, Bool, true, false, List, [], ◌∷◌, ◌++◌, length, take, drop, get_or, arith, length-append, reverse}
use Rattle.std.specs.List.{AllWithin}
use Rattle.std.specs.Cmp.{IsTotalOrder}
use Rattle.std.specs.Ordering.{is_le}
use Rattle.std.specs.declared.cmp.Ordering.{Ordering}
use Rattle.std.specs.declared.cmp.Ordering.TheVariants.{Less}
use Rattle.std.proofs.lemmas.Bool.{cases_lt}
use Rattle.std.proofs.lemmas.List.{length-take-le, length-drop, get_or_at, take-append-drop, reverse-append}
use Rattle.std.proofs.Math.Seq.{take-append_seam}
use Rattle.range_list.proofs.Flat.{drop-add}
use Rattle.range_merge.specs.Boundaries.{IsAscending, member}
use Rattle.range_merge.proofs.Orders.{Equal-self}
use Rattle.range_collections.specs.Splicing.{IsSet, IsSettled, spliced}
use Rattle.range_chunks.specs.Several.{AreKeptAbove, AreSettled, IsPutBetween, IsPutAt, ArePutIn}
use Rattle.range_collections.proofs.Settled.{not_both, IsSet-spliced}
use Rattle.range_chunks.proofs.InTurn.{get_or_same, cut_by_start, cut_by_end, AreSettled-set, kept_more, outside_still, less_at}

module _ {K : Type 0} {order : K → K → Ordering} (o : IsTotalOrder order) where
  -- ---- a range that was put is found and taken out
  module _ (that : List K) (at : ℕ) (items cur : List K) (it : IsPutAt order that at items cur) where
    front_len : length (take it.place items) ≡ it.place
    front_len = length-take-le it.place items it.within

    pub two_longer : length cur ≡ length items + 2
    two_longer = by_default that it.within_that
      where
        by_default : (l : List K) → at + 1 < length l → length cur ≡ length items + 2
        by_default [] h = absurd (omega (arith, h))
        by_default (d ∷ l) h =
            omega (
              arith,
              ap length (it.put d),
              length-append (take it.place items) (get_or that at d ∷ get_or that (at + 1) d ∷ drop it.place items),
              front_len,
              length-drop it.place items,
              it.within,
            )

    start_is_there : (d : K) → get_or cur it.place d ≡ get_or that at d
    start_is_there d =
        ap (λ l. get_or l it.place d) (it.put d)
        ∙ get_or_at (take it.place items) (get_or that at d) (get_or that (at + 1) d ∷ drop it.place items) d it.place front_len

    pub place_is : (up : IsAscending order cur) (start : K) (m : ℕ) → start ≡ get_or that at start → m ≤ length cur →
        AllWithin (λ y. order y start ≡ Less) cur 0 m → AllWithin (λ y. is_le (order start y) ≡ true) cur m (length cur) → m ≡ it.place
    place_is up start m is within before from =
        let here : get_or cur it.place start ≡ start = start_is_there start ∙ sym is in
        let more : it.place < length cur = omega (arith, two_longer, it.within) in
        elim (cases_lt m it.place) as (λ _. m ≡ it.place) [
          | inl low ↦
              let below : order (get_or cur m start) start ≡ Less = subst (λ z. order (get_or cur m start) z ≡ Less) here (up m it.place start low more) in
              absurd (not_both o (get_or cur m start) start below (from m start (omega arith) (omega (arith, low, more))))
          | inr not_low ↦
              elim (cases_lt it.place m) as (λ _. m ≡ it.place) [
                | inl high ↦
                    let below : order start start ≡ Less = subst (λ z. order z start ≡ Less) here (before it.place start (omega arith) high) in
                    absurd (not_both o start start below (ap is_le (Equal-self o start)))
                | inr not_high ↦ omega (arith, not_low, not_high)
              ]
        ]

    pub taken_out : (m to : ℕ) → m ≡ it.place → to ≡ m + 1 + 1 → spliced cur m to None None ≡ items
    taken_out m to here two = by_default that it.within_that
      where
        by_default : (l : List K) → at + 1 < length l → spliced cur m to None None ≡ items
        by_default [] h = absurd (omega (arith, h))
        by_default (d ∷ l) h =
            let front : List K = take it.place items in
            let rest : List K = get_or that at d ∷ get_or that (at + 1) d ∷ drop it.place items in
            let first : m ≡ length front = here ∙ sym front_len in
            let last : to ≡ length front + 2 = omega (arith, two, first) in
            ap₂ (λ j k. take j cur ++ drop k cur) first last
            ∙ ap (λ l. take (length front) l ++ drop (length front + 2) l) (it.put d)
            ∙ ap₂ (λ l k. l ++ k) (take-append_seam front rest) (drop-add front rest 2)
            ∙ take-append-drop it.place items

  pub put_at : (that : List K) (at : ℕ) (items new : List K) → IsAscending order items → at + 1 < length that → (inside : Bool) →
      ((d : K) → IsPutBetween order inside items (get_or that at d) (get_or that (at + 1) d) new) → IsPutAt order that at items new
  put_at that at items new up within inside it = by_default that within
    where
      by_default : (l : List K) → at + 1 < length l → IsPutAt order that at items new
      by_default [] h = absurd (omega (arith, h))
      by_default (d ∷ l) h = record {
        place = (it d).place;
        within = (it d).gap.within;
        within_that = within;
        sorted = up;
        put = λ c.
            let first : get_or that at d ≡ get_or that at c = get_or_same that at d c (omega (arith, within)) in
            let second : get_or that (at + 1) d ≡ get_or that (at + 1) c = get_or_same that (at + 1) d c within in
            (it d).put ∙ ap₂ (λ s e. spliced items (it d).place (it d).place (Some s) (Some e)) first second;
      }

  -- ---- a step of the loop that puts what makes the list longer
  module _ (inside : Bool) (that : List K) (that_up : IsAscending order that) (cur new : List K) (i : ℕ) (within : 2 * i + 1 < length that) (was noted : List ℕ) (up : IsAscending order cur)
      (step : ((new ≡ cur) × (noted ≡ was)) ⊎ (((d : K) → IsPutBetween order inside cur (get_or that (2 * i) d) (get_or that (2 * i + 1) d) new) × (noted ≡ was ++ (2 * i) ∷ []))) where
    set_by_put : ((d : K) → IsPutBetween order inside cur (get_or that (2 * i) d) (get_or that (2 * i + 1) d) new) → (d : K) → IsSet order inside cur (get_or that (2 * i) d) (get_or that (2 * i + 1) d) new
    set_by_put it d =
        let s : K = get_or that (2 * i) d in
        let e : K = get_or that (2 * i + 1) d in
        let less : order s e ≡ Less = less_at o inside that that_up i d within in
        let n : ℕ = (it d).place in
        IsSet-spliced o inside cur s e n n (Some s) (Some e) up less (cut_by_start o inside cur s e n up less (it d).gap) (cut_by_end o inside cur s e n up less (it d).gap) new (it d).put

    pub sorted_after : IsAscending order new
    sorted_after = by_step step
      where
        by_default : (l : List K) → 2 * i + 1 < length l → ((d : K) → IsSet order inside cur (get_or that (2 * i) d) (get_or that (2 * i + 1) d) new) → IsAscending order new
        by_default [] h it = absurd (omega (arith, h))
        by_default (d ∷ l) h it = (it d).means.sorted

        by_step : ((new ≡ cur) × (noted ≡ was)) ⊎ (((d : K) → IsPutBetween order inside cur (get_or that (2 * i) d) (get_or that (2 * i + 1) d) new) × (noted ≡ was ++ (2 * i) ∷ [])) → IsAscending order new
        by_step (inl (same, none)) = subst (λ (l : List K). IsAscending order l) (sym same) up
        by_step (inr (it, one)) = by_default that within (set_by_put it)

    pub put_after : (old : List K) → ArePutIn order that old (reverse was) cur → ArePutIn order that old (reverse noted) new
    put_after old so_far = by_step step
      where
        by_step : ((new ≡ cur) × (noted ≡ was)) ⊎ (((d : K) → IsPutBetween order inside cur (get_or that (2 * i) d) (get_or that (2 * i + 1) d) new) × (noted ≡ was ++ (2 * i) ∷ [])) → ArePutIn order that old (reverse noted) new
        by_step (inl (same, none)) =
            subst (λ (l : List ℕ). ArePutIn order that old (reverse l) new) (sym none) (subst (λ (l : List K). ArePutIn order that old (reverse was) l) (sym same) so_far)
        by_step (inr (it, one)) =
            subst (λ (l : List ℕ). ArePutIn order that old l new) (sym (ap reverse one ∙ reverse-append was ((2 * i) ∷ [])))
            (cur, put_at that (2 * i) cur new up within inside it, so_far)

    pub outside_after : (old : List K) → ((x : K) → member order that x ≡ false → member order cur x ≡ member order old x) →
        (x : K) → member order that x ≡ false → member order new x ≡ member order old x
    outside_after old so_far x none = by_step step
      where
        by_step : ((new ≡ cur) × (noted ≡ was)) ⊎ (((d : K) → IsPutBetween order inside cur (get_or that (2 * i) d) (get_or that (2 * i + 1) d) new) × (noted ≡ was ++ (2 * i) ∷ [])) → member order new x ≡ member order old x
        by_step (inl (same, _)) = ap (λ l. member order l x) same ∙ so_far x none
        by_step (inr (it, one)) = outside_still o inside that that_up cur new i within (set_by_put it) x none ∙ so_far x none

    pub kept_after : (old : List K) → AreKeptAbove order that old cur → AreKeptAbove order that old new
    kept_after old so_far = by_step step
      where
        by_step : ((new ≡ cur) × (noted ≡ was)) ⊎ (((d : K) → IsPutBetween order inside cur (get_or that (2 * i) d) (get_or that (2 * i + 1) d) new) × (noted ≡ was ++ (2 * i) ∷ [])) → AreKeptAbove order that old new
        by_step (inl (same, none)) = subst (λ (l : List K). AreKeptAbove order that old l) (sym same) so_far
        by_step (inr (it, one)) = kept_more o inside that that_up cur new i within (set_by_put it) old so_far

    pub settled_more : AreSettled order inside cur that i → ((d : K) → IsSettled order inside new (get_or that (2 * i) d) (get_or that (2 * i + 1) d)) → AreSettled order inside new that (i + 1)
    settled_more so_far now n d below =
        elim (cases_lt n i) as (λ _. IsSettled order inside new (get_or that (2 * n) d) (get_or that (2 * n + 1) d)) [
          | inl before ↦ by_step step n d before
          | inr last ↦
              let same : i ≡ n = omega (arith, below, last) in
              subst (λ (k : ℕ). IsSettled order inside new (get_or that (2 * k) d) (get_or that (2 * k + 1) d)) same (now d)
        ]
      where
        by_step : ((new ≡ cur) × (noted ≡ was)) ⊎ (((d : K) → IsPutBetween order inside cur (get_or that (2 * i) d) (get_or that (2 * i + 1) d) new) × (noted ≡ was ++ (2 * i) ∷ [])) → AreSettled order inside new that i
        by_step (inl (same, none)) = subst (λ (l : List K). AreSettled order inside l that i) (sym same) so_far
        by_step (inr (it, one)) = AreSettled-set o inside that that_up cur new i within (set_by_put it) i (omega (arith, within)) so_far

  -- ---- a step of the loop that takes out what was put
  module _ (that : List K) (at : ℕ) (indices rest : List ℕ) (cur new : List K) (popped : indices ≡ rest ++ at ∷ []) (taken : (items : List K) → IsPutAt order that at items cur → new ≡ items) where
    at_last : (before : List K) → ArePutIn order that before (reverse indices) cur → ArePutIn order that before (at ∷ reverse rest) cur
    at_last before h = subst (λ (l : List ℕ). ArePutIn order that before l cur) (ap reverse popped ∙ reverse-append rest (at ∷ [])) h

    pub put_still : (before : List K) → ArePutIn order that before (reverse indices) cur → ArePutIn order that before (reverse rest) new
    put_still before h =
        let last = at_last before h in
        subst (λ (l : List K). ArePutIn order that before (reverse rest) l) (sym (taken last.0 last.1)) last.2

    pub sorted_still : (before : List K) → ArePutIn order that before (reverse indices) cur → IsAscending order new
    sorted_still before h =
        let last = at_last before h in
        subst (λ (l : List K). IsAscending order l) (sym (taken last.0 last.1)) last.1.sorted
