-- Sets changed in a buffer with room after them: items between two places replaced.
use Rattle.std.proofs.Common.{◌≡◌, sym, ap, ap₂, ◌∙◌, ℕ, ◌+◌, ◌-◌, ◌≤◌, Bool, Option, List, ◌++◌, length, take, drop, arith}
use Rattle.std.specs.Option.{option_to_list}
use Rattle.std.specs.declared.cmp.Ordering.{Ordering}
use Rattle.std.proofs.Math.Seq.{paste, take-append-add, drop-append_seam}
use Rattle.std.proofs.lemmas.List.{take-take, take-append-le, length-drop, length-take-le, drop-take}
use Rattle.std.proofs.lemmas.List.Edits.{take-paste, length-paste}
use Rattle.range_merge.specs.Connective.{Table}
use Rattle.range_collections.specs.Splicing.{spliced}
use Rattle.range_c.specs.InPlace.{ChangesList}
use Rattle.range_collections.proofs.Insertion.{Means-alike}
use Rattle.range_collections.proofs.Splices.{spliced_front, length-spliced_front, spliced-front}

module _ {K : Type 0} (order : K → K → Ordering) (f g : Table) (same : (x y : Bool) → f x y ≡ g x y) where
  -- what a table promises, one with the same answers does
  pub ChangesList-alike : (a b old new : List K) (n : ℕ) → ChangesList order f a b old new n → ChangesList order g a b old new n
  ChangesList-alike a b old new n r = record {
    counted = λ items m. r.counted items (Means-alike g f (λ x y. sym (same x y)) items a b m);
    means = λ fits. Means-alike f g same (take n new) a b (r.means fits);
    unchanged = r.unchanged;
  }

module _ {K : Type 0} where
  drop-first : (k : ℕ) (us vs : List K) → length us ≡ k → drop k (us ++ vs) ≡ vs
  drop-first k us vs h = ap (λ j. drop j (us ++ vs)) (sym h) ∙ drop-append_seam us vs

  -- a front stays where items are pasted after it
  front-paste : (xs ys s : List K) (from at n : ℕ) → from ≤ at → at ≤ length xs → n ≤ length s → ys ≡ paste xs at s n → take from ys ≡ take from xs
  front-paste xs ys s from at n h within few e =
      ap (take from) e
      ∙ sym (take-take from (at + n) (paste xs at s n) (omega (arith, h)))
      ∙ ap (take from) (take-paste xs at s n within few)
      ∙ take-append-le from (take at xs) (take n s) (omega (arith, h, length-take-le at xs within))
      ∙ take-take from at xs h

  -- what stands after `to` among the first `len`, moved to `after`, and the start and the end put
  -- before it
  pub spliced-in_room : (xs ys zs : List K) (len from to after : ℕ) (s e : Option K) → from ≤ to → to ≤ len → len ≤ length xs →
      after ≡ from + length (option_to_list s) + length (option_to_list e) → after + (len - to) ≤ length xs →
      ys ≡ paste xs after (drop to xs) (len - to) → zs ≡ spliced ys from after s e →
      take (after + (len - to)) zs ≡ spliced (take len xs) from to s e
  spliced-in_room xs ys zs len from to after s e ordered within room b fits moved put =
      let n = len - to in
      let few : n ≤ length (drop to xs) = omega (arith, length-drop to xs, room, within) in
      let long : length ys ≡ length xs = ap length moved ∙ length-paste xs after (drop to xs) n fits few in
      let front : List K = spliced_front ys from s e in
      let m : length front ≡ after = length-spliced_front ys from s e (omega (arith, long, ordered, within, room)) ∙ sym b in
      let same_front : take from ys ≡ take from (take len xs) =
      front-paste xs ys (drop to xs) from after n (omega (arith, b)) (omega (arith, fits)) few moved
      ∙ sym (take-take from len xs (omega (arith, ordered, within))) in
      let moved_items : take n (drop after ys) ≡ drop to (take len xs) =
      sym (drop-take after n ys)
      ∙ ap (λ us. drop after (take (after + n) us)) moved
      ∙ ap (drop after) (take-paste xs after (drop to xs) n (omega (arith, fits)) few)
      ∙ drop-first after (take after xs) (take n (drop to xs)) (length-take-le after xs (omega (arith, fits)))
      ∙ sym (drop-take to n xs)
      ∙ ap (λ k. drop to (take k xs)) (omega (arith, within)) in
      ap (take (after + n)) (put ∙ spliced-front ys from after s e)
      ∙ ap (λ k. take (k + n) (front ++ drop after ys)) (sym m)
      ∙ take-append-add front (drop after ys) n
      ∙ ap₂ (λ us vs. (us ++ (option_to_list s ++ option_to_list e)) ++ vs) same_front moved_items
      ∙ sym (spliced-front (take len xs) from to s e)
