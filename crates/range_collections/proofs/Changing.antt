-- A range set by a splice between two cuts, as a change by a range; and what the splice asks.
use Rattle.std.proofs.Common.{◌≡◌, ◌≢◌, refl, sym, ap, ◌∙◌, subst, ◌⊎◌, ⊎_elim, ℕ, ◌+◌, ◌%◌, ◌==◌, ◌<◌, ◌≤◌, Option, Some, None, Bool, true, false, List, [], length, get_or, arith, All, HoldsAt, true≢false, Result, Ok, Err, OnOk, OnErr, IsOk, IfOk, IfErr, MatchResult}
use Rattle.std.specs.List.{AllWithin}
use Rattle.std.specs.Cmp.{IsTotalOrder}
use Rattle.std.specs.Ordering.{is_lt}
use Rattle.std.proofs.lemmas.Result.{on_ok_weaker}
use Rattle.std.specs.declared.alloc.AllocError.{AllocError}
use Rattle.std.specs.declared.cmp.Ordering.{Ordering}
use Rattle.std.specs.declared.cmp.Ordering.TheVariants.{Less, Equal, Greater}
use Rattle.range_merge.specs.Boundaries.{IsAscending, is_odd}
use Rattle.range_merge.specs.Connective.{Table}
use Rattle.range_collections.specs.Insertion.{IsChangedByRange}
use Rattle.range_collections.specs.Ranges.{range_items}
use Rattle.range_collections.specs.Splicing.{range_table, spliced, Finds, IsCut}
use Rattle.std.proofs.lemmas.List.{get_or_default}
use Rattle.std.proofs.lemmas.List.Elements.{All-nil, All-cons}
use Rattle.range_merge.proofs.Fronts.{below_through}
use Rattle.range_merge.proofs.Orders.{Less-from_equal, Less-trans}
use Rattle.std.specs.Option.{option_to_list}
use Rattle.range_collections.proofs.Splices.{length-spliced}
use Rattle.range_collections.proofs.Points.{even-from_test, odd-from_test}
use Rattle.range_collections.proofs.Insertion.{IsAscending-spliced, Means-spliced, length-meant, AreOwnElseOf-spliced, Means-no_range, AreOwnElseOf-unchanged, IsAscending-answer, Means-alike, not_less-from_no_items}

-- a cut at a number that is the same
pub IsCut-moved : {K : Type 0} (order : K → K → Ordering) (inside : Bool) (items : List K) (at : K) (n m : ℕ) (put : Option K) → n ≡ m →
    IsCut order inside items at n put → IsCut order inside items at m put
IsCut-moved order inside items at n m put e h = subst (λ (k : ℕ). IsCut order inside items at k put) e h

-- ---- what the clauses of a search say

pub finds : {K P : Type 0} (order : K → K → Ordering) (items : List K) (at : K) (index : P → ℕ) (found : Result P P) →
    IfOk found (λ p. index p < length items) → IfOk found (λ p. HoldsAt (λ y. order y at ≡ Equal) items (index p)) →
    IfErr found (λ p. index p ≤ length items) → IfErr found (λ p. AllWithin (λ y. order y at ≡ Less) items 0 (index p)) →
    IfErr found (λ p. AllWithin (λ y. order y at ≡ Greater) items (index p) (length items)) → Finds order items at index found
finds order items at index (Ok p) within equal _ _ _ = record { within = within; equal = equal }
finds order items at index (Err p) _ _ within before from = record { within = within; before = before; from = from }

module _ {K : Type 0} {order : K → K → Ordering} (o : IsTotalOrder order) (inside : Bool) (a : List K) (start end : K) where
  module _ (room from to : ℕ) (s e : Option K) (up : IsAscending order a) (less : order start end ≡ Less)
      (p : IsCut order inside a start from s) (q : IsCut order inside a end to e) (new : List K) (r : Result (Unit {0}) AllocError)
      (taken : OnOk r (new ≡ spliced a from to s e)) (same : OnErr r (new ≡ a)) where
    pub ascending-spliced : IsAscending order new
    ascending-spliced = IsAscending-answer order r new (spliced a from to s e) a taken same (IsAscending-spliced o inside a start end from to s e up less p q) up

    pub changed-spliced : ((length (spliced a from to s e) ≤ length a) ⊎ (length (spliced a from to s e) ≤ room) → IsOk r) →
        IsChangedByRange order (range_table inside) room a (range_items order start end) new r
    changed-spliced sure = record {
      means = on_ok_weaker r (λ kept. rw kept (Means-spliced o inside a start end from to s e up less p q)) taken;
      left_own_item = on_ok_weaker r (λ kept. rw kept (AreOwnElseOf-spliced o inside a start end from to s e up less p q)) taken;
      unchanged = same;
      succeeds = λ items m few.
          sure (subst (λ n. (n ≤ length a) ⊎ (n ≤ room)) (length-meant o inside a start end from to s e up less p q items m) few);
      empty = λ none.
          let off : false ≡ true = sym (not_less-from_no_items order start end none) ∙ ap is_lt less in absurd (true≢false (sym off));
    }

  -- a range whose start isn't below its end
  pub changed-by_nothing : (room : ℕ) → IsAscending order a → is_lt (order start end) ≡ false →
      IsChangedByRange order (range_table inside) room a (range_items order start end) a (Ok tt)
  changed-by_nothing room up off = record {
    means = Means-no_range o inside a start end up off;
    left_own_item = AreOwnElseOf-unchanged o a (range_items order start end);
    unchanged = tt;
    succeeds = λ items m few. refl;
    empty = λ none. (refl, refl);
  }

-- tables that answer alike
pub changed-alike : {K : Type 0} (order : K → K → Ordering) (f g : Table) → ((b c : Bool) → f b c ≡ g b c) → (room : ℕ) (a b new : List K) (r : Result (Unit {0}) AllocError) →
    IsChangedByRange order f room a b new r → IsChangedByRange order g room a b new r
changed-alike order f g same room a b new r h = record {
  means = on_ok_weaker r (Means-alike f g same new a b) h.means;
  left_own_item = h.left_own_item;
  unchanged = h.unchanged;
  succeeds = λ items m few. h.succeeds items (Means-alike g f (λ x y. sym (same x y)) items a b m) few;
  empty = h.empty;
}

-- ---- a cut of a list without boundaries
module _ {K : Type 0} (order : K → K → Ordering) (inside : Bool) where
  pub cut-put : inside ≡ true → (at : K) → IsCut order inside [] at 0 (Some at)
  cut-put e at = record {
    within = omega arith;
    before = λ k d low high. absurd (omega (arith, low, high));
    from = λ k d low high. absurd (omega (arith, low, high));
    is_put = All-cons (λ y. (y ≡ at) × All (λ x. order x at ≢ Equal) []) at [] (refl, All-nil (λ x. order x at ≢ Equal)) (All-nil (λ y. (y ≡ at) × All (λ x. order x at ≢ Equal) []));
    parity = sym e;
  }

  pub cut-none : inside ≡ false → (at : K) → IsCut order inside [] at 0 None
  cut-none e at = record {
    within = omega arith;
    before = λ k d low high. absurd (omega (arith, low, high));
    from = λ k d low high. absurd (omega (arith, low, high));
    is_put = All-nil (λ y. (y ≡ at) × All (λ x. order x at ≢ Equal) []);
    parity = sym e;
  }

-- ---- what a splice asks

pub same_rest : (m n : ℕ) → is_odd m ≡ is_odd n → m % 2 ≡ n % 2
same_rest m n e = of_bit (is_odd m) refl e
  where
    of_bit : (b : Bool) → b ≡ is_odd m → b ≡ is_odd n → m % 2 ≡ n % 2
    of_bit true p q = omega (arith, odd-from_test true m p refl, odd-from_test true n q refl)
    of_bit false p q = omega (arith, even-from_test false m p refl, even-from_test false n q refl)

pub one_at_most : {K : Type 0} (x : Option K) → length (option_to_list x) ≤ 1
one_at_most None = omega arith
one_at_most (Some v) = omega arith

module _ {K : Type 0} (from to : ℕ) (s e : Option K) (same : is_odd (from + length (option_to_list s)) ≡ is_odd (to + length (option_to_list e))) where
  -- what is put leaves the parity behind it
  pub alike-spliced : is_odd (from + length (option_to_list s) + length (option_to_list e)) ≡ is_odd to
  alike-spliced =
      let rest : (from + length (option_to_list s) + length (option_to_list e)) % 2 ≡ to % 2 =
      omega (arith, same_rest (from + length (option_to_list s)) (to + length (option_to_list e)) same) in
      ap (λ n. n == 1) rest

  -- two are never put in the place of one
  pub alike_next-spliced : to ≡ from + 1 → length (option_to_list s) + length (option_to_list e) ≡ 2 → is_odd from ≡ is_odd (from + 1)
  alike_next-spliced next two =
      absurd (omega (arith, next, two, one_at_most s, one_at_most e, same_rest (from + length (option_to_list s)) (to + length (option_to_list e)) same))

-- what is put is no more than what gives way
pub put-no_more : {K : Type 0} (xs : List K) (from to : ℕ) (s e : Option K) → from ≤ to → to ≤ length xs →
    (length (spliced xs from to s e) ≤ length xs) ⊎ (length (spliced xs from to s e) ≤ 0) → from + length (option_to_list s) + length (option_to_list e) ≤ to
put-no_more xs from to s e ordered within few =
    let n = length-spliced xs from to s e ordered within in
    ⊎_elim (λ same. omega (arith, same, n, ordered, within)) (λ none. omega (arith, none, n, ordered, within)) few

-- ---- two ends in order

module _ {K P : Type 0} {order : K → K → Ordering} (o : IsTotalOrder order) (items : List K) (index : P → ℕ) (start end : K) (up : IsAscending order items) (less : order start end ≡ Less) where
  -- what stands before the position above the start is below the end
  pub below-above : (found : Result P P) (above : P) → MatchResult found (λ p. index above ≡ index p + 1) (λ p. above ≡ p) →
      Finds order items start index found → AllWithin (λ y. order y end ≡ Less) items 0 (index above)
  below-above (Ok p) above next it k d low high =
      let y : K = get_or items (index p) start in
      below_through order o items end up (index p) y it.within (get_or_default items (index p) start y it.within)
      (Less-from_equal o y start end (it.equal start) less) k d low (omega (arith, high, next))
  below-above (Err p) above same it k d low high =
      Less-trans o (get_or items k d) start end (it.before k d low (omega (arith, high, ap index same))) less
