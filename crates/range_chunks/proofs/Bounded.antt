-- What is remembered of gaps stays true of a set that takes more values, and of one that frees some
-- outside.
use Rattle.std.proofs.Common.{◌≡◌, refl, sym, ap, ap₂, ◌∙◌, subst, ℕ, inl, inr, ◌<◌, ◌≤◌, ◌+◌, ◌*◌, ◌/◌, ◌%◌, Bool, true, false, not, ◌&&◌, ◌||◌, List, [], ◌∷◌, filter, take, drop, cond, nat_le, nat_lt, nat_eq, All, arith}
use Rattle.std.specs.Cmp.{IsTotalOrder, ranks}
use Rattle.std.specs.List.{insert}
use Rattle.std.specs.Prelude.{Result, Ok, Err, OnOk, OnErr}
use Rattle.std.specs.declared.alloc.AllocError.{AllocError}
use Rattle.std.specs.Ordering.{is_le, is_lt, nat_cmp}
use Rattle.std.specs.declared.cmp.Ordering.{Ordering}
use Rattle.std.specs.declared.cmp.Ordering.TheVariants.{Equal}
use Rattle.std.proofs.Math.Nat.{mul_assoc, mod-add-div', add-mul-mod_self_right}
use Rattle.std.proofs.lemmas.Nat.{div-add-mod'}
use Rattle.std.proofs.lemmas.Bool.{cases_lt, true≢false}
use Rattle.std.proofs.lemmas.Bool.Decides.{nat_tests}
use Rattle.std.proofs.lemmas.Cmp.{by_ranked, alike_right, nat_cmp_total}
use Rattle.std.proofs.lemmas.List.Elements.{All-nil, All-cons, All-head, All-tail, All-append, All-take, All-drop, All-weaker, All-filter}
use Rattle.range_merge.specs.Boundaries.{member}
use Rattle.range_merge.specs.Connective.{differ}
use Rattle.range_merge.proofs.Orders.{Equal-self}
use Rattle.range_merge.proofs.Members.{member-cons, member-nil}
use Rattle.range_collections.specs.Fits.{IsOneOf, IsFit}
use Rattle.range_collections.specs.declared.countable.multiples.Multiples.{Multiples}
use Rattle.range_collections.proofs.Counted.{Greater-value}
use Rattle.range_collections.proofs.NextMultiple.{IsOneOf-among}
use Rattle.range_chunks.specs.Bounds.{IsBound, IsPast, are_among, excludes, is_apart}
use Rattle.range_chunks.specs.declared.gap_bound.GapBound.{GapBound}

and-true : (p q : Bool) → (p && q) ≡ true → (p ≡ true) × (q ≡ true)
and-true true true e = (refl, refl)
and-true true false e = absurd (cc)
and-true false q e = absurd (cc)

or-false : (p q : Bool) → (p || q) ≡ false → p ≡ false
or-false true q e = cc
or-false false q e = refl

or-true : (p q : Bool) → p ≡ true → (p || q) ≡ true
or-true true q e = refl
or-true false q e = cc

-- what is left of a number, and of what it leaves by a multiple of the divisor, is the same
mod-among : (x m a : ℕ) → m % a ≡ 0 → x % m % a ≡ x % a
mod-among x m a none =
    let whole : m / a * a ≡ m = omega (arith, div-add-mod' m a, none) in
    let product : x / m * (m / a) * a ≡ x / m * m = mul_assoc (x / m) (m / a) a ∙ ap (λ k. x / m * k) whole in
    sym (add-mul-mod_self_right (x % m) (x / m * (m / a)) a)
    ∙ ap (λ k. (x % m + k) % a) product
    ∙ ap (λ k. k % a) (mod-add-div' x m)

IsOneOf-among_others : (m others : Multiples) → are_among m others ≡ true → (n : ℕ) → IsOneOf m n → IsOneOf others n
IsOneOf-among_others m others h n one =
    let divides = nat_lt 0 others.of && nat_eq (m.of % others.of) 0 in
    let both = and-true (nat_eq others.of m.of || divides) (nat_eq others.zero m.zero) h in
    let zero_is : nat_eq others.zero m.zero ≡ true = both.1 in
    let same_zero : others.zero ≡ m.zero = grind (arith, nat_tests) in
    by_test (nat_eq others.of m.of) refl same_zero both.0
  where
    by_test : (t : Bool) → nat_eq others.of m.of ≡ t → others.zero ≡ m.zero → (nat_eq others.of m.of || (nat_lt 0 others.of && nat_eq (m.of % others.of) 0)) ≡ true → IsOneOf others n
    by_test true e same_zero either =
        let same : others.of ≡ m.of = grind (arith, nat_tests) in
        IsOneOf-among others m.zero m.of same same_zero n one
    by_test false e same_zero either =
        let divides = nat_lt 0 others.of && nat_eq (m.of % others.of) 0 in
        let tests = and-true (nat_lt 0 others.of) (nat_eq (m.of % others.of) 0) (ap (λ t. t || divides) (sym e) ∙ either) in
        let rest : nat_eq (m.of % others.of) 0 ≡ true = tests.1 in
        let none : m.of % others.of ≡ 0 = grind (arith, nat_tests) in
        rw same_zero
        (sym (mod-among n m.of others.of none) ∙ ap (λ k. k % others.of) one ∙ mod-among m.zero m.of others.of none)

passed-one : {X : Type 0} (Q : X → Type 0) (test : X → Bool) (x : X) (xs : List X) (b : Bool) → test x ≡ b → (test x ≡ true → Q x) → All Q (filter test xs) → All Q (filter test (x ∷ xs))
passed-one Q test x xs true e h rest = subst (λ t. All Q (cond t (x ∷ filter test xs) (filter test xs))) (sym e) (All-cons Q x (filter test xs) (h e) rest)
passed-one Q test x xs false e h rest = subst (λ t. All Q (cond t (x ∷ filter test xs) (filter test xs))) (sym e) rest

-- what passes a filter has what the filter and the rest together give
pub All-passed : {X : Type 0} (P Q : X → Type 0) (test : X → Bool) → ((x : X) → P x → test x ≡ true → Q x) → (xs : List X) → All P xs → All Q (filter test xs)
All-passed P Q test h [] all = All-nil Q
All-passed P Q test h (x ∷ xs) all = passed-one Q test x xs (test x) refl (h x (All-head P x xs all)) (All-passed P Q test h xs (All-tail P x xs all))

pub All-inserted : {X : Type 0} (P : X → Type 0) (xs : List X) (i : ℕ) (x : X) → P x → All P xs → All P (insert xs i x)
All-inserted P xs i x p all = All-append P (take i xs) (x ∷ drop i xs) (All-take P i xs all) (All-cons P x (drop i xs) p (All-drop P i xs all))

pub All-kept_or_inserted : {X : Type 0} (P : X → Type 0) (xs ys : List X) (done : Bool) (i : ℕ) (x : X) → ys ≡ cond done (insert xs i x) xs → P x → All P xs → All P ys
All-kept_or_inserted P xs ys true i x is p all = subst (All P) (sym is) (All-inserted P xs i x p all)
All-kept_or_inserted P xs ys false i x is p all = subst (All P) (sym is) all

-- equal elements are members alike
pub member-equal : {K : Type 0} {order : K → K → Ordering} (o : IsTotalOrder order) (x y : K) → order x y ≡ Equal → (items : List K) → member order items x ≡ member order items y
member-equal {order} o x y e [] = member-nil order x ∙ sym (member-nil order y)
member-equal {order} o x y e (b ∷ items) =
    member-cons order b items x
    ∙ ap₂ (λ r m. differ (is_le r) m) (alike_right o x y b e) (member-equal o x y e items)
    ∙ sym (member-cons order b items y)

module _ {K : Type 0} {order : K → K → Ordering} (o : IsTotalOrder order) (is_value : K → Type 0) (value : ℕ → K) (place : K → ℕ) (count : ℕ)
    (value_is_value : (n : ℕ) → n < count → is_value (value n))
    (place_of_value : (n : ℕ) → n < count → place (value n) ≡ n)
    (place_fits : (x : K) → is_value x → place x < count)
    (in_order : (x y : K) → is_value x → is_value y → order x y ≡ nat_cmp (place x) (place y)) where
  is_lt-value : (x : K) (n : ℕ) → is_value x → n < count → place x ≤ n → is_lt (order (value n) x) ≡ false
  is_lt-value x n v less from =
      by_ranked (n < place x) (n ≡ place x) (place x < n) (nat_cmp n (place x)) (ranks n (place x))
      (λ e low. absurd (omega (arith, from, low))) (λ e _. ap is_lt (there ∙ e)) (λ e _. ap is_lt (there ∙ e))
    where
      there : order (value n) x ≡ nat_cmp n (place x)
      there = in_order (value n) x (value_is_value n less) v ∙ ap (λ p. nat_cmp p (place x)) (place_of_value n less)

  -- a bound whose end is taken
  pub IsBound-noted : (items : List K) (b : GapBound K) → is_value b.end → place b.start ≤ place b.end →
      ((n at : ℕ) → IsFit order value false items (place b.start) (place b.end) n at → n ≤ b.most) →
      ((at : ℕ) → IsOneOf b.multiples at → IsFit order value false items (place b.start) (place b.end) b.count at → ⊥) →
      member order items b.end ≡ true →
      IsBound order value place count items b
  IsBound-noted items b v up most aligned taken = record {
    most = most;
    aligned = aligned;
    closed = member-equal o (value (place b.end)) b.end same items ∙ taken;
    ordered = up;
    within = place_fits b.end v;
  }
    where
      less : place b.end < count
      less = place_fits b.end v

      same : order (value (place b.end)) b.end ≡ Equal
      same =
          in_order (value (place b.end)) b.end (value_is_value (place b.end) less) v ∙ ap (λ p. nat_cmp p (place b.end)) (place_of_value (place b.end) less)
          ∙ Equal-self nat_cmp_total (place b.end)

  -- a set that takes more values has the same bounds
  pub IsBound-more : (old new : List K) (f : K → Bool) → ((x : K) → member order new x ≡ (member order old x || f x)) →
      (b : GapBound K) → IsBound order value place count old b → IsBound order value place count new b
  IsBound-more old new f members b it = record {
    most = λ n at fit. it.most n at (before n at fit);
    aligned = λ at even fit. it.aligned at even (before b.count at fit);
    closed = members (value (place b.end)) ∙ or-true (member order old (value (place b.end))) (f (value (place b.end))) it.closed;
    ordered = it.ordered;
    within = it.within;
  }
    where
      before : (n at : ℕ) → IsFit order value false new (place b.start) (place b.end) n at → IsFit order value false old (place b.start) (place b.end) n at
      before n at fit = record {
        from = fit.from;
        up_to = fit.up_to;
        alike = λ k a z. or-false (member order old (value k)) (f (value k)) (sym (members (value k)) ∙ fit.alike k a z);
      }

  module _ (old new : List K) (s e : K) (v : is_value s) (w : is_value e)
      (members : (x : K) → member order new x ≡ (member order old x && not (is_le (order s x) && is_lt (order x e)))) where
    below : (k : ℕ) → k < count → k < place s → member order new (value k) ≡ member order old (value k)
    below k less low =
        members (value k)
        ∙ ap (λ t. member order old (value k) && not (t && is_lt (order (value k) e)))
        (ap is_le (Greater-value o is_value value place count value_is_value place_of_value place_fits in_order s k v less low))
        ∙ and-true-right (member order old (value k))
      where
        and-true-right : (p : Bool) → (p && true) ≡ p
        and-true-right true = refl
        and-true-right false = refl

    above : (k : ℕ) → k < count → place e ≤ k → member order new (value k) ≡ member order old (value k)
    above k less high =
        members (value k)
        ∙ ap (λ t. member order old (value k) && not (is_le (order s (value k)) && t)) (is_lt-value e k w less high)
        ∙ same (member order old (value k)) (is_le (order s (value k)))
      where
        same : (p q : Bool) → (p && not (q && false)) ≡ p
        same true true = refl
        same true false = refl
        same false true = refl
        same false false = refl

    -- a set that frees values has the bounds that speak of none of them
    pub IsBound-less : (b : GapBound K) → IsBound order value place count old b → is_apart place (place s) (place e) b ≡ true → IsBound order value place count new b
    IsBound-less b it apart = record {
      most = λ n at fit. it.most n at (before n at fit);
      aligned = λ at even fit. it.aligned at even (before b.count at fit);
      closed = same (place b.end) it.ordered (omega arith) ∙ it.closed;
      ordered = it.ordered;
      within = it.within;
    }
      where
        sides : nat_lt (place b.end) (place s) ≡ false → nat_le (place e) (place b.start) ≡ true
        sides off = ap (λ t. t || nat_le (place e) (place b.start)) (sym off) ∙ apart

        same : (k : ℕ) → place b.start ≤ k → k ≤ place b.end → member order new (value k) ≡ member order old (value k)
        same k a z =
            elim (cases_lt (place b.end) (place s)) as (λ _. member order new (value k) ≡ member order old (value k)) [
              | inl low ↦ below k (omega (arith, z, it.within)) (omega (arith, z, low))
              | inr high ↦
                  let off : nat_lt (place b.end) (place s) ≡ false = grind (arith, nat_tests) in
                  let from : nat_le (place e) (place b.start) ≡ true = sides off in
                  let after : place e ≤ place b.start = grind (arith, nat_tests) in
                  above k (omega (arith, z, it.within)) (omega (arith, after, a))
            ]

        before : (n at : ℕ) → IsFit order value false new (place b.start) (place b.end) n at → IsFit order value false old (place b.start) (place b.end) n at
        before n at fit = record {
          from = fit.from;
          up_to = fit.up_to;
          alike = λ k a z. sym (same k (omega (arith, fit.from, a)) (omega (arith, fit.up_to, z))) ∙ fit.alike k a z;
        }

  -- `n` values in a row don't begin before the end of a bound that excludes them
  pub IsPast-known : (items : List K) (b : GapBound K) → IsBound order value place count items b → (from end : K) (n : ℕ) (m : Multiples) → excludes n m b ≡ true →
      place b.start ≤ place from → place from < place b.end → IsPast order value place items from end n m b.end
  IsPast-known items b it from end n m low a z = record { past = z; above = above_it }
    where
      none_inside : (at : ℕ) → IsOneOf m at → IsFit order value false items (place b.start) (place b.end) n at → ⊥
      none_inside at even fit = by_most (nat_lt b.most n) refl
        where
          by_most : (t : Bool) → nat_lt b.most n ≡ t → ⊥
          by_most true e =
              let more : b.most < n = grind (arith, nat_tests) in
              omega (arith, more, it.most n at fit)
          by_most false e =
              let among = are_among m b.multiples in
              let both = and-true (nat_le b.count n) among (ap (λ t. t || (nat_le b.count n && among)) (sym e) ∙ low) in
              let enough : nat_le b.count n ≡ true = both.0 in
              let fewer : b.count ≤ n = grind (arith, nat_tests) in
              it.aligned at (IsOneOf-among_others m b.multiples both.1 at even)
              (record { from = fit.from; up_to = omega (arith, fit.up_to, fewer); alike = λ k f t. fit.alike k f (omega (arith, t, fewer)) })

      above_it : (at : ℕ) → IsOneOf m at → IsFit order value false items (place from) (place end) n at → place b.end ≤ at
      above_it at even fit =
          elim (cases_lt at (place b.end)) as (λ _. place b.end ≤ at) [
            | inl before ↦
                elim (cases_lt (place b.end) (at + n)) as (λ _. place b.end ≤ at) [
                  | inl over ↦ absurd (true≢false (sym it.closed ∙ fit.alike (place b.end) (omega (arith, before)) over))
                  | inr inside ↦ absurd (none_inside at even (record { from = omega (arith, a, fit.from); up_to = inside; alike = fit.alike }))
                ]
            | inr fine ↦ fine
          ]

  module _ (old new : List K) (r : Result (Unit {0}) AllocError) (bounds : List (GapBound K)) (before : All (IsBound order value place count old) bounds) (unchanged : OnErr r (new ≡ old)) where
    -- what is known of gaps where values were to be taken
    pub bounds-more : (f : K → Bool) → OnOk r ((x : K) → member order new x ≡ (member order old x || f x)) → All (IsBound order value place count new) bounds
    bounds-more f members = by_result r members unchanged
      where
        by_result : (r : Result (Unit {0}) AllocError) → OnOk r ((x : K) → member order new x ≡ (member order old x || f x)) → OnErr r (new ≡ old) →
            All (IsBound order value place count new) bounds
        by_result (Ok u) h e = All-weaker (IsBound order value place count old) (IsBound order value place count new) (IsBound-more old new f h) bounds before
        by_result (Err x) h e = subst (λ items. All (IsBound order value place count items) bounds) (sym e) before

    -- and where values from s on to below e were to be freed
    pub bounds-less : (s e : K) → is_value s → is_value e → OnOk r ((x : K) → member order new x ≡ (member order old x && not (is_le (order s x) && is_lt (order x e)))) →
        All (IsBound order value place count new) (filter (is_apart place (place s) (place e)) bounds)
    bounds-less s e v w members = by_result r members unchanged
      where
        by_result : (r : Result (Unit {0}) AllocError) → OnOk r ((x : K) → member order new x ≡ (member order old x && not (is_le (order s x) && is_lt (order x e)))) → OnErr r (new ≡ old) →
            All (IsBound order value place count new) (filter (is_apart place (place s) (place e)) bounds)
        by_result (Ok u) h same = All-passed (IsBound order value place count old) (IsBound order value place count new) (is_apart place (place s) (place e)) (IsBound-less old new s e v w h) bounds before
        by_result (Err x) h same =
            subst (λ items. All (IsBound order value place count items) (filter (is_apart place (place s) (place e)) bounds)) (sym same)
            (All-filter (is_apart place (place s) (place e)) (IsBound order value place count old) bounds before)
