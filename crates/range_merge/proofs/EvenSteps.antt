-- Steps of a read in windows that begin at even places.
--     takes-then, odd-then               whether a step takes what it reads
--     IsStep-of, AreSixteen-window       a step, and up to sixteen in windows of two lists
--     Came, Came-sixteen                 how far a read came after some looks
use Rattle.std.proofs.Common.{◌≡◌, refl, ap, sym, ◌∙◌, ℕ, zero, suc, ◌+◌, ◌-◌, ◌<◌, ◌≤◌, ◌%◌, ◌==◌, Bool, true, false, not, ◌&&◌, cond, List, [], ◌∷◌, ◌++◌, length, take, drop, slice_get, Some, inl, inr, arith}
use Rattle.std.proofs.Math.Bool.{beq}
use Rattle.std.proofs.lemmas.Bool.{false≢true}
use borrow.Rule.Slice.PartMut.{put_mid}
use Rattle.std.proofs.lemmas.List.{append-nil, drop-drop, length-drop}
use Rattle.std.proofs.lemmas.Option.{slice_get_within}
use Rattle.std.specs.Cmp.{IsTotalOrder}
use Rattle.std.specs.Ordering.{is_le, is_ge}
use Rattle.std.specs.declared.cmp.Ordering.{Ordering}
use Rattle.std.specs.declared.cmp.Ordering.TheVariants.{Less, Equal, Greater}
use Rattle.range_merge.specs.Boundaries.{IsAscending, is_odd}
use Rattle.range_merge.specs.Connective.{Table, differ}
use Rattle.range_merge.specs.Copies.{IsAppended, items_if}
use Rattle.range_merge.specs.ShortRuns.{odd_from, lefts_of, rights_of, Place, place, Then, IsStep, AreFour, IsLooked, AreSixteen}
use Rattle.range_merge.specs.OneRun.{FirstsStand, one_of_run, takes}
use Rattle.range_merge.proofs.Parity.{differ-comm, differ-false, is_odd-add}
use Rattle.range_merge.proofs.CopySteps.{FirstsStand-of, IsAppended-behind, Reads, Reads-looked, Reads-more, odd-lefts, slice_get-drop, take-first, take-window}

-- two changes from the same, or both to it
either : (x y z : Bool) → not (beq (differ x y) (differ x z)) ≡ differ y z
either true true true = refl
either true true false = refl
either true false true = refl
either true false false = refl
either false true true = refl
either false true false = refl
either false false true = refl
either false false false = refl

-- an item of the left list and then one of the right change the answer as both do
takes-both : (f : Table) (ac bc : Bool) → not (beq (differ (f false bc) (f true bc)) (differ (f (not ac) false) (f (not ac) true))) ≡ differ (f ac bc) (f (not ac) (not bc))
takes-both f true true = rw (differ-comm (f false false) (f false true)) (either (f false true) (f true true) (f false false))
takes-both f true false = either (f false false) (f true false) (f false true)
takes-both f false true = rw (differ-comm (f false true) (f true true), differ-comm (f true false) (f true true)) (either (f true true) (f false true) (f true false))
takes-both f false false = rw (differ-comm (f false false) (f true false)) (either (f true false) (f false false) (f true true))

-- whether a step takes what it reads, from how the right side stands before it and the left one after it
pub takes-then : (f : Table) (how : Ordering) (ac bc then_ac left right : Bool) → then_ac ≡ differ ac (is_le how)
    → left ≡ differ (f false bc) (f true bc) → right ≡ differ (f then_ac false) (f then_ac true)
    → not (beq (is_le how && left) (is_ge how && right)) ≡ takes f ac bc (one_of_run how)
takes-then f Less ac bc then_ac left right then_is left_is right_is = rw left_is (alone (differ (f false bc) (f true bc)))
  where
    alone : (x : Bool) → not (beq x false) ≡ x
    alone true = refl
    alone false = refl
takes-then f Equal ac bc then_ac left right then_is left_is right_is = rw (left_is, right_is, then_is, changed ac) (takes-both f ac bc)
  where
    changed : (ac : Bool) → differ ac true ≡ not ac
    changed true = refl
    changed false = refl
takes-then f Greater ac bc then_ac left right then_is left_is right_is = rw (right_is, then_is, differ-false ac) (alone (differ (f ac false) (f ac true)))
  where
    alone : (x : Bool) → not (beq false x) ≡ x
    alone true = refl
    alone false = refl

-- the answer for a truth, of those for both
pub chosen : (b off on : Bool) (f : Bool → Bool) → off ≡ f false → on ≡ f true → not (beq off (b && not (beq off on))) ≡ f b
chosen true true true f off_is on_is = on_is
chosen true true false f off_is on_is = on_is
chosen true false true f off_is on_is = on_is
chosen true false false f off_is on_is = on_is
chosen false true on f off_is on_is = off_is
chosen false false on f off_is on_is = off_is

-- a step reads one item or two
pub reads-one : (how : Ordering) → 1 ≤ lefts_of how + rights_of how
reads-one Less = omega arith
reads-one Equal = omega arith
reads-one Greater = omega arith

-- how the left side stands after a step
pub odd-then : (how : Ordering) (i i' : ℕ) → i' ≡ i + lefts_of how → is_odd i' ≡ differ (is_odd i) (is_le how)
odd-then Less i i' e = ap is_odd e ∙ is_odd-add i 1
odd-then Equal i i' e = ap is_odd e ∙ is_odd-add i 1
odd-then Greater i i' e = odd-lefts Greater i i' e ∙ sym (differ-false (is_odd i))

-- places in lists that begin at even ones
pub few-even : (n : ℕ) → n ≤ 1 → n % 2 ≡ n
few-even zero few = refl
few-even (suc zero) few = refl
few-even (suc (suc n)) few = absurd (omega (arith, few))

odd-behind : (p u : ℕ) → is_odd p ≡ false → is_odd (p + u) ≡ is_odd u
odd-behind p u even = is_odd-add p u ∙ ap (λ b. differ b (is_odd u)) even

pub even-part : (n : ℕ) → is_odd (n - n % 2) ≡ false
even-part n = ap (λ m. m == 1) (none n)
  where
    none : (n : ℕ) → (n - n % 2) % 2 ≡ 0
    none n = omega arith

pub even-then : (p n : ℕ) → is_odd p ≡ false → is_odd (p + (n - n % 2)) ≡ false
even-then p n p_even = odd-behind p (n - n % 2) p_even ∙ even-part n

-- how a side stands at its first unread item
pub odd-from : (i0 : ℕ) (on : Bool) → i0 ≡ odd_from on → is_odd i0 ≡ on
odd-from i0 true e = ap is_odd e
odd-from i0 false e = ap is_odd e

-- the last even place, and what comes after it
pub parted : (n : ℕ) {m : ℕ} → m ≡ n % 2 → n - n % 2 + m ≡ n
parted n e = omega (arith, e)

pub one-few : (n : ℕ) {m : ℕ} → m ≡ n % 2 → m ≤ 1
one-few n e = omega (arith, e)

module _ {K : Type 0} where
  -- how many items stand before those that are left
  pub before-rest : (p : ℕ) (xs rest : List K) → rest ≡ drop p xs → p ≤ length xs → length xs ≡ length rest + p
  before-rest p xs rest is within = omega (arith, ap length is, length-drop p xs, within)

  -- the unread items of a list that begins at its last even place, and what is left after some
  pub first-unread : (xs unread : List K) (i0 : ℕ) (on : Bool) → i0 ≡ odd_from on → drop (odd_from on) xs ≡ unread → drop i0 xs ≡ unread
  first-unread xs unread i0 on e is = ap (λ n. drop n xs) e ∙ is

  pub rest-read : (xs unread : List K) (i0 i : ℕ) (on : Bool) → i0 ≡ odd_from on → drop (odd_from on) xs ≡ unread → i0 ≤ i → drop i xs ≡ drop (i - i0) unread
  rest-read xs unread i0 i on e is more =
      let sum : i ≡ i0 + (i - i0) = omega (arith, more) in
      ap (λ n. drop n xs) sum ∙ sym (drop-drop (i - i0) i0 xs) ∙ ap (drop (i - i0)) (first-unread xs unread i0 on e is)

  -- an item in what is left behind some
  pub item-behind : (n u m : ℕ) (xs : List K) (x : K) → n + u ≡ m → slice_get xs m ≡ Some x → slice_get (drop n xs) u ≡ Some x
  item-behind n u m xs x m_is is =
      let sum : m ≡ n + u = sym m_is in
      rest n u xs x (rw sum at is)
    where
      none : (u : ℕ) → 0 + u ≡ u
      none u = omega arith

      more : (n u : ℕ) → suc n + u ≡ suc (n + u)
      more n u = omega arith

      rest : (n u : ℕ) (xs : List K) (x : K) → slice_get xs (n + u) ≡ Some x → slice_get (drop n xs) u ≡ Some x
      rest zero u xs x is = rw (none u) at is
      rest (suc n) u [] x is = absurd cc
      rest (suc n) u (y ∷ xs) x is = rest n u xs x (rw (more n u) at is)

  -- the first items of what is behind in a window, and of the whole
  pub FirstsStand-take : (order : K → K → Ordering) (m n : ℕ) (l r : List K) (how : Ordering) → FirstsStand order (take m l) (take n r) (Some how) → FirstsStand order l r (Some how)
  FirstsStand-take order zero n l r how h = absurd (omega (arith, h.0))
  FirstsStand-take order (suc m) zero l r how h = absurd (omega (arith, h.1))
  FirstsStand-take order (suc m) (suc n) [] r how h = absurd (omega (arith, h.0))
  FirstsStand-take order (suc m) (suc n) (x ∷ l) [] how h = absurd (omega (arith, h.1))
  FirstsStand-take order (suc m) (suc n) (x ∷ l) (y ∷ r) how h = (omega arith, omega arith, h.2)

  take-none : (n : ℕ) → take {A = K} n [] ≡ []
  take-none zero = refl
  take-none (suc n) = refl

  pub drop-of_take : (u n : ℕ) (xs : List K) → drop u (take n xs) ≡ take (n - u) (drop u xs)
  drop-of_take zero n xs =
      let same : n ≡ n - 0 = omega arith in
      ap (λ k. take k xs) same
  drop-of_take (suc u) zero xs =
      let same : 0 ≡ 0 - suc u = omega arith in
      ap (λ k. take k (drop (suc u) xs)) same
  drop-of_take (suc u) (suc n) [] = sym (take-none (suc n - suc u))
  drop-of_take (suc u) (suc n) (x ∷ xs) =
      let same : n - u ≡ suc n - suc u = omega arith in
      drop-of_take u n xs ∙ ap (λ k. take k (drop u xs)) same

  -- the first items from a place of a window on
  first-in : (n i : ℕ) (xs : List K) → i < length (take n xs) → take 1 (drop i (take n xs)) ≡ take 1 (drop i xs)
  first-in zero i xs some = absurd (omega (arith, some))
  first-in (suc n) i [] some = absurd (omega (arith, some))
  first-in (suc n) zero (x ∷ xs) some = refl
  first-in (suc n) (suc i) (x ∷ xs) some = first-in n i xs (omega (arith, some))

  within-window : (n i : ℕ) (xs : List K) → i < length (take n xs) → i < length xs
  within-window zero i xs some = absurd (omega (arith, some))
  within-window (suc n) i [] some = absurd (omega (arith, some))
  within-window (suc n) zero (x ∷ xs) some = omega arith
  within-window (suc n) (suc i) (x ∷ xs) some = omega (arith, within-window n i xs (omega (arith, some)))

  pub window-item : (n u : ℕ) (xs : List K) (x : K) → u < n → slice_get xs u ≡ Some x → slice_get (take n xs) u ≡ Some x
  window-item zero u xs x few is = absurd (omega (arith, few))
  window-item (suc n) u [] x few is = is
  window-item (suc n) zero (y ∷ xs) x few is = is
  window-item (suc n) (suc u) (y ∷ xs) x few is = window-item n u xs x (omega (arith, few)) is

  -- the same place in a longer output
  abbrev behind : List K → Place K → Place K
  behind front at = place at.i at.j (front ++ at.out) at.next at.long at.made

  Then-map : {R S R' S' : Place K → Place K → Type 0} (front : List K) → ((x y : Place K) → R x y → R' (behind front x) (behind front y))
      → ((x y : Place K) → S x y → S' (behind front x) (behind front y)) → (x y : Place K) → Then R S x y → Then R' S' (behind front x) (behind front y)
  Then-map front r s x y h = record { mid = behind front h.mid; first = r x h.mid h.first; rest = s h.mid y h.rest }

module _ {K : Type 0} (alike : K → K → Type 0) (order : K → K → Ordering) (f : Table) (a b : List K) where
  -- a step, of which the first items are known
  pub IsStep-of : {i j : ℕ} {old : List K} {how : Ordering} {long : Bool} {made : ℕ} {i' j' : ℕ} {new : List K} {next : Ordering} {long' : Bool} {made' : ℕ} {x y x' y' : K}
      → slice_get a i ≡ Some x → slice_get b j ≡ Some y → i' ≡ i + lefts_of how → j' ≡ j + rights_of how
      → IsAppended alike (items_if (takes f (is_odd i) (is_odd j) (one_of_run how)) (cond (is_le how) x y ∷ [])) old new
      → slice_get a i' ≡ Some x' → slice_get b j' ≡ Some y' → order x' y' ≡ next → made' ≡ made + 1
      → IsStep alike order f a b (place i j old how long made) (place i' j' new next long' made')
  IsStep-of {i} {j} {how} {i'} {j'} {next} {x} {y} {x'} {y'} x_is y_is lefts rights put x'_is y'_is stands counted = record {
    left_some = slice_get_within a i x x_is;
    right_some = slice_get_within b j y y_is;
    lefts = lefts;
    rights = rights;
    put = rw (← take-first how (drop i a) (drop j b) x y (slice_get-drop a i x x_is) (slice_get-drop b j y y_is)) put;
    stands = FirstsStand-of order (drop i' a) (drop j' b) x' y' next (slice_get-drop a i' x' x'_is) (slice_get-drop b j' y' y'_is) stands;
    counted = counted;
  }

  module _ (n n' : ℕ) (front : List K) where
    firsts-in : (how : Ordering) (i j : ℕ) → i < length (take n a) → j < length (take n' b)
        → take 1 (cond (is_le how) (drop i (take n a)) (drop j (take n' b))) ≡ take 1 (cond (is_le how) (drop i a) (drop j b))
    firsts-in Less i j lefts rights = first-in n i a lefts
    firsts-in Equal i j lefts rights = first-in n i a lefts
    firsts-in Greater i j lefts rights = first-in n' j b rights

    -- a step in windows is one of the lists
    IsStep-window : (x y : Place K) → IsStep alike order f (take n a) (take n' b) x y → IsStep alike order f a b (behind front x) (behind front y)
    IsStep-window x y s = record {
      left_some = within-window n x.i a s.left_some;
      right_some = within-window n' x.j b s.right_some;
      lefts = s.lefts;
      rights = s.rights;
      put = IsAppended-behind front refl (firsts-in x.next x.i x.j s.left_some s.right_some) s.put;
      stands = FirstsStand-take order (n - y.i) (n' - y.j) (drop y.i a) (drop y.j b) y.next (rw (← drop-of_take y.i n a, ← drop-of_take y.j n' b) s.stands);
      counted = s.counted;
    }

    AreFour-window : (x y : Place K) → AreFour alike order f (take n a) (take n' b) x y → AreFour alike order f a b (behind front x) (behind front y)
    AreFour-window = Then-map front IsStep-window (Then-map front IsStep-window (Then-map front IsStep-window IsStep-window))

    IsLooked-window : (x y : Place K) → IsLooked alike order f (take n a) (take n' b) x y → IsLooked alike order f a b (behind front x) (behind front y)
    IsLooked-window x y (inl same) = inl (same.0, ap (behind front) same.1)
    IsLooked-window x y (inr steps) = inr (steps.0, AreFour-window x y steps.1, steps.2)

    pub AreSixteen-window : (x y : Place K) → AreSixteen alike order f (take n a) (take n' b) x y → AreSixteen alike order f a b (behind front x) (behind front y)
    AreSixteen-window = Then-map front IsLooked-window (Then-map front IsLooked-window (Then-map front IsLooked-window IsLooked-window))

  -- in the windows what comes is put into a room of the output
  pub AreSixteen-room : (n n' k m q u v : ℕ) (out room : List K) (x y : Place K) → u ≡ x.i → v ≡ x.j → x.out ≡ [] → y.out ≡ take q room → k ≤ length out → q ≤ length room
      → AreSixteen alike order f (take n a) (take n' b) x y
      → AreSixteen alike order f a b (place u v (take k out) x.next x.long x.made) (place y.i y.j (take (k + q) (put_mid k m out room)) y.next y.long y.made)
  AreSixteen-room n n' k m q u v out room x y u_is v_is none put in_out in_room s =
      rw (u_is, v_is, take-window k m q out room in_out in_room) (rw (none, append-nil (take k out), put) at (AreSixteen-window n n' (take k out) x y s))

  -- four steps read four items
  AreFour-reads : (x y : Place K) → AreFour alike order f a b x y → x.i + x.j + 4 ≤ y.i + y.j
  AreFour-reads x y s =
      let one = s.first in
      let two = s.rest.first in
      let three = s.rest.rest.first in
      let four = s.rest.rest.rest in
      omega (
        arith,
        one.lefts,
        one.rights,
        two.lefts,
        two.rights,
        three.lefts,
        three.rights,
        four.lefts,
        four.rights,
        reads-one x.next,
        reads-one s.mid.next,
        reads-one s.rest.mid.next,
        reads-one s.rest.rest.mid.next,
      )

  IsLooked-reads : (x y : Place K) → IsLooked alike order f a b x y → x.i + x.j ≤ y.i + y.j
  IsLooked-reads x y (inl same) = rw same.1 (omega arith)
  IsLooked-reads x y (inr steps) = omega (arith, AreFour-reads x y steps.1)

  pub AreSixteen-reads : (x y : Place K) → x.long ≡ false → AreSixteen alike order f a b x y → x.i + x.j + 4 ≤ y.i + y.j
  AreSixteen-reads x y short s = omega (arith, first x s.mid short s.first, IsLooked-reads s.mid s.rest.mid s.rest.first, IsLooked-reads s.rest.mid s.rest.rest.mid s.rest.rest.first, IsLooked-reads s.rest.rest.mid y s.rest.rest.rest)
    where
      first : (x y : Place K) → x.long ≡ false → IsLooked alike order f a b x y → x.i + x.j + 4 ≤ y.i + y.j
      first x y short (inl same) = absurd (false≢true (sym short ∙ same.0))
      first x y short (inr steps) = AreFour-reads x y steps.1

  module _ (i0 j0 count0 p q : ℕ) where
    -- how far a read came after some looks, in lists that begin at p and q
    pub record Came (at : Place K) : Type 0 where
      pub m : ℕ
      pub i1 : ℕ
      pub j1 : ℕ
      pub few : m ≤ 4
      pub reads : Reads alike order f a b i0 j0 count0 m i1 j1 (p + at.i) (q + at.j) at.out at.made at.next
      pub on : at.long ≡ false → Reads alike order f a b i0 j0 count0 0 (p + at.i) (q + at.j) (p + at.i) (q + at.j) at.out at.made at.next

    module _ (o : IsTotalOrder order) (a_ascends : IsAscending order (drop i0 a)) (b_ascends : IsAscending order (drop j0 b)) (p_even : is_odd p ≡ false) (q_even : is_odd q ≡ false) where
      Reads-step : {m i1 j1 : ℕ} (x y : Place K) → m ≤ 3 → Reads alike order f a b i0 j0 count0 m i1 j1 (p + x.i) (q + x.j) x.out x.made x.next
          → IsStep alike order f (drop p a) (drop q b) x y → Reads alike order f a b i0 j0 count0 (m + 1) i1 j1 (p + y.i) (q + y.j) y.out y.made y.next
      Reads-step x y few w s =
          Reads-more alike order f a b i0 j0 o a_ascends b_ascends few w (omega (arith, s.lefts)) (omega (arith, s.rights))
          (rw (← drop-drop x.i p a, ← drop-drop x.j q b, odd-behind p x.i p_even, odd-behind q x.j q_even) s.put)
          (rw (← drop-drop y.i p a, ← drop-drop y.j q b) s.stands) s.counted

      Reads-four : (x y : Place K) → Reads alike order f a b i0 j0 count0 0 (p + x.i) (q + x.j) (p + x.i) (q + x.j) x.out x.made x.next
          → AreFour alike order f (drop p a) (drop q b) x y → Reads alike order f a b i0 j0 count0 4 (p + x.i) (q + x.j) (p + y.i) (q + y.j) y.out y.made y.next
      Reads-four x y w s =
          let one = Reads-step x s.mid (omega arith) w s.first in
          let two = Reads-step s.mid s.rest.mid (omega arith) one s.rest.first in
          let three = Reads-step s.rest.mid s.rest.rest.mid (omega arith) two s.rest.rest.first in
          Reads-step s.rest.rest.mid y (omega arith) three s.rest.rest.rest

      Came-looked : (x y : Place K) → Came x → IsLooked alike order f (drop p a) (drop q b) x y → Came y
      Came-looked x y w (inl same) = rw same.1 w
      Came-looked x y w (inr steps) =
          let four = Reads-four x y (w.on steps.0) steps.1 in
          record {
            m = 4;
            i1 = p + x.i;
            j1 = q + x.j;
            few = omega arith;
            reads = four;
            on = λ short. Reads-looked alike order f a b i0 j0 o a_ascends b_ascends p q x.i x.j y.i y.j four (steps.2 short);
          }

      pub Came-sixteen : (x y : Place K) → Reads alike order f a b i0 j0 count0 0 (p + x.i) (q + x.j) (p + x.i) (q + x.j) x.out x.made x.next
          → AreSixteen alike order f (drop p a) (drop q b) x y → Came y
      Came-sixteen x y w s =
          let from : Came x = record { m = 0; i1 = p + x.i; j1 = q + x.j; few = omega arith; reads = w; on = λ _. w } in
          let four = Came-looked x s.mid from s.first in
          let eight = Came-looked s.mid s.rest.mid four s.rest.first in
          let twelve = Came-looked s.rest.mid s.rest.rest.mid eight s.rest.rest.first in
          Came-looked s.rest.rest.mid y twelve s.rest.rest.rest
