-- One step of a read: the item that it puts out, or none (IsAppended-one), and how far it came.
--     Reads, Reads-four, Reads-looked    how far a read came: some steps after a look, four, and at a look
--     Reads-cost, Reads-made             what it cost
use Rattle.std.proofs.Common.{◌≡◌, refl, ap, sym, ◌∙◌, ℕ, zero, suc, ◌+◌, ◌-◌, ◌*◌, ◌^◌, ◌<◌, ◌≤◌, Bool, true, false, not, ◌&&◌, cond, List, [], ◌∷◌, ◌++◌, length, map, take, drop, get_or, slice_get, append_assoc, Option, Some, None, ◌⊎◌, inl, inr, eq-zero-or-pos, arith}
use Rattle.std.proofs.Math.Bool.{beq}
use mir.Val.{bool_byte}
use Rattle.std.proofs.Math.ListN.{set}
use Rattle.std.proofs.Math.Seq.{drop-cons, drop-append-add, take-append-add}
use Rattle.std.proofs.lemmas.List.{append-nil, drop-append-le, drop-drop, drop-set, drop-set-lt, length-set, length-take-le, take-append-drop, take-take, take_more_set}
use Rattle.std.proofs.lemmas.Option.{get_or_from_slice_get, slice_get_within}
use Rattle.std.proofs.lemmas.Slice.{take-put_mid}
use borrow.Rule.Slice.PartMut.{put_mid}
use Rattle.std.specs.Cmp.{IsTotalOrder}
use Rattle.std.specs.Ordering.{is_le, is_ge}
use Rattle.std.specs.declared.cmp.Ordering.{Ordering}
use Rattle.std.specs.declared.cmp.Ordering.TheVariants.{Less, Equal, Greater}
use Rattle.range_merge.specs.Boundaries.{IsAscending, is_odd}
use Rattle.range_merge.specs.Changes.{Taken, taken_item, taken_items}
use Rattle.range_merge.specs.Connective.{Table, differ}
use Rattle.range_merge.specs.Copies.{AreCopies, IsAppended, items_if}
use Rattle.range_merge.specs.Owners.{Owner, left_only, right_only, shared}
use Rattle.range_merge.specs.Stages.{Progress}
use Rattle.range_merge.specs.Runs.{joined, runs, runs_of, weight, weight_of}
use Rattle.range_merge.specs.ShortRuns.{lefts_of, rights_of, IsLong, IsRead}
use Rattle.range_merge.specs.OneRun.{FirstsStand, one_of_run, takes, taken_of_run, left_after, right_after, left_on_after, right_on_after}
use Rattle.range_merge.specs.declared.runs.Run.{Run}
use Rattle.range_merge.specs.declared.runs.Run.TheVariants.{Left, Right, Both}
use Rattle.range_merge.proofs.CopiesLemmas.{AllZip-append, AreCopies-from_items, taken_items-taken_left, taken_items-taken_right}
use Rattle.range_merge.proofs.FirstRun.{one_stands}
use Rattle.range_merge.proofs.FirstRuns.{first_both}
use Rattle.range_merge.proofs.MergeLoop.{Progress-none, Progress-run, Progress-then}
use Rattle.range_merge.proofs.Orders.{Less-from_greater}
use Rattle.range_merge.proofs.Pairs.{AllPairs-drop}
use Rattle.range_merge.proofs.Parity.{differ-comm, differ-self, is_odd-add, is_odd-suc}
use Rattle.range_merge.proofs.RunsFound as found
use Rattle.range_merge.proofs.ShortRuns.{before, grown, read_of, goes_on, before-weighs, IsOwed, grown-pays, ended-pays, IsSince, IsSince-more, IsSince-none, ended-at}
use Rattle.range_merge.proofs.Digits as numbers

pub byte-le : (how : Ordering) → bool_byte (is_le how) ≡ lefts_of how
byte-le Less = refl
byte-le Equal = refl
byte-le Greater = refl

pub byte-ge : (how : Ordering) → bool_byte (is_ge how) ≡ rights_of how
byte-ge Less = refl
byte-ge Equal = refl
byte-ge Greater = refl

pub byte-few : (b : Bool) → bool_byte b ≤ 1
byte-few true = omega arith
byte-few false = omega arith

-- a step puts out no more than it reads
pub at-most_read : (taken : Bool) (how : Ordering) (i j k : ℕ) {i' j' : ℕ} → i' ≡ i + lefts_of how → j' ≡ j + rights_of how → (k + bool_byte taken) + (i + j) ≤ k + (i' + j')
at-most_read true Less i j k left right = omega (arith, left, right)
at-most_read true Equal i j k left right = omega (arith, left, right)
at-most_read true Greater i j k left right = omega (arith, left, right)
at-most_read false how i j k left right = omega (arith, left, right)

-- the item that was picked, as a list
pub picked : {X : Type 0} (b c : Bool) (x y : X) {r : X} → r ≡ cond b x y → b ≡ c → cond c x y ∷ [] ≡ r ∷ []
picked b c x y e same = ap (λ z. z ∷ []) (sym (rw same at e))

-- whether the answer differs from the one where both sides are off
abbrev is_answer : Table → Bool → Bool → Bool
is_answer f ac bc = differ (f false false) (f ac bc)

differ-through : (x y z : Bool) → not (beq (differ x y) (differ z x)) ≡ differ z y
differ-through true true true = refl
differ-through true true false = refl
differ-through true false true = refl
differ-through true false false = refl
differ-through false true true = refl
differ-through false true false = refl
differ-through false false true = refl
differ-through false false false = refl

-- it does from where the right side changes, and then the left one
pub answer-changes : (f : Table) (ac bc left right : Bool) → left ≡ differ (f false bc) (f true bc) → right ≡ differ (f false false) (f false true)
    → not (beq (ac && left) (bc && right)) ≡ is_answer f ac bc
answer-changes f true true left right left_is right_is = rw (left_is, right_is) (differ-through (f false true) (f true true) (f false false))
answer-changes f true false left right left_is right_is = rw left_is (alone (differ (f false false) (f true false)))
  where
    alone : (x : Bool) → not (beq x false) ≡ x
    alone true = refl
    alone false = refl
answer-changes f false true left right left_is right_is = rw right_is (alone (differ (f false false) (f false true)))
  where
    alone : (x : Bool) → not (beq false x) ≡ x
    alone true = refl
    alone false = refl
answer-changes f false false left right left_is right_is = sym (differ-self (f false false))

differ-answers : (z x y : Bool) → not (beq (differ z y) (differ z x)) ≡ differ x y
differ-answers true true true = refl
differ-answers true true false = refl
differ-answers true false true = refl
differ-answers true false false = refl
differ-answers false true true = refl
differ-answers false true false = refl
differ-answers false false true = refl
differ-answers false false false = refl

-- the answer changes just where an item is taken
takes-answers : (f : Table) (how : Ordering) (ac bc : Bool)
    → not (beq (is_answer f (left_on_after (one_of_run how) ac) (right_on_after (one_of_run how) bc)) (is_answer f ac bc)) ≡ takes f ac bc (one_of_run how)
takes-answers f Less true bc = differ-answers (f false false) (f true bc) (f false bc) ∙ differ-comm (f true bc) (f false bc)
takes-answers f Less false bc = differ-answers (f false false) (f false bc) (f true bc)
takes-answers f Equal ac bc = differ-answers (f false false) (f ac bc) (f (not ac) (not bc))
takes-answers f Greater ac true = differ-answers (f false false) (f ac true) (f ac false) ∙ differ-comm (f ac true) (f ac false)
takes-answers f Greater ac false = differ-answers (f false false) (f ac false) (f ac true)

-- the sides after one step
pub odd-lefts : (how : Ordering) (i i' : ℕ) → i' ≡ i + lefts_of how → is_odd i' ≡ left_on_after (one_of_run how) (is_odd i)
odd-lefts Less i i' e = ap is_odd e ∙ is_odd-add i 1 ∙ odd-one (is_odd i)
  where
    odd-one : (b : Bool) → differ b true ≡ differ b (is_odd 1)
    odd-one b = refl
odd-lefts Equal i i' e = ap is_odd (suc-is i i' e) ∙ is_odd-suc i
  where
    suc-is : (i i' : ℕ) → i' ≡ i + 1 → i' ≡ suc i
    suc-is i i' e = omega (arith, e)
odd-lefts Greater i i' e = ap is_odd (same-is i i' e)
  where
    same-is : (i i' : ℕ) → i' ≡ i + 0 → i' ≡ i
    same-is i i' e = omega (arith, e)

odd-rights : (how : Ordering) (j j' : ℕ) → j' ≡ j + rights_of how → is_odd j' ≡ right_on_after (one_of_run how) (is_odd j)
odd-rights Less j j' e = odd-lefts Greater j j' e
odd-rights Equal j j' e = odd-lefts Equal j j' e
odd-rights Greater j j' e = odd-lefts Less j j' e

-- the item of a step is taken, if the answer changed
pub is_taken : (f : Table) (how : Ordering) (i j i' j' : ℕ) (on was : Bool) → i' ≡ i + lefts_of how → j' ≡ j + rights_of how
    → on ≡ is_answer f (is_odd i') (is_odd j') → was ≡ is_answer f (is_odd i) (is_odd j) → not (beq on was) ≡ takes f (is_odd i) (is_odd j) (one_of_run how)
is_taken f how i j i' j' on was left right on_is was_is =
    let after : on ≡ is_answer f (left_on_after (one_of_run how) (is_odd i)) (right_on_after (one_of_run how) (is_odd j)) =
    on_is ∙ ap (λ ac. is_answer f ac (is_odd j')) (odd-lefts how i i' left) ∙ ap (λ bc. is_answer f (left_on_after (one_of_run how) (is_odd i)) bc) (odd-rights how j j' right) in
    rw (after, was_is) (takes-answers f how (is_odd i) (is_odd j))

-- the lists after one step
drop-lefts : {K : Type 0} (how : Ordering) (i i' : ℕ) (l : List K) → i' ≡ i + lefts_of how → drop i' l ≡ left_after (one_of_run how) (drop i l)
drop-lefts Less i i' l e = ap (λ n. drop n l) e ∙ sym (drop-drop 1 i l)
drop-lefts Equal i i' l e = ap (λ n. drop n l) e ∙ sym (drop-drop 1 i l)
drop-lefts Greater i i' l e = ap (λ n. drop n l) (same-is i i' e)
  where
    same-is : (i i' : ℕ) → i' ≡ i + 0 → i' ≡ i
    same-is i i' e = omega (arith, e)

drop-rights : {K : Type 0} (how : Ordering) (j j' : ℕ) (r : List K) → j' ≡ j + rights_of how → drop j' r ≡ right_after (one_of_run how) (drop j r)
drop-rights Less j j' r e = drop-lefts Greater j j' r e
drop-rights Equal j j' r e = drop-lefts Equal j j' r e
drop-rights Greater j j' r e = drop-lefts Less j j' r e

module _ {K : Type 0} where
  -- the item that a step reads, of two that are equal the left's
  take-one : (xs : List K) (x : K) → slice_get xs 0 ≡ Some x → take 1 xs ≡ x ∷ []
  take-one xs x is = ap (take 1) (drop-cons xs 0 x (slice_get_within xs 0 x is)) ∙ ap (λ y. y ∷ []) (get_or_from_slice_get xs 0 x x is)

  pub take-first : (how : Ordering) (l r : List K) (x y : K) → slice_get l 0 ≡ Some x → slice_get r 0 ≡ Some y
      → cond (is_le how) x y ∷ [] ≡ take 1 (cond (is_le how) l r)
  take-first Less l r x y x_is y_is = sym (take-one l x x_is)
  take-first Equal l r x y x_is y_is = sym (take-one l x x_is)
  take-first Greater l r x y x_is y_is = sym (take-one r y y_is)

  -- how two lists stand, of whose first items it is known
  pub FirstsStand-of : (order : K → K → Ordering) (l r : List K) (x y : K) (how : Ordering) → slice_get l 0 ≡ Some x → slice_get r 0 ≡ Some y
      → order x y ≡ how → FirstsStand order l r (Some how)
  FirstsStand-of order l r x y how x_is y_is stands = (
    slice_get_within l 0 x x_is,
    slice_get_within r 0 y y_is,
    λ d. rw (get_or_from_slice_get l 0 x d x_is, get_or_from_slice_get r 0 y d y_is) stands,
  )

  -- an item of a window
  pub slice_get-take : (n : ℕ) (xs : List K) (u : ℕ) (x : K) → slice_get (take n xs) u ≡ Some x → slice_get xs u ≡ Some x
  slice_get-take zero xs u x is = absurd cc
  slice_get-take (suc n) [] u x is = absurd cc
  slice_get-take (suc n) (y ∷ xs) zero x is = is
  slice_get-take (suc n) (y ∷ xs) (suc u) x is = slice_get-take n xs u x is

  pub slice_get-drop : (xs : List K) (u : ℕ) (x : K) → slice_get xs u ≡ Some x → slice_get (drop u xs) 0 ≡ Some x
  slice_get-drop xs zero x is = is
  slice_get-drop [] (suc u) x is = absurd cc
  slice_get-drop (y ∷ xs) (suc u) x is = slice_get-drop xs u x is

  -- what was written to the room at k
  pub take-window : (k n q : ℕ) (out room : List K) → k ≤ length out → q ≤ length room → take (k + q) (put_mid k n out room) ≡ take k out ++ take q room
  take-window k n q out room before within =
      sym (take-take (k + q) (k + length room) (put_mid k n out room) (omega (arith, within)))
      ∙ ap (take (k + q)) (take-put_mid k n out room (k + length room) refl before)
      ∙ ap (λ m. take (m + q) (take k out ++ room)) (sym (length-take-le k out before))
      ∙ take-append-add (take k out) room q

  -- further behind, all is the same too
  pub behind-more : (k k' : ℕ) (xs ys : List K) → k ≤ k' → drop k xs ≡ drop k ys → drop k' xs ≡ drop k' ys
  behind-more k k' xs ys more same =
      let sum : k' ≡ k + (k' - k) = omega (arith, more) in
      ap (λ n. drop n xs) sum ∙ sym (drop-drop (k' - k) k xs) ∙ ap (drop (k' - k)) same ∙ drop-drop (k' - k) k ys ∙ ap (λ n. drop n ys) (sym sum)

  -- what stands behind the items of a room at k
  drop-window : (k q : ℕ) (out room rest : List K) → k ≤ length out → q ≤ length room → drop (k + q) (take k out ++ (room ++ rest)) ≡ drop q room ++ rest
  drop-window k q out room rest before within =
      ap (λ m. drop (m + q) (take k out ++ (room ++ rest))) (sym (length-take-le k out before))
      ∙ drop-append-add (take k out) (room ++ rest) q ∙ drop-append-le q room rest within

  -- four steps changed nothing behind what they put out
  pub behind-four : (k1 k2 k3 k4 : ℕ) (r0 r1 r2 r3 r4 : List K) → k1 ≤ k2 → k2 ≤ k3 → k3 ≤ k4
      → drop k1 r1 ≡ drop k1 r0 → drop k2 r2 ≡ drop k2 r1 → drop k3 r3 ≡ drop k3 r2 → drop k4 r4 ≡ drop k4 r3 → drop k4 r4 ≡ drop k4 r0
  behind-four k1 k2 k3 k4 r0 r1 r2 r3 r4 le2 le3 le4 one two three four =
      four ∙ behind-more k3 k4 r3 r2 le4 three ∙ behind-more k2 k4 r2 r1 (omega (arith, le3, le4)) two ∙ behind-more k1 k4 r1 r0 (omega (arith, le2, le3, le4)) one

  -- so nothing is changed behind what was put into the room at k
  pub behind-window : (k n q : ℕ) (first out room : List K) → k ≤ length out → q ≤ length room → q ≤ length (take n (drop k out))
      → drop q room ≡ drop q (take n (drop k out)) → drop k out ≡ drop k first → drop (k + q) (put_mid k n out room) ≡ drop (k + q) first
  behind-window k n q first out room before within fits same so_far =
      let rest : List K = drop n (drop k out) in
      drop-window k q out room rest before within ∙ ap (λ ys. ys ++ rest) same
      ∙ sym (drop-window k q out (take n (drop k out)) rest before fits)
      ∙ ap (drop (k + q)) (ap (λ ys. take k out ++ ys) (take-append-drop n (drop k out)) ∙ take-append-drop k out)
      ∙ behind-more k (k + q) out first (omega arith) so_far

  -- the same items behind others
  pub IsAppended-behind : {alike : K → K → Type 0} (front : List K) {t t' : Bool} {items items' old new : List K} → t ≡ t' → items ≡ items'
      → IsAppended alike (items_if t items) old new → IsAppended alike (items_if t' items') (front ++ old) (front ++ new)
  IsAppended-behind front {old} t_is items_are put = record {
    copies = put.copies;
    alike_to = rw (← t_is, ← items_are) put.alike_to;
    appended = ap (λ l. front ++ l) put.appended ∙ sym (append_assoc front old put.copies);
  }

  -- what is written behind the items that were put out
  pub IsAppended-set : (alike : K → K → Type 0) (k : ℕ) (first x : K) (items : List K) → k < length items → alike first x
      → IsAppended alike (first ∷ []) (take k items) (take (k + 1) (set items k x))
  IsAppended-set alike k first x items within same = record {
    copies = x ∷ [];
    alike_to = (same, tt);
    appended = take_more_set items k x within;
  }

  -- behind what was put out nothing changed, where what stood there is written back
  pub behind-set : (k k' : ℕ) (items : List K) (x d was : K) → k ≤ k' → k' < length items → was ≡ get_or items k' d → drop k' (set (set items k x) k' was) ≡ drop k' items
  behind-set k k' items x d was more within is =
      let long : k' < length (set items k x) = omega (arith, length-set items k x, within) in
      let next : k' + 1 ≡ suc k' = omega arith in
      drop-set (set items k x) k' was long ∙ ap (λ xs. was ∷ xs) (drop-set-lt (k' + 1) items k x (omega (arith, more)))
      ∙ ap (λ y. y ∷ drop (k' + 1) items) is ∙ ap (λ n. get_or items k' d ∷ drop n items) next ∙ sym (drop-cons items k' d within)

  -- it is put out, if it is taken
  pub IsAppended-if : (alike : K → K → Type 0) (taken : Bool) (k : ℕ) (items old new : List K) → take k new ≡ take k old
      → (taken ≡ true → IsAppended alike items (take k old) (take (k + 1) new))
      → (k' : ℕ) → k' ≡ k + bool_byte taken → IsAppended alike (items_if taken items) (take k old) (take k' new)
  IsAppended-if alike true k items old new front put k' e = rw e (put refl)
  IsAppended-if alike false k items old new front put k' e = record {
    copies = [];
    alike_to = tt;
    appended = ap (λ n. take n new) (same-is k k' e) ∙ front ∙ sym (append-nil (take k old));
  }
    where
      same-is : (k k' : ℕ) → k' ≡ k + 0 → k' ≡ k
      same-is k k' e = omega (arith, e)

  joined-left : (x : K) (rs : List Run) → joined (left_only x) rs ≡ before (Some (Left 1)) rs
  joined-left x [] = refl
  joined-left x (Left n ∷ rs) = refl
  joined-left x (Right n ∷ rs) = refl
  joined-left x (Both ∷ rs) = refl

  joined-right : (x : K) (rs : List Run) → joined (right_only x) rs ≡ before (Some (Right 1)) rs
  joined-right x [] = refl
  joined-right x (Left n ∷ rs) = refl
  joined-right x (Right n ∷ rs) = refl
  joined-right x (Both ∷ rs) = refl

  runs-left_one : (a : List K) (os : List (Owner K)) → 1 ≤ length a → runs_of (map left_only (take 1 a) ++ os) ≡ before (Some (Left 1)) (runs_of os)
  unfolding runs_of
  runs-left_one [] os some = absurd (omega arith)
  runs-left_one (x ∷ a) os some = joined-left x (runs_of os)

  runs-right_one : (b : List K) (os : List (Owner K)) → 1 ≤ length b → runs_of (map right_only (take 1 b) ++ os) ≡ before (Some (Right 1)) (runs_of os)
  unfolding runs_of
  runs-right_one [] os some = absurd (omega arith)
  runs-right_one (y ∷ b) os some = joined-right y (runs_of os)

  runs-shared : (x y : K) (os : List (Owner K)) → runs_of (shared x y ∷ os) ≡ before (Some Both) (runs_of os)
  unfolding runs_of
  runs-shared x y os = refl

  -- what one item is, as it is taken
  taken-one : (how : Ordering) (t : Bool) (l r : List K) → taken_items (taken_of_run t (one_of_run how) l r) ≡ items_if t (take 1 (cond (is_le how) l r))
  taken-one Less t l r = taken_items-taken_left t 1 l
  taken-one Equal t l r = taken_items-taken_left t 1 l
  taken-one Greater t l r = taken_items-taken_right t 1 r

module _ {K : Type 0} {order : K → K → Ordering} (o : IsTotalOrder order) (a b : List K) (a_ascends : IsAscending order a) (b_ascends : IsAscending order b) where
  -- the runs of two lists, and those after one item
  runs-one : (how : Ordering) → FirstsStand order a b (Some how)
      → runs order a b ≡ before (Some (one_of_run how)) (runs order (left_after (one_of_run how) a) (right_after (one_of_run how) b))
  runs-one Less firsts =
      ap (λ os. runs_of os) (found.owners-left o a b a_ascends b_ascends 1 firsts.0 firsts.1 firsts.2) ∙ runs-left_one a _ firsts.0
  runs-one Equal firsts =
      let first = first_both o a b a_ascends b_ascends (found.runs-both o a b a_ascends b_ascends firsts.0 firsts.1 firsts.2) in
      ap (λ os. runs_of os) first.owners_are ∙ runs-shared first.left_item first.right_item _
  runs-one Greater firsts =
      ap (λ os. runs_of os) (found.owners-right o a b a_ascends b_ascends 1 firsts.1 firsts.0 (λ d. Less-from_greater o (get_or a 0 d) (get_or b 0 d) (firsts.2 d)))
      ∙ runs-right_one b _ firsts.1

  -- what one step takes
  Progress-one : (alike : K → K → Type 0) (f : Table) (how : Ordering) (ac bc : Bool) (old new : List K) → FirstsStand order a b (Some how)
      → IsAppended alike (items_if (takes f ac bc (one_of_run how)) (take 1 (cond (is_le how) a b))) old new
      → Progress order f false a b ac bc (λ ts. AreCopies alike ts old)
      (left_after (one_of_run how) a) (right_after (one_of_run how) b) (left_on_after (one_of_run how) ac) (right_on_after (one_of_run how) bc) (λ ts. AreCopies alike ts new)
  Progress-one alike f how ac bc old new firsts put =
      let ts : List (Taken K) = taken_of_run (takes f ac bc (one_of_run how)) (one_of_run how) a b in
      let copied : AreCopies alike ts put.copies = AreCopies-from_items alike ts put.copies (rw (taken-one how (takes f ac bc (one_of_run how)) a b) put.alike_to) in
      Progress-run (one_of_run how) (one_stands o a b a_ascends b_ascends (one_of_run how) how refl firsts) refl
      (λ earlier holds. rw put.appended (AllZip-append (λ t x. alike (taken_item t) x) earlier old ts put.copies holds copied))

-- what is left of an ascending list, of which some is left
ascends-from : {K : Type 0} (order : K → K → Ordering) (n m : ℕ) (xs : List K) → n ≤ m → IsAscending order (drop n xs) → IsAscending order (drop m xs)
ascends-from order n m xs more h =
    let sum : n + (m - n) ≡ m = omega (arith, more) in
    let same : drop (m - n) (drop n xs) ≡ drop m xs = drop-drop (m - n) n xs ∙ ap (λ k. drop k xs) sum in
    rw (← same) (AllPairs-drop (λ x y. order x y ≡ Less) (m - n) (drop n xs) h)

module _ {K : Type 0} (alike : K → K → Type 0) (order : K → K → Ordering) (f : Table) (a b : List K) (i0 j0 : ℕ) where
  -- how far a read came, m steps after a look at i1 and j1: what was put out, and that one
  -- comparison an item, with those that are owed, is within twice the weight, up to the run that is
  -- being read
  pub record Reads (count0 m i1 j1 i j : ℕ) (out : List K) (count : ℕ) (next : Ordering) : Type 0 where
    pub read : IsRead alike order f a b i0 j0 i j out next
    pub run : Option Run
    pub owed : ℕ
    pub at_least : count0 ≤ count
    pub paid : count + owed + 2 * weight_of (before run (runs order (drop i a) (drop j b))) ≤ count0 + 2 * weight order (drop i0 a) (drop j0 b) + read_of run
    pub is_owed : IsOwed m (read_of run) owed
    pub lefts : ℕ
    pub rights : ℕ
    pub i_is : i ≡ i1 + lefts
    pub j_is : j ≡ j1 + rights
    pub since : IsSince m lefts rights run

  -- nothing was read yet
  pub Reads-start : (count : ℕ) (next : Ordering) → FirstsStand order (drop i0 a) (drop j0 b) (Some next) → Reads count 0 i0 j0 i0 j0 [] count next
  Reads-start count next stands = record {
    read = record { lefts = omega arith; rights = omega arith; progress = Progress-none; stands = stands };
    run = None;
    owed = 0;
    at_least = omega arith;
    paid = omega arith;
    is_owed = record { within = omega arith; late = λ e. absurd (omega (arith, e)); early = λ e. absurd (omega (arith, e)) };
    lefts = 0;
    rights = 0;
    i_is = omega arith;
    j_is = omega arith;
    since = IsSince-none None;
  }

  six-more : (n owed : ℕ) → n ≤ 7 → (n ≡ 7 → 1 ≤ owed) → (7 - n ≡ 0) ⊎ (0 < 7 - n) → n ≤ owed + 6
  six-more n owed few late (inl seven) = omega (arith, late (omega (arith, few, seven)), few)
  six-more n owed few late (inr fewer) = omega (arith, fewer)

  late-at : (m n owed : ℕ) → m ≤ 4 → IsOwed m n owed → n ≡ 7 → 1 ≤ owed
  late-at m n owed few h seven = h.late (omega (arith, few, h.within, seven))

  -- it costs six comparisons more than twice the weight of what was read, if that
  pub Reads-cost : {count0 m i1 j1 i j : ℕ} {out : List K} {count : ℕ} {next : Ordering} → m ≤ 4 → Reads count0 m i1 j1 i j out count next
      → count + 2 * weight order (drop i a) (drop j b) ≤ count0 + 2 * weight order (drop i0 a) (drop j0 b) + 6
  Reads-cost {m} {i} {j} few w =
      omega (
        arith,
        w.paid,
        before-weighs w.run (runs order (drop i a) (drop j b)),
        six-more (read_of w.run) w.owed (omega (arith, w.is_owed.within, few)) (late-at m (read_of w.run) w.owed few w.is_owed) (eq-zero-or-pos (7 - read_of w.run)),
      )

  -- as many comparisons were made as fit the counter, with sixteen more
  pub Reads-made : {count0 m i1 j1 i j : ℕ} {out : List K} {count : ℕ} {next : Ordering}
      → m ≤ 4 → length (drop i0 a) + length (drop j0 b) < 2 ^ 65 → count0 < 2 ^ 127 → Reads count0 m i1 j1 i j out count next → count + 16 < 2 ^ 128 - 1
  Reads-made few fits made w = omega (arith, w.paid, w.is_owed.within, numbers.weight-le order (drop i0 a) (drop j0 b), fits, made, few)

  module _ (o : IsTotalOrder order) (a_ascends : IsAscending order (drop i0 a)) (b_ascends : IsAscending order (drop j0 b)) where
    -- one step more
    pub Reads-more : {count0 m i1 j1 i j : ℕ} {out : List K} {count : ℕ} {how : Ordering} {i' j' : ℕ} {out' : List K} {count' : ℕ} {next : Ordering}
        → m ≤ 3 → Reads count0 m i1 j1 i j out count how → i' ≡ i + lefts_of how → j' ≡ j + rights_of how
        → IsAppended alike (items_if (takes f (is_odd i) (is_odd j) (one_of_run how)) (take 1 (cond (is_le how) (drop i a) (drop j b)))) out out'
        → FirstsStand order (drop i' a) (drop j' b) (Some next) → count' ≡ count + 1
        → Reads count0 (m + 1) i1 j1 i' j' out' count' next
    Reads-more {count0} {m} {i1} {j1} {i} {j} {out} {count} {how} {i'} {j'} {out'} {count'} {next} few w left right put stands counted =
        let l_ascends : IsAscending order (drop i a) = ascends-from order i0 i a w.read.lefts a_ascends in
        let r_ascends : IsAscending order (drop j b) = ascends-from order j0 j b w.read.rights b_ascends in
        let rest : List Run = runs order (drop i' a) (drop j' b) in
        let runs_are : runs order (drop i a) (drop j b) ≡ before (Some (one_of_run how)) rest =
        rw (drop-lefts how i i' a left, drop-rights how j j' b right) (runs-one o (drop i a) (drop j b) l_ascends r_ascends how w.read.stands) in
        let spent : count + w.owed + 2 * weight_of (before w.run (before (Some (one_of_run how)) rest)) ≤ count0 + 2 * weight order (drop i0 a) (drop j0 b) + read_of w.run =
        rw (← runs_are) w.paid in
        let paid = grown-pays w.run how rest m w.owed few w.is_owed in
        record {
          read = record {
            lefts = omega (arith, w.read.lefts, left);
            rights = omega (arith, w.read.rights, right);
            progress = rw (drop-lefts how i i' a left, drop-rights how j j' b right, odd-lefts how i i' left, odd-rights how j j' right)
                (Progress-then w.read.progress (Progress-one o (drop i a) (drop j b) l_ascends r_ascends alike f how (is_odd i) (is_odd j) out out' w.read.stands put));
            stands = stands;
          };
          run = Some (grown w.run how);
          owed = paid.then_owed;
          at_least = omega (arith, w.at_least, counted);
          paid = omega (arith, spent, counted, paid.pays);
          is_owed = paid.is_owed;
          lefts = w.lefts + lefts_of how;
          rights = w.rights + rights_of how;
          i_is = omega (arith, w.i_is, left);
          j_is = omega (arith, w.j_is, right);
          since = IsSince-more w.run how m w.lefts w.rights w.since;
        }

    looked-at : {count0 i1 j1 i j : ℕ} {out : List K} {count : ℕ} {next : Ordering}
        → (w : Reads count0 4 i1 j1 i j out count next) → (4 ≤ read_of w.run → goes_on w.run next ≡ false)
        → (read_of w.run - 3 ≡ 0) ⊎ (0 < read_of w.run - 3) → Reads count0 0 i j i j out count next
    looked-at w ends (inl few) = record {
      read = w.read;
      run = w.run;
      owed = w.owed;
      at_least = w.at_least;
      paid = w.paid;
      is_owed = record { within = omega (arith, few); late = λ e. w.is_owed.early (omega (arith, e)); early = λ e. absurd (omega (arith, e)) };
      lefts = 0;
      rights = 0;
      i_is = omega arith;
      j_is = omega arith;
      since = IsSince-none w.run;
    }
    looked-at {count0} {i1} {j1} {i} {j} {out} {count} {next} w ends (inr many) =
        let l_ascends : IsAscending order (drop i a) = ascends-from order i0 i a w.read.lefts a_ascends in
        let r_ascends : IsAscending order (drop j b) = ascends-from order j0 j b w.read.rights b_ascends in
        let ended : 2 * weight order (drop i a) (drop j b) + read_of w.run ≤ 2 * weight_of (before w.run (runs order (drop i a) (drop j b))) + w.owed =
        rw (runs-one o (drop i a) (drop j b) l_ascends r_ascends next w.read.stands) (ended-pays w.run next _ w.owed (ends (omega (arith, many))) w.is_owed) in
        record {
          read = w.read;
          run = None;
          owed = 0;
          at_least = w.at_least;
          paid = omega (arith, w.paid, ended);
          is_owed = record { within = omega arith; late = λ e. absurd (omega (arith, e)); early = λ e. absurd (omega (arith, e)) };
          lefts = 0;
          rights = 0;
          i_is = omega arith;
          j_is = omega arith;
          since = IsSince-none None;
        }

    IsLong-from : (next : Ordering) (i j u0 v0 u v : ℕ) → IsLong next (i + u0) (j + v0) (i + u) (j + v) → IsLong next u0 v0 u v
    IsLong-from Less i j u0 v0 u v long = omega (arith, long)
    IsLong-from Equal i j u0 v0 u v long = long
    IsLong-from Greater i j u0 v0 u v long = omega (arith, long)

    -- it goes on after a look
    pub Reads-looked : (i j u0 v0 u v : ℕ) {count0 : ℕ} {out : List K} {count : ℕ} {next : Ordering}
        → Reads count0 4 (i + u0) (j + v0) (i + u) (j + v) out count next → (IsLong next u0 v0 u v → ⊥) → Reads count0 0 (i + u) (j + v) (i + u) (j + v) out count next
    Reads-looked i j u0 v0 u v {next} w ends =
        looked-at w
        (ended-at next w.run w.lefts w.rights (i + u0) (j + v0) (i + u) (j + v) w.i_is w.j_is (λ long. ends (IsLong-from next i j u0 v0 u v long)) w.since)
        (eq-zero-or-pos (read_of w.run - 3))
