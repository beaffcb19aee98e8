-- What a round of steps leaves of the comparisons that twice the weight allows.
use Rattle.std.proofs.Common.{◌≡◌, ℕ, ◌+◌, ◌*◌, ◌<◌, ◌≤◌, Bool, true, List, Option, Some, None, Ok, IfSome, refl, sym, ◌∙◌, arith}
use Rattle.std.specs.declared.cmp.Ordering.{Ordering}
use Rattle.std.specs.declared.cmp.Ordering.TheVariants.{Less, Equal, Greater}
use Rattle.std.specs.Cmp.{IsTotalOrder}
use Rattle.range_merge.specs.Connective.{Table}
use Rattle.range_merge.specs.Stages.{GoesOn, IsFirstRun, IsTurn, Leaves, Members, Stage}
use Rattle.range_merge.specs.declared.merging.Went.TheVariants.{On}
use Rattle.range_merge.proofs.MergeLoop.{Progress-then}
use Rattle.range_merge.proofs.StagesOfMerge.{ahead_of-weight}
use Rattle.range_merge.specs.Runs.{weight}
use Rattle.range_merge.specs.OneRun.{ahead_of, left_after, right_after}
use Rattle.range_merge.specs.declared.runs.Run.{Run}

-- nothing was done
pub Leaves-none : (mine : Ordering) (firsts : Option Ordering) (count w : ℕ) → (firsts ≡ Some mine → ⊥) → Leaves mine firsts firsts count w count w
Leaves-none mine firsts count w others = record { one = λ is. absurd (others is); at_most = omega arith; same = λ _. refl }

-- a step that took or dropped what stands so
pub Leaves-one : (mine : Ordering) (next : Option Ordering) (count0 w0 count w : ℕ) → count + 1 + 2 * w ≤ count0 + 2 * w0 → Leaves mine (Some mine) next count0 w0 count w
Leaves-one mine next count0 w0 count w cost = record { one = λ _. cost; at_most = omega (arith, cost); same = λ others. absurd (others refl) }

-- a run, of which one comparison was made before
pub first_run-leaves : {K : Type 0} {order : K → K → Ordering} (run : Run) {l r l' r' : List K} {next : Option Ordering} {goes_on : Bool} {count0 count : ℕ}
    → IsFirstRun order run l r next goes_on 1 count0 count → goes_on ≡ true → l' ≡ left_after run l → r' ≡ right_after run r
    → count + 1 + 2 * weight order l' r' ≤ count0 + 2 * weight order l r
first_run-leaves run front goes lefts rights = rw (lefts, rights) (omega (arith, front.weighs goes, front.cost goes))

module _ {firsts next1 next2 next3 : Option Ordering} {count0 w0 count1 w1 count2 w2 count3 w3 : ℕ}
    (first : Leaves Less firsts next1 count0 w0 count1 w1) (second : Leaves Greater next1 next2 count1 w1 count2 w2) (third : Leaves Equal next2 next3 count2 w2 count3 w3) where
  round-at : (how : Ordering) → firsts ≡ Some how → count3 + 1 + 2 * w3 ≤ count0 + 2 * w0
  round-at Less is = omega (arith, first.one is, second.at_most, third.at_most)
  round-at Greater is =
      let after1 : next1 ≡ Some Greater = first.same (λ less. cc) ∙ is in
      omega (arith, first.at_most, second.one after1, third.at_most)
  round-at Equal is =
      let after1 : next1 ≡ Some Equal = first.same (λ less. cc) ∙ is in
      let after2 : next2 ≡ Some Equal = second.same (λ greater. cc) ∙ after1 in
      omega (arith, first.at_most, second.at_most, third.one after2)

-- a round of the three steps
pub round-leaves : (firsts : Option Ordering) {next1 next2 next3 : Option Ordering} {count0 w0 count1 w1 count2 w2 count3 w3 : ℕ} → (firsts ≡ None → ⊥)
    → Leaves Less firsts next1 count0 w0 count1 w1 → Leaves Greater next1 next2 count1 w1 count2 w2 → Leaves Equal next2 next3 count2 w2 count3 w3 → count3 + 1 + 2 * w3 ≤ count0 + 2 * w0
round-leaves None some first second third = absurd (some refl)
round-leaves (Some how) some first second third = round-at first second third how refl

module _ {firsts next1 next2 next3 : Option Ordering} {count0 w0 count1 w1 count2 w2 len0 len1 len2 len3 : ℕ}
    (first : Leaves Less firsts next1 count0 w0 count1 w1) (second : Leaves Greater next1 next2 count1 w1 count2 w2)
    (turn1 : IsTurn Less firsts next1 len0 len1) (turn2 : IsTurn Greater next1 next2 len1 len2) (turn3 : IsTurn Equal next2 next3 len2 len3) where
  shorter-at : (how : Ordering) → firsts ≡ Some how → len3 < len0
  shorter-at Less is = omega (arith, turn1.shorter is, turn2.no_longer, turn3.no_longer)
  shorter-at Greater is =
      let after1 : next1 ≡ Some Greater = first.same (λ less. cc) ∙ is in
      omega (arith, turn1.no_longer, turn2.shorter after1, turn3.no_longer)
  shorter-at Equal is =
      let after1 : next1 ≡ Some Equal = first.same (λ less. cc) ∙ is in
      let after2 : next2 ≡ Some Equal = second.same (λ greater. cc) ∙ after1 in
      omega (arith, turn1.no_longer, turn2.no_longer, turn3.shorter after2)

-- a round makes the lists shorter
pub round-shorter : (firsts : Option Ordering) {next1 next2 next3 : Option Ordering} {count0 w0 count1 w1 count2 w2 len0 len1 len2 len3 : ℕ} → (firsts ≡ None → ⊥)
    → Leaves Less firsts next1 count0 w0 count1 w1 → Leaves Greater next1 next2 count1 w1 count2 w2
    → IsTurn Less firsts next1 len0 len1 → IsTurn Greater next1 next2 len1 len2 → IsTurn Equal next2 next3 len2 len3 → len3 < len0
round-shorter None some first second turn1 turn2 turn3 = absurd (some refl)
round-shorter (Some how) some first second turn1 turn2 turn3 = shorter-at first second turn1 turn2 turn3 how refl

-- rounds that ended before a list was used up were counted
pub counted-rounds : (rounds : Option ℕ) (next : Option Ordering) (how : Ordering) → IfSome rounds (λ n. 6 ≤ n) → (rounds ≡ None → next ≡ None) → next ≡ Some how
    → (n : ℕ) × (rounds ≡ Some n) × (6 ≤ n)
counted-rounds None next how six whole is =
    let none : Some how ≡ None = sym is ∙ whole refl in
    absurd cc
counted-rounds (Some n) next how six whole is = (n, refl, six)

-- comparisons were made beyond those of a part, of which a number were left
module _ {K S E : Type 0} {m : Members K S}
    {order : K → K → Ordering} {f : Table} (o : IsTotalOrder order) {old new : S} {known count0 count1 count2 : ℕ} {next : Option Ordering} where
  pub Stage-more : Stage m order f old new known count0 count1 {E = E} (Ok (On next))
      → count1 ≤ count2 → count2 + known + 2 * weight order (m.left new) (m.right new) ≤ count0 + 2 * weight order (m.left old) (m.right old) + ahead_of next
      → Stage m order f old new known count0 count2 {E = E} (Ok (On next))
  Stage-more a more cost = record {
    on = a.on;
    stops = tt;
    counted = cost;
    at_least = omega (arith, a.at_least, more);
    at_most = omega (arith, cost, ahead_of-weight o (m.left new) (m.right new) a.on.left_ascends a.on.right_ascends next a.on.stands);
    stays = a.stays;
    succeeds = λ _. refl;
    still_infallible = a.still_infallible;
  }

-- what a read costs beyond the weight of what it read, where six comparisons were left before it
module _ {K S E : Type 0} {m : Members K S}
    {order : K → K → Ordering} {f : Table} (o : IsTotalOrder order) {old mid new : S} {known count0 count1 count2 : ℕ} where
  pub Stage-read : {how next : Ordering} → Stage m order f old mid known count0 count1 {E = E} (Ok (On (Some how)))
      → count1 + 6 + known + 2 * weight order (m.left mid) (m.right mid) ≤ count0 + 2 * weight order (m.left old) (m.right old) + 1
      → GoesOn m order f mid new (Some next)
      → count1 ≤ count2 → count2 + 2 * weight order (m.left new) (m.right new) ≤ count1 + 2 * weight order (m.left mid) (m.right mid) + 6
      → m.fixed new ≡ m.fixed mid → (m.is_infallible mid → m.is_infallible new)
      → Stage m order f old new known count0 count2 {E = E} (Ok (On (Some next)))
  Stage-read {next = next} a six b at_least cost stays still =
      let some = ahead_of-weight o (m.left new) (m.right new) b.left_ascends b.right_ascends (Some next) b.stands in
      record {
        on = record {
          progress = Progress-then a.on.progress b.progress;
          left_ascends = b.left_ascends;
          right_ascends = b.right_ascends;
          stands = b.stands;
        };
        stops = tt;
        counted = omega (arith, six, cost);
        at_least = omega (arith, a.at_least, at_least);
        at_most = omega (arith, six, cost, some);
        stays = stays ∙ a.stays;
        succeeds = λ _. refl;
        still_infallible = λ holds. still (a.still_infallible holds);
      }

  -- the same where a list may be used up, and then nothing is read
  pub Stage-read_on : (firsts after : Option Ordering) → Stage m order f old mid known count0 count1 {E = E} (Ok (On firsts))
      → ((first : Ordering) → firsts ≡ Some first → count1 + 6 + known + 2 * weight order (m.left mid) (m.right mid) ≤ count0 + 2 * weight order (m.left old) (m.right old) + 1)
      → (firsts ≡ None → (after ≡ None) × (count2 ≡ count1) × (new ≡ mid)) → ((first : Ordering) → firsts ≡ Some first → (next : Ordering) × (after ≡ Some next))
      → GoesOn m order f mid new after
      → count1 ≤ count2 → count2 + 2 * weight order (m.left new) (m.right new) ≤ count1 + 2 * weight order (m.left mid) (m.right mid) + 6
      → m.fixed new ≡ m.fixed mid → (m.is_infallible mid → m.is_infallible new)
      → Stage m order f old new known count0 count2 {E = E} (Ok (On after))
  Stage-read_on None after a six ended some b at_least cost stays still =
      let nothing = ended refl in
      rw (nothing.0, nothing.1, nothing.2) a
  Stage-read_on (Some first) after a six ended some b at_least cost stays still =
      let is = some first refl in
      rw is.1 (Stage-read a (six first refl) (rw is.1 at b) at_least cost stays still)
