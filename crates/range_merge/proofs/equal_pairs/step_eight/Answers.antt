use Rattle.std.proofs.Common.{◌≡◌, refl, arith}
use Rattle.std.specs.declared.cmp.Ordering.TheVariants.{Less}
use Rattle.range_merge.proofs.Ahead.{ahead_of-le}
use Rattle.range_merge.proofs.EqualPairs.{weight-pairs, Progress-pairs, after-eight}
use Rattle.range_merge.proofs.Pairs.{AllPairs-drop}
use Rattle.range_merge.proofs.equal_pairs.step_eight.Goals as goal

pub returns-in-Ok-clause-stage : goal.returns-in-Ok-clause-stage
returns-in-Ok-clause-stage g c =
    let order = g.C.Compare.order in
    let went = c.in-Ok.ensures in
    let takes_is = rw (c.ac.ensures, c.bc.ensures) at c.takes_both-takes.ensures in
    let appends = rw takes_is at went.output in
    let weighs = weight-pairs g.met.C.Compare.total 8 _ _ c.requires.left_ascending c.requires.right_ascending c.requires.pairs in
    record {
      on = record {
        progress = rw (went.unread_left, went.unread_right, went.left_on, went.right_on)
            (Progress-pairs g.met.C.Compare.total 8 _ _ c.requires.left_ascending c.requires.right_ascending c.requires.pairs _ _ _ _ _ _ refl c.requires.go_on appends);
        left_ascends = rw went.unread_left (AllPairs-drop (λ x y. order x y ≡ Less) 8 _ c.requires.left_ascending);
        right_ascends = rw went.unread_right (AllPairs-drop (λ x y. order x y ≡ Less) 8 _ c.requires.right_ascending);
        stands = c.order_at.ensures.firsts;
      };
      stops = tt;
      counted = rw (went.unread_left, went.unread_right) (omega (arith, weighs, c.order_at.ensures.comparisons));
      at_least = omega (arith, c.order_at.ensures.comparisons);
      at_most = omega (arith, weighs, c.order_at.ensures.comparisons, ahead_of-le c.order_at.result);
      stays = c.advance_eight.ensures.fixed;
      succeeds = λ _. refl;
      still_infallible = went.still_infallible;
    }

pub returns-in-Ok-clause-shorter : goal.returns-in-Ok-clause-shorter
returns-in-Ok-clause-shorter g c = rw (c.in-Ok.ensures.unread_left, c.in-Ok.ensures.unread_right) (after-eight g.C.Compare.order _ _ c.requires.pairs)

pub returns-in-Ok-clause-leaves : goal.returns-in-Ok-clause-leaves
returns-in-Ok-clause-leaves g c =
    let weighs = weight-pairs g.met.C.Compare.total 8 _ _ c.requires.left_ascending c.requires.right_ascending c.requires.pairs in
    rw (c.in-Ok.ensures.unread_left, c.in-Ok.ensures.unread_right) (omega (arith, weighs, c.order_at.ensures.comparisons, ahead_of-le c.order_at.result))

pub returns-in-Err-clause-stage : goal.returns-in-Err-clause-stage
returns-in-Err-clause-stage g c =
    let weighs = weight-pairs g.met.C.Compare.total 8 _ _ c.requires.left_ascending c.requires.right_ascending c.requires.pairs in
    record {
      on = tt;
      stops = tt;
      counted = tt;
      at_least = omega arith;
      at_most = omega (arith, weighs);
      stays = c.advance_eight.ensures.fixed;
      succeeds = c.in-Err.ensures.succeeds;
      still_infallible = λ _. tt;
    }
