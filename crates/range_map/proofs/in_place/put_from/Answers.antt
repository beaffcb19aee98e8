use Rattle.std.proofs.Common.{arith}
use Rattle.range_map.proofs.in_place.put_from.Goals as goal

pub loop-next-init : goal.loop-next-init
loop-next-init g c = record {
  place = c.requires.from;
  below_place = c.requires.from;
  ordered = omega arith;
  before = omega arith;
  within = omega arith;
  left_below = c.requires.below;
  right_below = λ n d low high. absurd (omega (arith, high));
  made = λ front before made. made;
}

pub loop-next-preserved : goal.loop-next-preserved
loop-next-preserved g c =
    let next = c.in-Some.ensures.next in
    let inv = c.loop-next.invariant in
    let one = c.in_ok-at.ensures in
    record {
      place = one.place;
      below_place = next.below_place;
      ordered = omega (arith, inv.ordered, next.left.on, one.onward);
      before = one.ordered;
      within = next.right.within;
      left_below = next.left_below;
      right_below = one.right_below;
      made = λ front before made. one.made front before (inv.made front before made);
    }
