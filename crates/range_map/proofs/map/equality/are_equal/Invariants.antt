use Rattle.std.proofs.Common.{◌≡◌, length}
use Rattle.range_map.specs.EqualSteps.{eq_steps}
use Rattle.range_map.specs.Listed.{steps_of}
use Rattle.range_map.proofs.map.equality.are_equal.Given as goal

abbrev pub invariant-loop-this : goal.invariant-loop-this
invariant-loop-this g l =
    eq_steps g.K.PartialEq.eq g.V.PartialEq.eq (steps_of l.fn.these) (steps_of l.fn.those) ≡ eq_steps g.K.PartialEq.eq g.V.PartialEq.eq (steps_of l.these) (steps_of l.those)

abbrev pub decreases-loop-this : goal.decreases-loop-this
decreases-loop-this g l = length l.these
