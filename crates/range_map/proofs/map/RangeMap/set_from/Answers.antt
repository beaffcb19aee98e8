use Rattle.std.proofs.Common.{arith}
use Rattle.range_map.specs.Listed.{steps_in}
use Rattle.range_map.proofs.map.RangeMap.set_from.Goals as goal

pub returns-clause-succeeds : goal.returns-clause-succeeds
returns-clause-succeeds g c = rw (← c.self.view_is) c.set_range.ensures.succeeds

pub returns-clause-no_change : goal.returns-clause-no_change
returns-clause-no_change g c =
    rw (← c.self.view_is)
    (λ same.
    c.set_range.ensures.succeeds (record {
      after = steps_in c.self.inside.steps;
      canonical = c.self.invariant;
      values = same;
      no_longer = omega arith;
    }))
