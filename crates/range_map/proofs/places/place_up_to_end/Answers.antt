use Rattle.std.proofs.Common.{arith}
use Rattle.range_list.specs.Lists.{joined}
use Rattle.range_map.proofs.Listed.{length-keys}
use Rattle.range_map.proofs.places.place_up_to_end.Goals as goal

pub returns-in-None-clause-within : goal.returns-in-None-clause-within
returns-in-None-clause-within g c = omega (arith, c.end.ensures.all, length-keys (joined c.args.steps.now))

pub returns-in-None-clause-above : goal.returns-in-None-clause-above
returns-in-None-clause-above g c =
    λ k d low high. absurd (omega (arith, low, high, c.end.ensures.all, length-keys (joined c.args.steps.now)))
