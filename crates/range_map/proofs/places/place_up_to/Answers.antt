use Rattle.std.proofs.Common.{arith}
use Rattle.range_list.specs.Lists.{joined}
use Rattle.range_map.proofs.Listed.{length-keys, counted-keys, counted-few}
use Rattle.range_map.proofs.places.place_up_to.Goals as goal

pub returns-clause-within : goal.returns-clause-within
returns-clause-within g c = omega (arith, c.place_up_to.ensures.within, length-keys (joined c.args.steps.now))

pub returns-clause-above : goal.returns-clause-above
returns-clause-above g c =
    λ k d low high. c.place_up_to.ensures.above k d low (omega (arith, high, length-keys (joined c.args.steps.now)))

pub returns-clause-few : goal.returns-clause-few
returns-clause-few g c =
    counted-few c.args.steps.now _ _ c.place_up_to.ensures.few c.place_up_to.ensures.fewer c.place_up_to.ensures.comparisons

pub returns-clause-comparisons : goal.returns-clause-comparisons
returns-clause-comparisons g c =
    counted-keys c.args.steps.now _ _ c.place_up_to.ensures.few c.place_up_to.ensures.fewer c.place_up_to.ensures.comparisons
