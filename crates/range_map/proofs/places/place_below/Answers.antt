use Rattle.std.proofs.Common.{arith}
use Rattle.range_list.specs.Lists.{joined}
use Rattle.range_map.proofs.Listed.{length-keys, counted-keys, counted-few}
use Rattle.range_map.proofs.places.place_below.Goals as goal

pub returns-clause-within : goal.returns-clause-within
returns-clause-within g c = omega (arith, c.place_below.ensures.within, length-keys (joined c.args.steps.now))

pub returns-clause-from : goal.returns-clause-from
returns-clause-from g c =
    λ k d low high. c.place_below.ensures.from k d low (omega (arith, high, length-keys (joined c.args.steps.now)))

pub returns-clause-few : goal.returns-clause-few
returns-clause-few g c =
    counted-few c.args.steps.now _ _ c.place_below.ensures.few c.place_below.ensures.fewer c.place_below.ensures.comparisons

pub returns-clause-comparisons : goal.returns-clause-comparisons
returns-clause-comparisons g c =
    counted-keys c.args.steps.now _ _ c.place_below.ensures.few c.place_below.ensures.fewer c.place_below.ensures.comparisons
