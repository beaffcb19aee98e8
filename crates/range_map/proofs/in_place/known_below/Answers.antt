use Rattle.std.proofs.Common.{arith}
use Rattle.range_list.specs.Lists.{joined, place_at}
use Rattle.range_list.proofs.Placed.{place_at-within}
use Rattle.range_map.specs.Listed.{steps_in}
use Rattle.range_map.proofs.Listed.{length-keys}
use Rattle.range_map.proofs.Nexts.{place-behind}
use Rattle.range_map.proofs.in_place.known_below.Goals as goal

pub returns-then-searches-clause-ordered : goal.returns-then-searches-clause-ordered
returns-then-searches-clause-ordered g c =
    let lists = c.args.steps.now in
    place-behind g.K.Ord.cmp g.met.K.Ord.total (steps_in lists).keys (place_at lists c.args.from) (place_at lists c.place_below.result) c.args.key.now
    (omega (arith, place_at-within lists c.args.from c.requires.place, length-keys (joined lists))) c.requires.below c.place_below.ensures.from
