use Rattle.std.proofs.Common.{arith}
use Rattle.range_map.proofs.places.find.Goals as goal

pub place_up_to_end-to-requires-clause-made : goal.place_up_to_end-to-requires-clause-made
place_up_to_end-to-requires-clause-made g c = omega (arith, c.place_below-from.ensures.few, c.requires.made)
