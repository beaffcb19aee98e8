use Rattle.range_list.proofs.Placed.{place_at-within}
use Rattle.range_list.proofs.boundaries.RefChunksBoolBoundaries.item_before.Goals as goal

pub returns-clause-within : goal.returns-clause-within
returns-clause-within g c = place_at-within c.args.self.now.now c.args.at c.requires
