use Rattle.range_collections.proofs.RangesAtEnds.{MatchOption-last}
use Rattle.range_chunks.proofs.set.ChunkedRangeSet.last.Goals as goal

pub returns : goal.returns
returns g c = MatchOption-last c.args.self.now c.iter.result c.next_back.new.self c.next_back.result c.iter.ensures c.next_back.ensures.steps
