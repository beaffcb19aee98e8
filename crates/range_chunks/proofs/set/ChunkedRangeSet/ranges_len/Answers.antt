use Rattle.std.proofs.Common.{arith}
use Rattle.range_collections.proofs.RangesLemmas.{length-ranges_of}
use Rattle.range_chunks.proofs.set.ChunkedRangeSet.ranges_len.Goals as goal

pub returns : goal.returns
returns g c = omega (arith, c.div_ceil.ensures, c.boundaries_len.ensures, length-ranges_of c.args.self.now)
