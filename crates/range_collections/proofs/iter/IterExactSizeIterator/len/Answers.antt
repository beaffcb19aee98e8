use Rattle.std.proofs.Common.{length, ap, arith}
use Rattle.range_collections.proofs.RangesLemmas.{length-ranges_of}
use Rattle.range_collections.proofs.iter.IterExactSizeIterator.len.Goals as goal

pub returns-clause-value : goal.returns-clause-value
returns-clause-value g c = omega (arith, c.div_ceil.ensures, length-ranges_of c.args.self.now, ap length c.self.view_is)
