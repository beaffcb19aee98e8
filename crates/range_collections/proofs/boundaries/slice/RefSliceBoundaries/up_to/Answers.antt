use Rattle.std.proofs.Common.{arith, length}
use Rattle.range_merge.proofs.Digits.{digits-le}
use Rattle.range_collections.proofs.boundaries.slice.RefSliceBoundaries.up_to.Goals as goal

pub returns-clause-cheap : goal.returns-clause-cheap
returns-clause-cheap g c = omega (arith, digits-le (length c.args.self.now.now))
