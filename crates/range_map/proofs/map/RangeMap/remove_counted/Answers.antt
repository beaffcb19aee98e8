use Rattle.std.proofs.Common.{Some}
use Rattle.range_map.proofs.FreeRanges.{IsSetTo-free}
use Rattle.range_map.proofs.map.RangeMap.remove_counted.Goals as goal

pub returns-clause-free : goal.returns-clause-free
returns-clause-free g c = λ free.
    c.set.ensures.no_change (IsSetTo-free g.K.Ord.cmp g.V.PartialEq.eq g.met.V.Eq.laws c.args.self.now c.args.range.start (Some c.args.range.end) free)
