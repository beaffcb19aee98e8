use Rattle.std.proofs.Common.{arith}
use Rattle.range_c.proofs.Joined.{IsJoined-start, IsJoined-low, IsJoined-more, IsUnionOf-joined}
use Rattle.range_c.proofs.ranges.join.Goals as goal

pub loop-i-init : goal.loop-i-init
loop-i-init g c = IsJoined-start g.met.E.Number.Ord.total g.E.Ends.first g.E.Ends.last c.args.ranges.now

pub loop-i-preserved : goal.loop-i-preserved
loop-i-preserved g c =
    let at = c.loop-i in
    IsJoined-more g.met.E.Number.Ord.total g.E.Ends.first g.E.Ends.last c.args.ranges.now at.ranges c.put-kept.new.ranges at.i at.kept c.put-kept.result c.index-ranges-i.result
    c.requires at.invariant c.loop-i-test.true c.index-ranges-i.is c.put-kept.ensures.within c.put-kept.ensures.put c.put-kept.ensures.after

pub put-kept-requires-clause-low : goal.put-kept-requires-clause-low
put-kept-requires-clause-low g c =
    let at = c.loop-i in
    IsJoined-low g.met.E.Number.Ord.total g.E.Ends.first g.E.Ends.last c.args.ranges.now at.ranges at.i at.kept c.index-ranges-i.result
    at.invariant c.loop-i-test.true c.index-ranges-i.is

pub returns-clause-union : goal.returns-clause-union
returns-clause-union g c =
    let at = c.loop-i in
    IsUnionOf-joined g.met.E.Number.Ord.total g.E.Ends.first g.E.Ends.last c.args.ranges.now at.ranges at.i at.kept at.invariant (omega (arith, c.loop-i-test.false))
