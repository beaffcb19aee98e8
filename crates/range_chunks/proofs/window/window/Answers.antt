use Rattle.std.proofs.Common.{arith}
use Rattle.range_list.specs.Lists.{joined, place_at}
use Rattle.range_chunks.proofs.Windowed.{IsWindow-none, IsWindow-open, IsWindow-closed, even-from_odd}
use Rattle.range_chunks.proofs.window.window.Goals as goal

pub returns-then-len-eq0-clause-window : goal.returns-then-len-eq0-clause-window
returns-then-len-eq0-clause-window g c = IsWindow-none g.met.T.Ord.total (joined c.args.list.now) c.args.that.now 0 0 c.if-len-eq0.true (omega arith) (omega arith)

pub returns-then-len-eq1-clause-window : goal.returns-then-len-eq1-clause-window
returns-then-len-eq1-clause-window g c =
    IsWindow-open g.met.T.Ord.total (joined c.args.list.now) c.args.that.now c.requires.that_sorted (place_at c.args.list.now c.start-from.result) (place_at c.args.list.now c.end.result) c.index-that-0.result c.index-that-0.is
    c.start-from.ensures.below c.start-from.ensures.even c.start-from.ensures.within c.end.ensures.all

pub returns-clause-window : goal.returns-clause-window
returns-clause-window g c =
    IsWindow-closed g.met.T.Ord.total (joined c.args.list.now) c.args.that.now c.requires.that_sorted (place_at c.args.list.now c.start-from.result) (place_at c.args.list.now c.end-2.result)
    c.index-that-0.result c.index-that-len.result c.index-that-0.is c.index-that-len.is (omega (arith, c.if-len-eq0.false)) c.start-from.ensures.below c.start-from.ensures.even c.start-from.ensures.within
    c.end-2.ensures.above c.end-2.ensures.even c.end-2.ensures.within (even-from_odd g.met.T.Ord.total c.args.that.now c.if-len-eq1.false)
