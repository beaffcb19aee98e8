use Rattle.std.proofs.Common.{◌+◌, arith}
use Rattle.range_list.specs.Lists.{joined, place_at}
use Rattle.range_chunks.proofs.InTurn.{less_from_read, settled_put}
use Rattle.range_chunks.proofs.several.put_if_longer.Goals as goal

pub gap_for-requires-clause-less : goal.gap_for-requires-clause-less
gap_for-requires-clause-less g c =
    less_from_read g.met.T.Ord.total c.args.inside c.args.that.now c.args.at (c.args.at + 1) c.index-that-at.result c.index-that-at-2.result c.index-that-at.is c.index-that-at-2.is
    (omega (arith, c.requires.within)) c.requires.within c.requires.that_sorted (omega arith)

pub returns-clause-settled : goal.returns-clause-settled
returns-clause-settled g c =
    settled_put g.met.T.Ord.total c.args.inside c.args.that.now c.args.at (c.args.at + 1) c.index-that-at.result c.index-that-at-2.result c.index-that-at.is c.index-that-at-2.is
    (omega (arith, c.requires.within)) c.requires.within
    (joined c.args.list.now) (joined c.splice.new.self) (place_at c.args.list.now c.in-Some.place) c.requires.sorted
    (less_from_read g.met.T.Ord.total c.args.inside c.args.that.now c.args.at (c.args.at + 1) c.index-that-at.result c.index-that-at-2.result c.index-that-at.is c.index-that-at-2.is
    (omega (arith, c.requires.within)) c.requires.within c.requires.that_sorted (omega arith))
    c.in-Some.ensures.gap c.in_ok-splice.ensures.items
