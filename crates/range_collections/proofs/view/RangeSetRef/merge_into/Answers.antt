use Rattle.range_collections.proofs.Written.{WritesOperation-written}
use Rattle.range_collections.proofs.view.RangeSetRef.merge_into.Goals as goal

pub returns-clause-writes : goal.returns-clause-writes
returns-clause-writes g c =
    let f = g.O.MergeOperation.connective c.args.op.now in
    let a = c.args.self.now.boundaries.now in
    let b = c.args.that.boundaries.now in
    WritesOperation-written g.T.Ord.cmp f a b c.args.out.now c.merge.new.out c.merge.result
    (c.changes_mean_the_connective.ensures.means f a b c.requires.off c.args.self.now.sorted c.args.that.sorted)
    c.merge.ensures.written c.merge.ensures.length c.merge.ensures.no_room c.merge.ensures.needed

pub returns-clause-comparisons : goal.returns-clause-comparisons
returns-clause-comparisons g c = c.merge.ensures.comparisons
