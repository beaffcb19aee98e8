use Rattle.range_merge.specs.Changes.{changes}
use Rattle.range_collections.proofs.Sets.{IsTrue-has_member}
use Rattle.range_collections.proofs.view.RangeSetRef.merge_test.Goals as goal

pub returns-clause-members : goal.returns-clause-members
returns-clause-members g c =
    let f = g.O.MergeOperation.connective c.args.op.now in
    let a = c.args.self.now.boundaries.now in
    let b = c.args.that.boundaries.now in
    IsTrue-has_member g.met.T.Ord.total f (changes g.T.Ord.cmp f a b) a b c.merge.result c.merge.ensures.value
    (c.changes_mean_the_connective.ensures.means f a b c.requires.off c.args.self.now.sorted c.args.that.sorted)
