use Rattle.range_merge.specs.Changes.{changes}
use Rattle.range_collections.proofs.Combined.{length-means}
use Rattle.range_collections.proofs.view.RangeSetRef.merge_len.Goals as goal

pub returns-clause-value : goal.returns-clause-value
returns-clause-value g c = c.merge.ensures.value

pub returns-clause-means : goal.returns-clause-means
returns-clause-means g c = λ items means.
    let f = g.O.MergeOperation.connective c.args.op.now in
    let a = c.args.self.now.boundaries.now in
    let b = c.args.that.boundaries.now in
    length-means g.met.T.Ord.total f (changes g.T.Ord.cmp f a b) items a b c.merge.result c.merge.ensures.value
    (c.changes_mean_the_connective.ensures.means f a b c.requires.off c.args.self.now.sorted c.args.that.sorted) means

pub returns-clause-comparisons : goal.returns-clause-comparisons
returns-clause-comparisons g c = c.merge.ensures.comparisons
