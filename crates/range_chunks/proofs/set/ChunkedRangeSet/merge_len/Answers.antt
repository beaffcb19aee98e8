use Rattle.range_merge.specs.Changes.{changes}
use Rattle.range_collections.proofs.Combined.{length-means}
use Rattle.range_chunks.proofs.set.ChunkedRangeSet.merge_len.Goals as goal

pub returns-clause-means : goal.returns-clause-means
returns-clause-means g c = λ items means.
    let f = g.O.MergeOperation.connective c.args.op.now in
    let a = c.args.self.now in
    let b = g.S.AnySet.boundaries c.args.that in
    length-means g.met.T.Ord.total f (changes g.T.Ord.cmp f a b) items a b c.count_merged.result (rw (← c.unread.ensures.boundaries, ← c.self.view_is) c.count_merged.ensures)
    (c.changes_mean_the_connective.ensures.means f a b c.requires.off (rw (← c.self.view_is) c.self.invariant) c.unread.ensures.sorted) means
