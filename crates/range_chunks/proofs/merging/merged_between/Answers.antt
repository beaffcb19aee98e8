use Rattle.std.proofs.Common.{◌-◌, take, drop}
use Rattle.std.proofs.lemmas.Result.{IfOk-weaker}
use Rattle.range_merge.specs.Changes.{changes, taken_items}
use Rattle.range_collections.specs.Headline.{EveryElement}
use Rattle.range_collections.proofs.Combined.{AreEqual-copies, Means-equal, MeansAmong-from_means}
use Rattle.range_collections.proofs.Copies.{copied-equal}
use Rattle.range_collections.proofs.Headline.{IsTheResult-among, AreTaken-copied}
use Rattle.range_list.specs.Lists.{joined, place_at}
use Rattle.range_chunks.proofs.Windowed.{ascending-between}
use Rattle.range_chunks.proofs.merging.merged_between.Goals as goal

pub merged-requires-clause-own_ascending : goal.merged-requires-clause-own_ascending
merged-requires-clause-own_ascending g c =
    rw (c.as_slice.ensures.value, c.in_ok-own.ensures, c.between.ensures) (ascending-between g.T.Ord.cmp (place_at c.args.list.now c.args.from) (place_at c.args.list.now c.args.to - place_at c.args.list.now c.args.from) (joined c.args.list.now) c.requires.own_ascending)

pub returns : goal.returns
returns g c =
    let cmp = g.T.Ord.cmp in
    let copy = g.T.EntryClone.is_copy in
    let equal = g.met.T.EntryClone.copy_is_equal in
    let f = g.O.MergeOperation.connective c.args.op.now in
    let a = take (place_at c.args.list.now c.args.to - place_at c.args.list.now c.args.from) (drop (place_at c.args.list.now c.args.from) (joined c.args.list.now)) in
    let b = c.args.that.now in
    let ts = changes cmp f a b in
    let up = ascending-between cmp (place_at c.args.list.now c.args.from) (place_at c.args.list.now c.args.to - place_at c.args.list.now c.args.from) (joined c.args.list.now) c.requires.own_ascending in
    let taken = c.changes_are_marked_truly.ensures.marks f a b up c.requires.that_ascending in
    let means = c.changes_mean_the_connective.ensures.means f a b c.requires.off up c.requires.that_ascending in
    IfOk-weaker c.merged.result _ _
    (λ made copies.
    IsTheResult-among g.met.T.Ord.total EveryElement f a b copy copy made.items
    (MeansAmong-from_means cmp EveryElement f made.items a b (Means-equal g.met.T.Ord.total f (taken_items ts) made.items a b (AreEqual-copies cmp ts made.items (copied-equal equal ts made.items copies)) means))
    (AreTaken-copied g.met.T.Ord.total equal EveryElement f a b ts made.items taken copies))
    (rw (c.as_slice.ensures.value, c.in_ok-own.ensures, c.between.ensures) at c.merged.ensures)
