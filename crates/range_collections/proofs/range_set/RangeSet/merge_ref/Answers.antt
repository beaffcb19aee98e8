use Rattle.std.proofs.lemmas.Result.{on_ok_weaker}
use Rattle.range_merge.specs.Changes.{changes}
use Rattle.range_collections.proofs.Headline.{BecomesTheResult-by_view}
use Rattle.range_collections.proofs.OwnItems.{AreOwnElseCopies-marked, Means-own_or_copies, IsAscending-copied}
use Rattle.range_collections.proofs.range_set.RangeSet.merge_ref.Goals as goal

pub returns-clause-changed : goal.returns-clause-changed
returns-clause-changed g c =
    let f = g.O.MergeOperation.connective c.args.op.now in
    let a = c.self.inside.list.items in
    let b = c.args.that.boundaries.now in
    let ts = changes g.T.Ord.cmp f a b in
    rw (← c.self.view_is)
    (record {
      means =
          on_ok_weaker c.merge.result
          (Means-own_or_copies g.met.T.Ord.total g.met.T.EntryClone.copy_is_equal f ts c.merge.new.a.items a b
          (c.changes_mean_the_connective.ensures.means f a b c.requires.off c.self.invariant c.args.that.sorted))
          c.merge.ensures.taken;
      left_own_item =
          on_ok_weaker c.merge.result
          (AreOwnElseCopies-marked g.met.T.Ord.total g.met.T.EntryClone.copy_is_equal a b ts c.merge.new.a.items
          (c.changes_are_marked_truly.ensures.marks f a b c.self.invariant c.args.that.sorted))
          c.merge.ensures.taken;
      unchanged = c.merge.ensures.unchanged;
      succeeds = c.merge.ensures.succeeds;
    })

pub returns-clause-comparisons : goal.returns-clause-comparisons
returns-clause-comparisons g c = rw (← c.self.view_is) c.merge.ensures.comparisons

pub invariant_of-self : goal.invariant_of-self
invariant_of-self g c =
    let f = g.O.MergeOperation.connective c.args.op.now in
    let a = c.self.inside.list.items in
    let b = c.args.that.boundaries.now in
    IsAscending-copied g.met.T.Ord.total g.met.T.EntryClone.copy_is_equal f c.merge.result (changes g.T.Ord.cmp f a b) c.merge.new.a.items a b
    (c.changes_mean_the_connective.ensures.means f a b c.requires.off c.self.invariant c.args.that.sorted)
    c.self.invariant c.merge.ensures.taken c.merge.ensures.unchanged

pub returns-clause-headline : goal.returns-clause-headline
returns-clause-headline g c = record {
  fact = BecomesTheResult-by_view g.met.T.Ord.total _ _ _ _ _ _ _ _ (returns-clause-changed g c);
  comparisons = returns-clause-comparisons g c;
}
