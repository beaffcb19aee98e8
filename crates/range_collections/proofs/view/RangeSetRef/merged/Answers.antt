use Rattle.std.proofs.Common.{rules, refl}
use Rattle.std.proofs.lemmas.Bool.{false≢true}
use Rattle.std.proofs.lemmas.Result.{IfOk-from_err}
use Rattle.range_merge.specs.Boundaries.{IsAscending}
use Rattle.range_merge.specs.Changes.{changes, taken_items}
use Rattle.range_merge.specs.Connective.{opposite}
use Rattle.range_collections.specs.Sets.{AreEqual}
use Rattle.range_collections.proofs.Combined.{by_Bool, AreEqual-copies, Means-equal, length-merged}
use Rattle.range_collections.proofs.Headline.{GivesTheResult-copied}
use Rattle.range_collections.proofs.Copies.{IsAscending-copies, copied-equal}
use Rattle.range_collections.proofs.view.RangeSetRef.merged.Goals as goal

pub new_unchecked-requires : goal.new_unchecked-requires
new_unchecked-requires g c =
    let f = g.O.MergeOperation.connective c.args.op.now in
    let a = c.args.self.now.boundaries.now in
    let b = c.args.that.boundaries.now in
    let ascending : IsAscending g.T.Ord.cmp (taken_items (changes g.T.Ord.cmp f a b)) =
    by_Bool {A = IsAscending g.T.Ord.cmp (taken_items (changes g.T.Ord.cmp f a b))} (f _ _)
    (λ off. (c.changes_mean_the_connective.ensures.means f a b off c.args.self.now.sorted c.args.that.sorted).sorted)
    (λ on. (c.changes_mean_the_opposite.ensures.means f a b on c.args.self.now.sorted c.args.that.sorted).sorted) in (
      search rules,
      (
        search rules,
        rw c.give_back_room.ensures (IsAscending-copies g.met.T.Ord.total (changes g.T.Ord.cmp f a b) c.in_ok-list.list.items
            (copied-equal g.met.T.EntryClone.copy_is_equal (changes g.T.Ord.cmp f a b) c.in_ok-list.list.items c.in_ok-list.ensures.gives.copied) ascending),
      ),
    )

pub returns-clause-copies : goal.returns-clause-copies
returns-clause-copies g c = rw (c.new_unchecked.ensures, c.give_back_room.ensures) c.in_ok-list.ensures.gives.copied

pub returns-clause-gives : goal.returns-clause-gives
returns-clause-gives g c = λ off.
    let f = g.O.MergeOperation.connective c.args.op.now in
    let a = c.args.self.now.boundaries.now in
    let b = c.args.that.boundaries.now in
    let ts = changes g.T.Ord.cmp f a b in
    let xs = c.in_ok-list.list.items in
    let equal : AreEqual g.T.Ord.cmp (taken_items ts) xs =
    AreEqual-copies g.T.Ord.cmp ts xs (copied-equal g.met.T.EntryClone.copy_is_equal ts xs c.in_ok-list.ensures.gives.copied) in
    record {
      means =
          rw (c.new_unchecked.ensures, c.give_back_room.ensures)
          (Means-equal g.met.T.Ord.total f (taken_items ts) xs a b equal
          (c.changes_mean_the_connective.ensures.means f a b off c.args.self.now.sorted c.args.that.sorted));
      left_own_item = rw (c.new_unchecked.ensures, c.give_back_room.ensures) c.in_ok-list.ensures.gives.copied;
      succeeds = λ _ _ _. refl;
    }

pub returns-clause-opposite : goal.returns-clause-opposite
returns-clause-opposite g c = λ on.
    let f = g.O.MergeOperation.connective c.args.op.now in
    let a = c.args.self.now.boundaries.now in
    let b = c.args.that.boundaries.now in
    let ts = changes g.T.Ord.cmp f a b in
    let xs = c.in_ok-list.list.items in
    let equal : AreEqual g.T.Ord.cmp (taken_items ts) xs =
    AreEqual-copies g.T.Ord.cmp ts xs (copied-equal g.met.T.EntryClone.copy_is_equal ts xs c.in_ok-list.ensures.gives.copied) in
    rw (c.new_unchecked.ensures, c.give_back_room.ensures)
    (Means-equal g.met.T.Ord.total (opposite f) (taken_items ts) xs a b equal
    (c.changes_mean_the_opposite.ensures.means f a b on c.args.self.now.sorted c.args.that.sorted))

pub returns-clause-len : goal.returns-clause-len
returns-clause-len g c =
    let f = g.O.MergeOperation.connective c.args.op.now in
    let a = c.args.self.now.boundaries.now in
    let b = c.args.that.boundaries.now in
    let ts = changes g.T.Ord.cmp f a b in
    let xs = c.in_ok-list.list.items in
    rw (c.new_unchecked.ensures, c.give_back_room.ensures)
    (length-merged g.T.Ord.cmp ts xs
    (AreEqual-copies g.T.Ord.cmp ts xs (copied-equal g.met.T.EntryClone.copy_is_equal ts xs c.in_ok-list.ensures.gives.copied)))

pub returns-in_err-list-clause-gives : goal.returns-in_err-list-clause-gives
returns-in_err-list-clause-gives g c = λ off. record {
  means = IfOk-from_err c.from_residual.result _ c.from_residual.ensures.0;
  left_own_item = IfOk-from_err c.from_residual.result _ c.from_residual.ensures.0;
  succeeds = λ fits left right. absurd (false≢true (c.in_err-list.ensures.gives.succeeds (fits, left, right)));
}

pub returns-in_err-list-clause-opposite : goal.returns-in_err-list-clause-opposite
returns-in_err-list-clause-opposite g c = λ on. IfOk-from_err c.from_residual.result _ c.from_residual.ensures.0

pub returns-clause-headline : goal.returns-clause-headline
returns-clause-headline g c = λ off.
    let f = g.O.MergeOperation.connective c.args.op.now in
    let a = c.args.self.now.boundaries.now in
    let b = c.args.that.boundaries.now in
    GivesTheResult-copied g.met.T.Ord.total g.met.T.EntryClone.copy_is_equal _ f _ a b _
    (c.changes_are_marked_truly.ensures.marks f a b c.args.self.now.sorted c.args.that.sorted) (returns-clause-gives g c off)

pub returns-in_err-list-clause-headline : goal.returns-in_err-list-clause-headline
returns-in_err-list-clause-headline g c = λ off. IfOk-from_err c.from_residual.result _ c.from_residual.ensures.0
