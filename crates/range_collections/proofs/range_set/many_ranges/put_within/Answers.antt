use Rattle.std.proofs.Common.{inr, arith, rules, true}
use Rattle.std.proofs.lemmas.Result.{on_ok_weaker}
use Rattle.range_collections.specs.Splicing.{IsCut}
use Rattle.range_collections.proofs.Insertion.{cuts_ordered, same_parity, IsAscending-spliced, IsAscending-answer}
use Rattle.range_collections.proofs.ManyRanges.{Means-put, AreOwnElseOf-put, length-put}
use Rattle.range_collections.proofs.range_set.many_ranges.put_within.Goals as goal

pub splice-requires : goal.splice-requires
splice-requires g c =
    let a = c.args.list.now.items in
    let p : IsCut g.T.Ord.cmp true a c.args.start c.cut_near_end-from.result.0 c.cut_near_end-from.result.1 = rw c.as_slice.ensures at c.cut_near_end-from.ensures in
    let q : IsCut g.T.Ord.cmp true a c.args.end c.cut_near_end-to.result.0 c.cut_near_end-to.result.1 = rw c.as_slice-2.ensures at c.cut_near_end-to.ensures in (
      search rules,
      (
        p.within,
        (
          q.within,
          (
            cuts_ordered g.met.T.Ord.total true a c.args.start c.args.end _ _ _ _ c.requires.sorted c.requires.less p q,
            same_parity g.met.T.Ord.total true a c.args.start c.args.end _ _ _ _ c.requires.sorted c.requires.less p q,
          ),
        ),
      ),
    )

pub returns-clause-sorted : goal.returns-clause-sorted
returns-clause-sorted g c =
    let a = c.args.list.now.items in
    let p : IsCut g.T.Ord.cmp true a c.args.start c.cut_near_end-from.result.0 c.cut_near_end-from.result.1 = rw c.as_slice.ensures at c.cut_near_end-from.ensures in
    let q : IsCut g.T.Ord.cmp true a c.args.end c.cut_near_end-to.result.0 c.cut_near_end-to.result.1 = rw c.as_slice-2.ensures at c.cut_near_end-to.ensures in
    IsAscending-answer g.T.Ord.cmp c.splice.result c.splice.new.self.items _ a c.splice.ensures.items c.splice.ensures.unchanged
    (IsAscending-spliced g.met.T.Ord.total true a c.args.start c.args.end _ _ _ _ c.requires.sorted c.requires.less p q) c.requires.sorted

pub returns-clause-means : goal.returns-clause-means
returns-clause-means g c =
    let a = c.args.list.now.items in
    let p : IsCut g.T.Ord.cmp true a c.args.start c.cut_near_end-from.result.0 c.cut_near_end-from.result.1 = rw c.as_slice.ensures at c.cut_near_end-from.ensures in
    let q : IsCut g.T.Ord.cmp true a c.args.end c.cut_near_end-to.result.0 c.cut_near_end-to.result.1 = rw c.as_slice-2.ensures at c.cut_near_end-to.ensures in
    on_ok_weaker c.splice.result (λ kept. rw kept (Means-put g.met.T.Ord.total a c.args.start c.args.end _ _ _ _ c.requires.sorted c.requires.less p q))
    c.splice.ensures.items

pub returns-clause-left_own_item : goal.returns-clause-left_own_item
returns-clause-left_own_item g c =
    let a = c.args.list.now.items in
    let p : IsCut g.T.Ord.cmp true a c.args.start c.cut_near_end-from.result.0 c.cut_near_end-from.result.1 = rw c.as_slice.ensures at c.cut_near_end-from.ensures in
    let q : IsCut g.T.Ord.cmp true a c.args.end c.cut_near_end-to.result.0 c.cut_near_end-to.result.1 = rw c.as_slice-2.ensures at c.cut_near_end-to.ensures in
    on_ok_weaker c.splice.result (λ kept. rw kept (AreOwnElseOf-put g.met.T.Ord.total a c.args.start c.args.end _ _ _ _ c.requires.sorted c.requires.less p q))
    c.splice.ensures.items

pub returns-clause-succeeds : goal.returns-clause-succeeds
returns-clause-succeeds g c =
    let a = c.args.list.now.items in
    let p : IsCut g.T.Ord.cmp true a c.args.start c.cut_near_end-from.result.0 c.cut_near_end-from.result.1 = rw c.as_slice.ensures at c.cut_near_end-from.ensures in
    let q : IsCut g.T.Ord.cmp true a c.args.end c.cut_near_end-to.result.0 c.cut_near_end-to.result.1 = rw c.as_slice-2.ensures at c.cut_near_end-to.ensures in
    λ few. c.splice.ensures.succeeds (inr (omega (arith, few, length-put g.met.T.Ord.total a c.args.start c.args.end _ _ _ _ c.requires.sorted c.requires.less p q)))
