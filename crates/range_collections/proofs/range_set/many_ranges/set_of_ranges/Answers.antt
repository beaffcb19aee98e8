use Rattle.std.proofs.Common.{sym, subst, take, arith, true≢false}
use Rattle.std.proofs.lemmas.List.{take_all}
use Rattle.range_collections.specs.ManyRanges.{IsUnderwayByCopies}
use Rattle.range_collections.proofs.Underway.{GivesUnion-by_copies, GivesUnion-never, by_copies-none, some_of_all, take_next}
use Rattle.range_collections.proofs.range_set.many_ranges.set_of_ranges.Goals as goal

pub loop-i-init : goal.loop-i-init
loop-i-init g c =
    rw (c.empty-set.ensures.boundaries, c.new-aside.ensures.starts, c.new-aside.ensures.ends)
    (by_copies-none g.met.T.Ord.total g.T.EntryClone.is_copy g.met.T.EntryClone.copy_is_equal g.row.N)

pub loop-i-preserved : goal.loop-i-preserved
loop-i-preserved g c =
    subst
    (λ ranges.
    IsUnderwayByCopies g.T.Ord.cmp g.T.EntryClone.is_copy g.row.N ranges c.add_copy.new.set c.add_copy.new.aside.starts.items c.add_copy.new.aside.ends.items)
    (sym
    (take_next g.met.T.Ord.total g.T.EntryClone.is_copy g.met.T.EntryClone.copy_is_equal g.row.N c.args.ranges.now c.loop-i.i c.index-ranges-i.result
    c.loop-i-test.true c.index-ranges-i.is))
    (c.in_ok-add_copy.ensures.underway (take c.loop-i.i c.args.ranges.now) c.loop-i.invariant)

pub returns-in_err-add_copy : goal.returns-in_err-add_copy
returns-in_err-add_copy g c =
    GivesUnion-never g.met.T.Ord.total g.T.EntryClone.is_copy g.met.T.EntryClone.copy_is_equal g.row.N g.T.EntryClone.is_infallible c.args.ranges.now
    c.from_residual.result c.from_residual.ensures.0
    (λ few sure.
    let some =
    some_of_all g.met.T.Ord.total g.T.EntryClone.is_copy g.met.T.EntryClone.copy_is_equal g.row.N g.T.EntryClone.is_infallible c.args.ranges.now c.loop-i.i c.index-ranges-i.result
    c.loop-i-test.true c.index-ranges-i.is few sure in
    true≢false (sym (c.in_err-add_copy.ensures.succeeds (take c.loop-i.i c.args.ranges.now) c.loop-i.invariant some.0 some.1)))

pub returns : goal.returns
returns g c =
    let all : IsUnderwayByCopies g.T.Ord.cmp g.T.EntryClone.is_copy g.row.N c.args.ranges.now c.loop-i.set c.loop-i.aside.starts.items c.loop-i.aside.ends.items =
    subst
    (λ ranges.
    IsUnderwayByCopies g.T.Ord.cmp g.T.EntryClone.is_copy g.row.N ranges c.loop-i.set c.loop-i.aside.starts.items c.loop-i.aside.ends.items)
    (take_all c.loop-i.i c.args.ranges.now (omega (arith, c.loop-i-test.false))) c.loop-i.invariant in
    GivesUnion-by_copies g.met.T.Ord.total g.T.EntryClone.is_copy g.met.T.EntryClone.copy_is_equal g.row.N g.T.EntryClone.is_infallible c.args.ranges.now
    c.loop-i.set c.loop-i.aside.starts.items c.loop-i.aside.ends.items c.finished.result all (c.finished.ensures all.copies all.underway)
