use Rattle.std.proofs.Common.{arith, refl, take}
use Rattle.std.proofs.lemmas.List.{take_all}
use Rattle.std.proofs.lemmas.Result.{IfOk-from_err}
use Rattle.range_collections.specs.Ranges.{range_boundaries}
use Rattle.range_collections.specs.Unions.{IsAscending-range}
use Rattle.range_collections.proofs.ManyRanges.{GivesUnion-more, GivesUnion-not_added}
use Rattle.range_collections.proofs.Unions.{GivesUnion-none, in_one_range}
use Rattle.range_chunks.proofs.set.ChunkedRangeSet.from_ranges.Goals as goal

pub loop-i-init : goal.loop-i-init
loop-i-init g c =
    rw c.new-set.ensures.boundaries
    (GivesUnion-none g.met.T.Ord.total g.T.EntryClone.is_copy g.T.EntryClone.is_infallible g.met.T.EntryClone.copy_is_equal (range_boundaries g.T.Ord.cmp) _
    (take 0 c.args.ranges.now) refl)

pub loop-i-preserved : goal.loop-i-preserved
loop-i-preserved g c =
    GivesUnion-more g.met.T.Ord.total g.T.EntryClone.is_copy g.T.EntryClone.is_infallible 0 g.met.T.EntryClone.copy_is_equal (range_boundaries g.T.Ord.cmp)
    (IsAscending-range g.T.Ord.cmp) c.args.ranges.now c.loop-i.i c.index-ranges-i.result c.loop-i.set c.add.new.self
    c.loop-i-test.true c.index-ranges-i.is c.loop-i.invariant c.in_ok-add.ensures

pub returns-in_err-add-clause-gives : goal.returns-in_err-add-clause-gives
returns-in_err-add-clause-gives g c =
    GivesUnion-not_added g.met.T.Ord.total g.T.EntryClone.is_copy g.T.EntryClone.is_infallible 0 g.met.T.EntryClone.copy_is_equal (range_boundaries g.T.Ord.cmp)
    (IsAscending-range g.T.Ord.cmp) c.args.ranges.now c.loop-i.i c.index-ranges-i.result c.loop-i.set c.add.new.self c.in_err-add.field-0.0 c.from_residual.result
    c.loop-i-test.true c.index-ranges-i.is c.from_residual.ensures.0 c.loop-i.invariant c.in_err-add.ensures

pub returns-in_err-add-clause-members : goal.returns-in_err-add-clause-members
returns-in_err-add-clause-members g c = IfOk-from_err c.from_residual.result _ c.from_residual.ensures.0

pub returns-clause-gives : goal.returns-clause-gives
returns-clause-gives g c = rw (take_all c.loop-i.i c.args.ranges.now (omega (arith, c.loop-i-test.false))) at c.loop-i.invariant

pub returns-clause-members : goal.returns-clause-members
returns-clause-members g c = λ x.
    in_one_range g.met.T.Ord.total c.args.ranges.now x _ ((returns-clause-gives g c).means.members x)
