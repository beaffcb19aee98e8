use Rattle.std.proofs.Common.{◌≡◌, ◌≤◌, sym, ap, false, arith}
use Rattle.std.specs.Ordering.{is_lt}
use Rattle.std.specs.declared.cmp.Ordering.TheVariants.{Less}
use Rattle.range_collections.specs.Ranges.{ranges_of}
use Rattle.range_collections.proofs.Overlapping.{overlaps-nothing, overlapping-places}
use Rattle.range_collections.proofs.Points.{counts_ordered}
use Rattle.range_collections.proofs.Values.{not_less-from_none}
use Rattle.range_collections.proofs.questions.parts.overlapping.Goals as goal

pub returns-then-not-has_elements-clause-ranges : goal.returns-then-not-has_elements-clause-ranges
returns-then-not-has_elements-clause-ranges g c =
    let off : is_lt (g.T.Ord.cmp c.args.start.now c.args.end.now) ≡ false = not_less-from_none c.has_elements.result _ c.has_elements.ensures.answer c.if-not-has_elements.true in
    rw (c.front.ensures.index, c.front-then-not-has_elements.ensures.index)
    (sym (overlaps-nothing g.T.Ord.cmp g.met.T.Ord.total c.args.start.now c.args.end.now off (ranges_of (g.L.Boundaries.items c.args.list))))

pub returns-clause-ordered : goal.returns-clause-ordered
returns-clause-ordered g c =
    let less : g.T.Ord.cmp c.args.start.now c.args.end.now ≡ Less = c.has_elements.ensures.answer.0 c.if-not-has_elements.false in
    let n = g.L.Boundaries.index c.args.list c.up_to-from.result in
    let m = g.L.Boundaries.index c.args.list c.below-to.result in
    let ordered : n ≤ m =
    counts_ordered g.met.T.Ord.total c.args.start.now c.args.end.now (g.L.Boundaries.items c.args.list) n m c.requires less
    c.up_to-from.ensures.within c.up_to-from.ensures.before c.up_to-from.ensures.from
    c.below-to.ensures.within c.below-to.ensures.before c.below-to.ensures.from in
    omega (arith, ordered, c.before_range.ensures.before, c.after_range.ensures.at_least)

pub returns-clause-ranges : goal.returns-clause-ranges
returns-clause-ranges g c =
    let less : g.T.Ord.cmp c.args.start.now c.args.end.now ≡ Less = c.has_elements.ensures.answer.0 c.if-not-has_elements.false in
    let n = g.L.Boundaries.index c.args.list c.up_to-from.result in
    let m = g.L.Boundaries.index c.args.list c.below-to.result in
    let ordered : n ≤ m =
    counts_ordered g.met.T.Ord.total c.args.start.now c.args.end.now (g.L.Boundaries.items c.args.list) n m c.requires less
    c.up_to-from.ensures.within c.up_to-from.ensures.before c.up_to-from.ensures.from
    c.below-to.ensures.within c.below-to.ensures.before c.below-to.ensures.from in
    overlapping-places g.T.Ord.cmp g.met.T.Ord.total c.args.start.now c.args.end.now (ap is_lt less) (g.L.Boundaries.items c.args.list) n m
    (g.L.Boundaries.index c.args.list c.before_range.result) (g.L.Boundaries.index c.args.list c.after_range.result)
    ordered c.up_to-from.ensures.within c.below-to.ensures.within
    c.up_to-from.ensures.before c.up_to-from.ensures.from c.below-to.ensures.before c.below-to.ensures.from
    c.before_range.ensures.before c.after_range.ensures.at_least c.after_range.ensures.within
    c.after_range.ensures.at_most c.after_range.ensures.even
