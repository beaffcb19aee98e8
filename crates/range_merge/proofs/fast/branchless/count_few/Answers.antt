use Rattle.std.proofs.Common.{refl, length, arith}
use Rattle.range_merge.proofs.Searches.{IsSearched-narrowed, adds_at_most}
use Rattle.range_merge.proofs.fast.branchless.count_few.Goals as goal

pub returns-in-1-clause-comparisons : goal.returns-in-1-clause-comparisons
returns-in-1-clause-comparisons g c =
    adds_at_most 0 0 (length c.args.items.now) _ _ _ (omega arith) (omega arith) c.step.ensures.counted refl

pub returns-in_default-clause-front : goal.returns-in_default-clause-front
returns-in_default-clause-front g c =
    IsSearched-narrowed g.C.Compare.order g.met.C.Compare.total c.args.items.now c.args.key.now c.requires.ascending
    c.step-in_default.result.len c.step-in_default.result.has_equal c.step-in_default.ensures.narrowed

pub returns-in_default-clause-comparisons : goal.returns-in_default-clause-comparisons
returns-in_default-clause-comparisons g c =
    adds_at_most 1 1 (length c.args.items.now) _ _ _ (omega arith) (omega arith) c.first_comparison-front.ensures.counted (omega (arith, c.step-in_default.ensures.counted))
