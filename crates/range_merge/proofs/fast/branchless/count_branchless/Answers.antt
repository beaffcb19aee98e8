use Rattle.std.proofs.Common.{◌≡◌, ◌∙◌, length, min, arith}
use Rattle.range_merge.proofs.Searches.{IsSearched-narrowed, adds_at_most, pow_below}
use Rattle.range_merge.proofs.fast.branchless.count_branchless.Goals as goal

pub first_comparison-front-requires-clause-few : goal.first_comparison-front-requires-clause-few
first_comparison-front-requires-clause-few g c =
    pow_below c.ilog2-levels.result 17 (length c.args.items.now) c.ilog2-levels.ensures.power_le c.requires.short

pub four_levels-front-requires-clause-narrowed : goal.four_levels-front-requires-clause-narrowed
four_levels-front-requires-clause-narrowed g c =
    let few = pow_below c.ilog2-levels.result 17 (length c.args.items.now) c.ilog2-levels.ensures.power_le c.requires.short in
    let all : min c.ilog2-levels.result 16 ≡ c.ilog2-levels.result = omega arith in
    rw all c.first_comparison-front.ensures.narrowed

pub returns-clause-front : goal.returns-clause-front
returns-clause-front g c =
    let none : min c.ilog2-levels.result 0 ≡ 0 = omega arith in
    IsSearched-narrowed g.C.Compare.order g.met.C.Compare.total c.args.items.now c.args.key.now c.requires.ascending
    c.four_levels.result.len c.four_levels.result.has_equal (rw none at c.four_levels.ensures.narrowed)

pub returns-clause-comparisons : goal.returns-clause-comparisons
returns-clause-comparisons g c =
    let few = pow_below c.ilog2-levels.result 17 (length c.args.items.now) c.ilog2-levels.ensures.power_le c.requires.short in
    let made =
    c.four_levels.ensures.counted ∙ c.four_levels-front-3.ensures.counted ∙ c.four_levels-front-2.ensures.counted ∙ c.four_levels-front.ensures.counted in
    adds_at_most c.ilog2-levels.result 16 (length c.args.items.now) _ _ _ (omega arith) c.ilog2-levels.ensures.power_le c.first_comparison-front.ensures.counted made
