use Rattle.std.proofs.Common.{refl, arith}
use Rattle.range_collections.proofs.Changing.{below-above}
use Rattle.range_collections.proofs.changes.cutting.cut_around.Goals as goal

pub find_from-found-requires : goal.find_from-found-requires
find_from-found-requires g c =
    λ k. (
      (refl, tt),
      (
        c.position_above-above.ensures.position,
        (
          below-above g.met.T.Ord.total (g.L.Boundaries.items c.args.list) (g.L.Boundaries.index c.args.list) c.args.start c.args.end c.requires.sorted c.requires.less
              c.find-found.result c.position_above-above.result c.position_above-above.ensures.above c.find-found.ensures.found,
          (c.requires.sorted, omega (arith, c.find-found.ensures.cheap, c.find-found.ensures.comparisons.at_most, c.requires.made)),
        ),
      ),
    )

pub returns-clause-comparisons : goal.returns-clause-comparisons
returns-clause-comparisons g c = record {
  at_least = omega (arith, c.find-found.ensures.comparisons.at_least, c.find_from-found.ensures.comparisons.at_least);
  at_most = omega (arith, c.find-found.ensures.comparisons.at_most, c.find_from-found.ensures.comparisons.at_most);
}
