use Rattle.std.proofs.Common.{◌≡◌, refl, false, arith}
use Rattle.std.specs.Ordering.{is_lt}
use Rattle.std.specs.declared.cmp.Ordering.TheVariants.{Less}
use Rattle.range_collections.proofs.Parts.{GivesParts-nothing, GivesParts-borrowed, is_even-borrowed}
use Rattle.range_collections.proofs.Points.{counts_ordered}
use Rattle.range_collections.proofs.Values.{not_less-from_none}
use Rattle.range_collections.proofs.questions.parts.parts_within.Goals as goal

pub returns-then-not-has_elements-clause-gives : goal.returns-then-not-has_elements-clause-gives
returns-then-not-has_elements-clause-gives g c =
    let off : is_lt (g.T.Ord.cmp c.args.within.start.now c.args.within.end.now) ≡ false = not_less-from_none c.has_elements.result _ c.has_elements.ensures.answer c.if-not-has_elements.true in
    rw (c.between.ensures, c.front.ensures.index, c.front-then-not-has_elements.ensures.index) (GivesParts-nothing g.met.T.Ord.total c.args.inside c.args.within (g.L.Boundaries.items c.args.list) off)

pub below-to-requires : goal.below-to-requires
below-to-requires g c =
    λ k. ((refl, tt), (c.requires.sorted, omega (arith, c.up_to-from.ensures.cheap, c.up_to-from.ensures.comparisons.at_most, c.has_elements.ensures.counted, c.requires.made)))

pub between-requires-2 : goal.between-requires-2
between-requires-2 g c =
    let less : g.T.Ord.cmp c.args.within.start.now c.args.within.end.now ≡ Less = c.has_elements.ensures.answer.0 c.if-not-has_elements.false in
    λ k. (
      (refl, tt),
      (
        c.up_to-from.ensures.position,
        (
          c.below-to.ensures.position,
          counts_ordered g.met.T.Ord.total c.args.within.start.now c.args.within.end.now (g.L.Boundaries.items c.args.list) (g.L.Boundaries.index c.args.list c.up_to-from.result) (g.L.Boundaries.index c.args.list c.below-to.result)
              c.requires.sorted less c.up_to-from.ensures.within c.up_to-from.ensures.before c.up_to-from.ensures.from
              c.below-to.ensures.within c.below-to.ensures.before c.below-to.ensures.from,
        ),
      ),
    )

pub returns-clause-gives : goal.returns-clause-gives
returns-clause-gives g c =
    let less : g.T.Ord.cmp c.args.within.start.now c.args.within.end.now ≡ Less = c.has_elements.ensures.answer.0 c.if-not-has_elements.false in
    rw (c.between-2.ensures, c.then_some-first.ensures, c.then_some-last.ensures, c.is_odd.ensures, c.is_odd-2.ensures)
    (GivesParts-borrowed g.met.T.Ord.total c.args.within.start c.args.within.end (g.L.Boundaries.items c.args.list) (g.L.Boundaries.index c.args.list c.up_to-from.result) (g.L.Boundaries.index c.args.list c.below-to.result)
    c.requires.sorted less c.up_to-from.ensures.within c.up_to-from.ensures.before c.up_to-from.ensures.from
    c.below-to.ensures.within c.below-to.ensures.before c.below-to.ensures.from
    c.args.inside _ _ refl refl)

pub returns-clause-even : goal.returns-clause-even
returns-clause-even g c =
    let less : g.T.Ord.cmp c.args.within.start.now c.args.within.end.now ≡ Less = c.has_elements.ensures.answer.0 c.if-not-has_elements.false in
    rw (c.between-2.ensures, c.then_some-first.ensures, c.then_some-last.ensures, c.is_odd.ensures, c.is_odd-2.ensures)
    (is_even-borrowed g.met.T.Ord.total c.args.within.start c.args.within.end (g.L.Boundaries.items c.args.list) (g.L.Boundaries.index c.args.list c.up_to-from.result) (g.L.Boundaries.index c.args.list c.below-to.result)
    c.requires.sorted less c.up_to-from.ensures.within c.up_to-from.ensures.before c.up_to-from.ensures.from
    c.below-to.ensures.within c.below-to.ensures.before c.below-to.ensures.from
    c.args.inside _ _ refl refl)
