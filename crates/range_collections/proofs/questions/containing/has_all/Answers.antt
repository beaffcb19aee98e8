use Rattle.std.proofs.Common.{◌≡◌, ◌≤◌, ◌%◌, refl, false, length, arith}
use Rattle.std.specs.Ordering.{is_lt}
use Rattle.std.specs.declared.cmp.Ordering.TheVariants.{Less}
use Rattle.range_collections.proofs.Points.{even-from_test, odd-from_test, not_all_within, HasAllWithin-nothing}
use Rattle.range_collections.proofs.Values.{not_less-from_none}
use Rattle.range_collections.proofs.Searched.{IsTrue-none_below}
use Rattle.range_collections.proofs.questions.containing.has_all.Goals as goal

pub returns-then-not-has_elements-clause-members : goal.returns-then-not-has_elements-clause-members
returns-then-not-has_elements-clause-members g c =
    let off : is_lt (g.T.Ord.cmp c.args.start.now c.args.end.now) ≡ false = not_less-from_none c.has_elements.result _ c.has_elements.ensures.answer c.if-not-has_elements.true in
    (λ _. HasAllWithin-nothing g.met.T.Ord.total c.args.start.now c.args.end.now (g.L.Boundaries.items c.args.list) off, λ _. refl)

pub returns-then-not-is_odd-clause-members : goal.returns-then-not-is_odd-clause-members
returns-then-not-is_odd-clause-members g c =
    let less : g.T.Ord.cmp c.args.start.now c.args.end.now ≡ Less = c.has_elements.ensures.answer.0 c.if-not-has_elements.false in (
      λ t. absurd (cc),
      λ all. absurd (not_all_within g.met.T.Ord.total c.args.start.now (g.L.Boundaries.items c.args.list) (g.L.Boundaries.index c.args.list c.up_to-before.result)
          c.up_to-before.ensures.within c.up_to-before.ensures.before c.up_to-before.ensures.from
          c.args.end.now less (even-from_test c.is_odd.result _ c.is_odd.ensures c.if-not-is_odd.true) all),
    )

pub returns-clause-members : goal.returns-clause-members
returns-clause-members g c =
    let n = g.L.Boundaries.index c.args.list c.up_to-before.result in
    let odd : n % 2 ≡ 1 = omega (arith, odd-from_test c.is_odd.result n c.is_odd.ensures c.if-not-is_odd.false) in
    IsTrue-none_below g.met.T.Ord.total (g.L.Boundaries.items c.args.list) c.args.start.now c.args.end.now n
    c.requires.sorted c.up_to-before.ensures.within c.up_to-before.ensures.before c.up_to-before.ensures.from
    odd c.is_item_below.result c.is_item_below.ensures.below

pub returns-then-not-is_odd-clause-comparisons : goal.returns-then-not-is_odd-clause-comparisons
returns-then-not-is_odd-clause-comparisons g c = record {
  at_least = omega (arith, c.has_elements.ensures.counted, c.up_to-before.ensures.comparisons.at_least);
  at_most =
      omega (arith, c.has_elements.ensures.counted, c.up_to-before.ensures.comparisons.at_most);
}

pub returns-clause-comparisons : goal.returns-clause-comparisons
returns-clause-comparisons g c =
    let n = g.L.Boundaries.index c.args.list c.up_to-before.result in
    let odd : n % 2 ≡ 1 = omega (arith, odd-from_test c.is_odd.result n c.is_odd.ensures c.if-not-is_odd.false) in
    let some : 1 ≤ length (g.L.Boundaries.items c.args.list) = omega (arith, odd, c.up_to-before.ensures.within) in
    record {
      at_least = omega (arith, c.has_elements.ensures.counted, c.up_to-before.ensures.comparisons.at_least, c.is_item_below.ensures.comparisons.at_least);
      at_most = omega (arith, some, c.has_elements.ensures.counted, c.up_to-before.ensures.comparisons.at_most, c.is_item_below.ensures.comparisons.at_most);
    }
