use Rattle.std.proofs.Common.{◌≡◌, ◌↔◌, ◌%◌, refl, arith}
use Rattle.std.specs.declared.cmp.Ordering.TheVariants.{Less}
use Rattle.range_collections.specs.Intersects.{IsItemBelow, HasMemberWithin}
use Rattle.range_collections.proofs.Points.{even-from_test, odd-from_test}
use Rattle.range_collections.proofs.Within.{HasMemberWithin-start, HasMemberWithin-next}
use Rattle.range_collections.proofs.questions.containing.has_some.Goals as goal

pub returns-then-is_odd : goal.returns-then-is_odd
returns-then-is_odd g c =
    let less : g.T.Ord.cmp c.args.start.now c.args.end.now ≡ Less = c.has_elements.ensures.answer.0 c.if-not-has_elements.false in
    let odd : g.L.Boundaries.index c.args.list c.up_to-before.result % 2 ≡ 1 = omega (arith, odd-from_test c.is_odd.result (g.L.Boundaries.index c.args.list c.up_to-before.result) c.is_odd.ensures c.if-is_odd.true) in (
      λ _.
          HasMemberWithin-start g.met.T.Ord.total (g.L.Boundaries.items c.args.list) c.args.start.now c.args.end.now (g.L.Boundaries.index c.args.list c.up_to-before.result)
          c.requires c.up_to-before.ensures.within c.up_to-before.ensures.before c.up_to-before.ensures.from
          less odd,
      λ _. refl,
    )

pub returns : goal.returns
returns g c =
    let even : g.L.Boundaries.index c.args.list c.up_to-before.result % 2 ≡ 0 = even-from_test c.is_odd.result (g.L.Boundaries.index c.args.list c.up_to-before.result) c.is_odd.ensures c.if-is_odd.false in
    let next : IsItemBelow g.T.Ord.cmp (g.L.Boundaries.items c.args.list) (g.L.Boundaries.index c.args.list c.up_to-before.result) c.args.end.now
    ↔ HasMemberWithin g.T.Ord.cmp (g.L.Boundaries.items c.args.list) c.args.start.now c.args.end.now =
    HasMemberWithin-next g.met.T.Ord.total (g.L.Boundaries.items c.args.list) c.args.start.now c.args.end.now (g.L.Boundaries.index c.args.list c.up_to-before.result)
    c.requires c.up_to-before.ensures.within c.up_to-before.ensures.before c.up_to-before.ensures.from even in
    (λ t. next.0 (c.is_item_below.ensures.below.0 t), λ h. c.is_item_below.ensures.below.1 (next.1 h))
