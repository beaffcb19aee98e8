use Rattle.std.proofs.Common.{◌≡◌, true, false, sym, ◌∙◌, subst, arith, true≢false}
use Rattle.std.specs.Ordering.{is_le}
use Rattle.std.specs.declared.cmp.Ordering.TheVariants.{Greater}
use Rattle.range_collections.proofs.Shortest.{count_up_to-le_length, is_le-cases}
use Rattle.range_map.proofs.Depths.{count-reached, count-not_reached}
use Rattle.range_map.proofs.map.depth.past.Goals as goal

pub loop-place-preserved : goal.loop-place-preserved
loop-place-preserved g c =
    let order = g.K.Ord.cmp in
    let item = c.index-items-place.result in
    let key = c.args.key.now in
    let low : is_le (order item key) ≡ true = rw (← c.cmp.ensures) (sym c.is_le.ensures ∙ c.if-is_le.true) in
    count-reached order g.met.K.Ord.total c.args.items.now c.requires.sorted c.loop-place.place item key c.loop-place-test.true
    (subst (λ y. is_le (order y key) ≡ true) c.index-items-place.is low)

pub returns-else-is_le : goal.returns-else-is_le
returns-else-is_le g c =
    let order = g.K.Ord.cmp in
    let item = c.index-items-place.result in
    let key = c.args.key.now in
    let high : is_le (order item key) ≡ false = rw (← c.cmp.ensures) (sym c.is_le.ensures ∙ c.if-is_le.false) in
    is_le-cases (order item key)
    (λ t. absurd (true≢false (sym t ∙ high)))
    (λ above.
    omega (
      arith,
      c.loop-place.invariant,
      count-not_reached order g.met.K.Ord.total c.args.items.now c.requires.sorted c.loop-place.place item key
          (subst (λ y. order y key ≡ Greater) c.index-items-place.is above),
    ))

pub returns-after-loop-place : goal.returns-after-loop-place
returns-after-loop-place g c =
    omega (arith, c.loop-place.invariant, c.loop-place-test.false, count_up_to-le_length g.K.Ord.cmp c.args.key.now c.args.items.now)
