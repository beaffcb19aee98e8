use Rattle.std.proofs.Common.{◌≡◌, length, sym, ◌∙◌, true≢false, arith}
use Rattle.range_list.specs.Lists.{place_at}
use Rattle.range_map.specs.Listed.{steps_in}
use Rattle.range_map.proofs.FreeRanges.{not_IsFree-next, IsFree-endless}
use Rattle.range_map.proofs.Listed.{item-within, item-past}
use Rattle.range_map.proofs.free.is_free_from.Goals as goal

pub returns-then-is_some : goal.returns-then-is_some
returns-then-is_some g c =
    let f = c.place_up_to-place.ensures in
    let n = place_at c.args.steps.now c.place_up_to-place.result in (
      λ t. absurd (true≢false (sym t)),
      λ free. absurd (not_IsFree-next g.K.Ord.cmp g.met.K.Ord.total g.V.PartialEq.eq g.met.V.Eq.laws _ c.requires c.args.start.now n f.within f.up_to f.above
          (item-within (steps_in c.args.steps.now).keys n c.key_at.result c.key_at.ensures (sym c.is_some.ensures ∙ c.if-is_some.true)) free),
    )

pub returns : goal.returns
returns g c =
    let f = c.place_up_to-place.ensures in
    let n = place_at c.args.steps.now c.place_up_to-place.result in
    let keys = (steps_in c.args.steps.now).keys in
    let last : n ≡ length keys = omega (arith, f.within, item-past keys n c.key_at.result c.key_at.ensures (sym c.is_some.ensures ∙ c.if-is_some.false)) in
    IsFree-endless g.K.Ord.cmp g.met.K.Ord.total g.V.PartialEq.eq g.met.V.Eq.laws _ c.requires c.args.start.now
    n f.within f.up_to f.above last c.option_before.result c.option_before.ensures c.is_none.result c.is_none.ensures
