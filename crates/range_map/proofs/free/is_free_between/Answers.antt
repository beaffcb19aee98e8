use Rattle.std.proofs.Common.{sym, ◌∙◌, true≢false}
use Rattle.range_list.specs.Lists.{place_at}
use Rattle.range_map.proofs.FreeRanges.{value_read, not_IsFree-value, IsFree-decided}
use Rattle.range_map.proofs.free.is_free_between.Goals as goal

pub returns-then-is_some : goal.returns-then-is_some
returns-then-is_some g c =
    let f = c.place_up_to-place.ensures in (
      λ t. absurd (true≢false (sym t)),
      λ free. absurd (not_IsFree-value g.K.Ord.cmp g.met.K.Ord.total g.V.PartialEq.eq g.met.V.Eq.laws _ c.requires c.args.start.now c.args.end.now (c.has_elements.ensures.answer.0 c.if-not-has_elements.false)
          (place_at c.args.steps.now c.place_up_to-place.result) f.within f.up_to f.above c.option_before.result c.option_before.ensures (sym c.is_some.ensures ∙ c.if-is_some.true) free),
    )

pub returns : goal.returns
returns g c =
    let f = c.place_up_to-place.ensures in
    IsFree-decided g.K.Ord.cmp g.met.K.Ord.total g.V.PartialEq.eq g.met.V.Eq.laws _ c.requires c.args.start.now c.args.end.now (c.has_elements.ensures.answer.0 c.if-not-has_elements.false)
    (place_at c.args.steps.now c.place_up_to-place.result) f.within f.up_to f.above (value_read c.option_before.result _ c.option_before.ensures (sym c.is_some.ensures ∙ c.if-is_some.false)) c.is_next_below.result c.is_next_below.ensures
