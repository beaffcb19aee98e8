use Rattle.std.proofs.Common.{◌≡◌, ◌+◌, None, ap, sym, ◌∙◌, cond, slice_get, option_copied, rules, arith}
use Rattle.range_collections.specs.Ranges.{range_now}
use Rattle.range_list.specs.Lists.{joined, place_at}
use Rattle.range_map.specs.Entries.{range_until}
use Rattle.range_map.specs.Listed.{steps_in}
use Rattle.range_map.specs.Updated.{kept}
use Rattle.range_map.specs.declared.step.Step.{Step}
use Rattle.range_map.proofs.Listed.{item-read, item-past}
use Rattle.range_map.proofs.retaining.stays.Goals as goal

pub returns-in-Some : goal.returns-in-Some
returns-in-Some g c = λ d.
    let test = g.F.RangeFilter.is_kept c.args.filter.now in
    let keys = (steps_in c.args.steps.now).keys in
    let n = place_at c.args.steps.now c.args.at in
    let s : Step g.row.K.Denot g.row.V.Denot = c.in-Some.step.now in
    let is = item-read (joined c.args.steps.now) n c.item_at.result s d c.item_at.ensures (ap option_copied c.in-Some.is) in
    let range : range_now c.range_until-range.result ≡ range_until s.key (slice_get keys (n + 1)) =
    c.range_until-range.ensures ∙ ap (range_until s.key) (c.key_at.ensures ∙ ap (slice_get keys) c.place_after.ensures.after) in
    rw is
    (ap (λ p. record { key = s.key; option = p })
    (ap (λ r. kept (λ v. test (r, v)) s.option) (sym range) ∙ ap (kept (λ v. test (range_now c.range_until-range.result, v))) (sym c.as_ref.ensures.value)
    ∙ c.is_kept.ensures ∙ ap (λ p. cond c.is_kept.result p None) c.as_ref.ensures.value))

pub returns-in-None : goal.returns-in-None
returns-in-None g c =
    absurd (omega (arith, c.requires.item, item-past (joined c.args.steps.now) (place_at c.args.steps.now c.args.at) c.item_at.result c.item_at.ensures (search rules)))
