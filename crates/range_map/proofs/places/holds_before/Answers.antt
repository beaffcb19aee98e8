use Rattle.std.proofs.Common.{◌∙◌, ap, option_copied}
use Rattle.std.specs.Option.{option_eq}
use Rattle.range_list.specs.Lists.{joined, place_at}
use Rattle.range_map.proofs.Listed.{option-of_step, option-of_none, none-eq}
use Rattle.range_map.proofs.places.holds_before.Goals as goal

pub returns-in-Some : goal.returns-in-Some
returns-in-Some g c =
    c.eq.ensures
    ∙ ap (λ p. option_eq g.V.PartialEq.eq p c.args.option.now)
    (option-of_step (joined c.args.steps.now) (place_at c.args.steps.now c.args.place) _ c.in-Some.step.now c.item_before.ensures (ap option_copied c.in-Some.is))

pub returns-in-None : goal.returns-in-None
returns-in-None g c =
    none-eq g.V.PartialEq.eq c.args.option.now c.is_none.result c.is_none.ensures
    ∙ ap (λ p. option_eq g.V.PartialEq.eq p c.args.option.now)
    (option-of_none (joined c.args.steps.now) (place_at c.args.steps.now c.args.place) _ c.item_before.ensures (ap option_copied c.in-None.is))
