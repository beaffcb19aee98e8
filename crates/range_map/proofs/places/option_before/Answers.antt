use Rattle.std.proofs.Common.{◌∙◌, ap, option_copied}
use Rattle.range_list.specs.Lists.{joined, place_at}
use Rattle.range_map.proofs.Listed.{option-of_step, option-of_none}
use Rattle.range_map.proofs.places.option_before.Goals as goal

pub returns-in-Some : goal.returns-in-Some
returns-in-Some g c =
    c.as_ref.ensures.value
    ∙ option-of_step (joined c.args.steps.now) (place_at c.args.steps.now c.args.place) _ c.in-Some.step.now c.item_before.ensures (ap option_copied c.in-Some.is)

pub returns-in-None : goal.returns-in-None
returns-in-None g c =
    option-of_none (joined c.args.steps.now) (place_at c.args.steps.now c.args.place) _ c.item_before.ensures (ap option_copied c.in-None.is)
