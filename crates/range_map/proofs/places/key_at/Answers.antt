use Rattle.std.proofs.Common.{ap, option_copied, Some, None}
use Rattle.range_list.specs.Lists.{joined, place_at}
use Rattle.range_map.proofs.Listed.{key-got}
use Rattle.range_map.proofs.places.key_at.Goals as goal

pub returns-in-Some : goal.returns-in-Some
returns-in-Some g c =
    key-got (joined c.args.steps.now) (place_at c.args.steps.now c.args.place) _ (Some c.in-Some.step.now) c.item_at.ensures (ap option_copied c.in-Some.is)

pub returns-in-None : goal.returns-in-None
returns-in-None g c =
    key-got (joined c.args.steps.now) (place_at c.args.steps.now c.args.place) _ None c.item_at.ensures (ap option_copied c.in-None.is)
