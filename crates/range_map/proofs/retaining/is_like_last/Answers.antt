use Rattle.std.proofs.Common.{◌∷◌, None, ap, ◌∙◌, option_copied, get_or, rules, arith}
use Rattle.std.specs.Option.{option_eq}
use Rattle.range_list.specs.Lists.{joined, place_at}
use Rattle.range_map.specs.Listed.{steps_in}
use Rattle.range_map.proofs.Listed.{step-option, item-past}
use Rattle.range_map.proofs.retaining.is_like_last.Goals as goal

pub returns-in-Some : goal.returns-in-Some
returns-in-Some g c =
    c.holds_before.ensures
    ∙ ap (option_eq g.V.PartialEq.eq (get_or (None ∷ (steps_in c.args.steps.now).options) (place_at c.args.steps.now c.args.end) None))
    (step-option (joined c.args.steps.now) (place_at c.args.steps.now c.args.at) c.item_at.result c.in-Some.step.now c.item_at.ensures (ap option_copied c.in-Some.is))

pub returns-in-None : goal.returns-in-None
returns-in-None g c =
    absurd (omega (arith, c.requires.item, item-past (joined c.args.steps.now) (place_at c.args.steps.now c.args.at) c.item_at.result c.item_at.ensures (search rules)))
