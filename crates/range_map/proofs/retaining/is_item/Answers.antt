use Rattle.std.proofs.Common.{◌∙◌, sym}
use Rattle.range_list.specs.Lists.{joined}
use Rattle.range_map.proofs.Listed.{item-within, item-past}
use Rattle.range_map.proofs.retaining.is_item.Goals as goal

pub returns-clause-item : goal.returns-clause-item
returns-clause-item g c = λ on. item-within (joined c.args.steps.now) _ c.item_at.result c.item_at.ensures (sym c.is_some.ensures ∙ on)

pub returns-clause-end : goal.returns-clause-end
returns-clause-end g c = λ off. item-past (joined c.args.steps.now) _ c.item_at.result c.item_at.ensures (sym c.is_some.ensures ∙ off)
