use Rattle.std.proofs.Common.{◌∙◌}
use Rattle.range_list.proofs.Listed.{joined-lists}
use Rattle.range_list.proofs.list.Chunks.from_list.Goals as goal

pub returns : goal.returns
returns g c = joined-lists c.in_ok-cut_up.field-0.items ∙ c.in_ok-cut_up.ensures.items
