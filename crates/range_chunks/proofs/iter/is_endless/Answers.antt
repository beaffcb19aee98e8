use Rattle.std.proofs.Common.{◌∙◌, ap}
use Rattle.range_merge.specs.Boundaries.{is_odd}
use Rattle.range_chunks.proofs.iter.is_endless.Goals as goal

pub returns : goal.returns
returns g c = c.mark_at.ensures ∙ ap is_odd c.end.ensures.all
