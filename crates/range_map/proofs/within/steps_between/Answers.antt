use Rattle.std.proofs.Common.{ap₂, ◌∙◌}
use Rattle.range_map.specs.Entries.{entries_of}
use Rattle.range_map.proofs.within.steps_between.Goals as goal

pub returns : goal.returns
returns g c =
    c.new.ensures
    ∙ ap₂ entries_of c.between.ensures c.key_at.ensures
