-- The steps that a list has, as the keys and options of a map.
--     steps_of items     the keys, and the option from each of them on
--     steps_in lists     those of a list in chunks
use Rattle.std.specs.Prelude.{List, map}
use Rattle.range_list.specs.Lists.{joined}
use Rattle.range_map.specs.Steps.{Steps}
use Rattle.range_map.specs.declared.step.Step.{Step}

module _ {K V : Type 0} where
  -- the keys, and the option from each of them on
  abbrev pub steps_of : List (Step K V) → Steps K V
  steps_of items = record { keys = map (λ s. s.key) items; options = map (λ s. s.option) items }

  -- those of a list in chunks
  abbrev pub steps_in : List (List (Step K V)) → Steps K V
  steps_in lists = steps_of (joined lists)
