-- Steps that are read by reference.
--     steps_read refs    the keys and options that the references lead to
use Rattle.std.specs.Prelude.{List, map, option_copied}
use Rattle.std.specs.Borrow.{Bor}
use Rattle.range_map.specs.Steps.{Steps}
use Rattle.range_map.specs.declared.step.Step.{Step}

-- the keys and options that the references lead to
abbrev pub steps_read : {K V : Type 0} → List (Step (Bor K) (Bor V)) → Steps K V
steps_read refs =
    record { keys = map (λ s. s.key.now) refs; options = map (λ s. option_copied s.option) refs }
