-- The faults that errors of JSON come to.
--     IsFaultOfText error fault      the fault of a text that isn't read
--     fault_of_value error           the fault of a value that isn't a list
use Rattle.std.specs.Prelude.{◌≡◌}
use Rattle.serde_json.specs.Errors.{IsMemory}
use Rattle.serde_json.specs.declared.error.Error.{Error}
use Rattle.range_collections.specs.declared.json.JsonError.{JsonError}
use Rattle.range_collections.specs.declared.json.JsonError.TheVariants.{NotArray, NotInteger, OutOfMemory}
use Rattle.range_calc_answers.specs.declared.answering.Fault.{Fault}
use Rattle.range_calc_answers.specs.declared.answering.Fault.TheVariants.{NoMemory, BadJson}

-- out of memory stays that; every other error is the text's
abbrev pub IsFaultOfText : Error → Fault → Type 0
IsFaultOfText error fault =
    (IsMemory error → fault ≡ NoMemory) × (¬ (IsMemory error) → fault ≡ BadJson)

-- out of memory stays that; every other error is the value's
abbrev pub fault_of_value : JsonError → Fault
fault_of_value NotArray = BadJson
fault_of_value (NotInteger index) = BadJson
fault_of_value OutOfMemory = NoMemory
