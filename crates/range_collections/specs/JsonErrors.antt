-- What is written of why a JSON value is not read as a set.
use Rattle.std.specs.Prelude.{ℕ, List, ◌++◌, codes, decimal}
use Rattle.range_collections.specs.declared.json.JsonError.{JsonError}
use Rattle.range_collections.specs.declared.json.JsonError.TheVariants.{NotArray, NotInteger, OutOfMemory}

-- one sentence, with the item's place where there is one
abbrev pub json_error_text : JsonError → List ℕ
json_error_text NotArray = codes "the value is no array"
json_error_text (NotInteger index) =
    codes "item " ++ (decimal index ++ codes " is no whole number of 64 bits")
json_error_text OutOfMemory = codes "memory ran out"
