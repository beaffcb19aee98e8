use Rattle.std.proofs.Common.{◌≡◌, map, take}
use Rattle.serde_json.specs.View.{view}
use Rattle.range_collections.specs.Json.{number_data}
use Rattle.range_collections.proofs.json.values.Given as goal

abbrev pub invariant-loop-x : goal.invariant-loop-x
invariant-loop-x l = map view l.list.items ≡ map number_data (take l.x-index l.numbers)
