use Rattle.std.proofs.Common.{◌≡◌, take}
use Rattle.std.specs.List.{filter_map}
use Rattle.serde_json.specs.View.{view}
use Rattle.range_collections.specs.Json.{whole_number}
use Rattle.range_collections.proofs.json.read.Given as goal

abbrev pub invariant-loop-item : goal.invariant-loop-item
invariant-loop-item g l = l.list.items ≡ filter_map (λ v. whole_number (view v)) (take l.item-index l.items)
