use Rattle.std.proofs.Common.{◌∙◌, ap, map}
use Rattle.serde_json.proofs.Views.{view-Array}
use Rattle.serde_json.specs.Data.{array}
use Rattle.serde_json.specs.View.{items_of}
use Rattle.range_collections.specs.Json.{number_data}
use Rattle.range_collections.proofs.json.RangeSet+i64+N.to_json.Goals as goal

pub returns : goal.returns
returns g c = rw (view-Array c.in_ok-list.list) (ap (λ ds. array (items_of ds)) (c.in_ok-list.ensures ∙ ap (map number_data) c.boundaries.ensures.same))
