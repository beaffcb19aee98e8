use Rattle.std.proofs.Common.{◌∙◌}
use Rattle.range_collections.proofs.Reading.{number_of32}
use Rattle.range_collections.proofs.whole_number.I32WholeNumber.read.Goals as goal

pub returns : goal.returns
returns c = c.ok.ensures.value ∙ number_of32 c.args.text.now c.parse.result c.parse.ensures.value.0
