use Rattle.std.proofs.Common.{◌∙◌}
use Rattle.range_collections.proofs.Reading.{unsigned_number-parsed}
use Rattle.range_collections.proofs.whole_number.U16WholeNumber.read.Goals as goal

pub returns : goal.returns
returns c = c.ok.ensures.value ∙ unsigned_number-parsed 16 c.args.text.now c.parse.result c.parse.ensures.value.0
