use Rattle.std.proofs.Common.{ap, option_copied}
use Rattle.range_map.proofs.EndsTaken.{first-key, no-first_key}
use Rattle.range_map.proofs.iter.first_key_or.Goals as goal

pub returns-in-Some : goal.returns-in-Some
returns-in-Some g c =
    first-key c.args.steps.now c.first.result c.in-Some.step.now (option_copied c.args.end) c.first.ensures (ap option_copied c.in-Some.is)

pub returns-in-None : goal.returns-in-None
returns-in-None g c = no-first_key c.args.steps.now c.first.result (option_copied c.args.end) c.first.ensures (ap option_copied c.in-None.is)
