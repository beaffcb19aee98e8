use Rattle.std.proofs.Common.{refl}
use Rattle.range_collections.proofs.questions.first_fit.first_of.Goals as goal

pub returns-in-Stopped-clause-none : goal.returns-in-Stopped-clause-none
returns-in-Stopped-clause-none g c = absurd (c.in-Stopped.ensures.whole refl)
