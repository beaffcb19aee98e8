use Rattle.range_collections.proofs.NextMultiple.{IsOneOf-among}
use Rattle.range_collections.proofs.Previous.{IfNone-always}
use Rattle.range_collections.proofs.questions.first_fit.first_aligned_place.Goals as goal

pub returns-in_err-fit-clause-none : goal.returns-in_err-fit-clause-none
returns-in_err-fit-clause-none g c =
    IfNone-always c.from_residual.result
    (λ n less even fit. c.in_err-fit.ensures.none n less (IsOneOf-among c.among.result g.T.FromPlace.zero c.args.align c.among.ensures.of c.among.ensures.zero n even) fit)

pub returns-clause-least : goal.returns-clause-least
returns-clause-least g c n even fit =
    c.in_ok-fit.ensures.fit.least n (IsOneOf-among c.among.result g.T.FromPlace.zero c.args.align c.among.ensures.of c.among.ensures.zero n even) fit
