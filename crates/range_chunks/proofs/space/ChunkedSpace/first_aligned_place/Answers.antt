use Rattle.std.proofs.Common.{arith}
use Rattle.range_collections.proofs.FitEnds.{after-fits}
use Rattle.range_collections.proofs.NextMultiple.{IsMultiple-among, IsOneOf-among}
use Rattle.range_collections.proofs.Previous.{IfNone-always}
use Rattle.range_chunks.proofs.space.ChunkedSpace.first_aligned_place.Goals as goal

pub returns-in_err-fit-clause-none : goal.returns-in_err-fit-clause-none
returns-in_err-fit-clause-none g c = IfNone-always c.from_residual.result (λ n less one. c.in_err-fit.ensures.none n (IsOneOf-among c.among.result g.T.FromPlace.zero c.args.align c.among.ensures.of c.among.ensures.zero n one))

pub returns-clause-fits : goal.returns-clause-fits
returns-clause-fits g c = c.in_ok-fit.ensures.first.fit

pub returns-clause-below : goal.returns-clause-below
returns-clause-below g c =
    omega (arith, c.in_ok-fit.ensures.first.fit.up_to, c.requires.some, after-fits c.args.ends.now.closed (g.T.Countable.place c.args.ends.now.end) g.T.Countable.count (g.met.T.Countable.place_fits c.args.ends.now.end c.known.ensures))

pub returns-clause-aligned : goal.returns-clause-aligned
returns-clause-aligned g c = IsMultiple-among c.among.result g.T.FromPlace.zero c.args.align c.among.ensures.of c.among.ensures.zero c.in_ok-fit.fit.place c.in_ok-fit.ensures.first.aligned

pub returns-clause-least : goal.returns-clause-least
returns-clause-least g c n one = c.in_ok-fit.ensures.first.least n (IsOneOf-among c.among.result g.T.FromPlace.zero c.args.align c.among.ensures.of c.among.ensures.zero n one)
