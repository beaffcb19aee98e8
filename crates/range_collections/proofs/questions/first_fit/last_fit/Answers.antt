use Rattle.std.proofs.Common.{arith}
use Rattle.range_collections.proofs.FitEnds.{IsFit-last, from-last, none-otherwise}
use Rattle.range_collections.proofs.NextMultiple.{each_multiple}
use Rattle.range_collections.proofs.Previous.{IfNone-always}
use Rattle.range_collections.proofs.questions.first_fit.last_fit.Goals as goal

pub returns-in_err-start-clause-none : goal.returns-in_err-start-clause-none
returns-in_err-start-clause-none g c =
    IfNone-always c.from_residual.result
    (λ n full even fit.
    none-otherwise g.T.Ord.cmp g.T.Countable.value c.args.inside (g.L.Boundaries.items c.args.list) (g.T.Countable.place c.args.start.now) (g.T.Countable.place c.args.greatest.now) g.T.Countable.count c.args.count
    c.requires.greatest c.requires.some c.in_err-start.ensures.none n full fit)

pub first_multiple_in-requires-clause-in_order : goal.first_multiple_in-requires-clause-in_order
first_multiple_in-requires-clause-in_order g c = omega (arith, c.requires.greatest, g.met.T.Countable.place_fits c.in_ok-start.start.now c.known.ensures)

pub returns-in_err-place-clause-none : goal.returns-in_err-place-clause-none
returns-in_err-place-clause-none g c =
    IfNone-always c.from_residual-in_err-place.result
    (λ n full even fit.
    let low =
    from-last g.T.Ord.cmp g.T.Countable.value g.T.Countable.place g.T.Countable.count c.args.inside (g.L.Boundaries.items c.args.list) c.args.start.now c.in_ok-start.start.now c.in_ok-start.ensures.alike c.args.count n full fit in
    omega (arith, c.in_err-place.ensures.none n even low, full, c.requires.greatest, c.requires.some))

pub returns-clause-fit : goal.returns-clause-fit
returns-clause-fit g c =
    IsFit-last g.T.Ord.cmp g.T.Countable.value g.T.Countable.place g.T.Countable.count c.args.inside (g.L.Boundaries.items c.args.list) c.args.start.now c.in_ok-start.start.now c.in_ok-start.ensures.alike c.args.count
    c.in_ok-place.place c.in_ok-place.ensures.fits.0 (omega (arith, c.in_ok-place.ensures.fits.1, c.requires.greatest, c.requires.some))

pub returns-clause-begins : goal.returns-clause-begins
returns-clause-begins g c one =
    omega (arith, c.in_ok-place.ensures.fits.0, c.in_ok-place.ensures.least (g.T.Countable.place c.in_ok-start.start.now) (each_multiple c.args.multiples one (g.T.Countable.place c.in_ok-start.start.now)) (omega arith))
