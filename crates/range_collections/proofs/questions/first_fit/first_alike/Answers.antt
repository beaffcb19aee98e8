use Rattle.std.proofs.Common.{sym, subst, arith}
use Rattle.range_collections.specs.Fits.{IsFit, place_after}
use Rattle.range_collections.proofs.FitEnds.{IsFirstFit-from_to, after-fits, none-at_values, start-from_to}
use Rattle.range_collections.proofs.NextMultiple.{each_multiple}
use Rattle.range_collections.proofs.Previous.{IfNone-always}
use Rattle.range_collections.proofs.questions.first_fit.first_alike.Goals as goal

pub returns-in_err-fit-clause-none : goal.returns-in_err-fit-clause-none
returns-in_err-fit-clause-none g c =
    let law = g.met.T.Countable in
    IfNone-always c.from_residual.result
    (none-at_values g.T.Ord.cmp g.T.Countable.value c.args.inside (g.L.Boundaries.items c.args.list) (g.T.Countable.place c.args.ends.now.start) (place_after g.T.Countable.place c.args.ends.now) g.T.Countable.count c.args.count c.of_one.result
    (law.place_fits c.args.ends.now.start c.known.ensures)
    (after-fits c.args.ends.now.closed (g.T.Countable.place c.args.ends.now.end) g.T.Countable.count (law.place_fits c.args.ends.now.end c.known-2.ensures))
    (each_multiple c.of_one.result c.of_one.ensures) c.in_err-fit.ensures.none)

pub returns-in_err-fit-clause-first : goal.returns-in_err-fit-clause-first
returns-in_err-fit-clause-first g c outside s e is some =
    rw c.from_residual.ensures
    (IsFirstFit-from_to g.T.Ord.cmp g.T.Countable.place (g.L.Boundaries.items c.args.list) c.args.ends.now s e is c.args.count _ (c.in_err-fit.ensures.first outside is.2 some c.of_one.ensures))

pub returns-in_err-fit-clause-nothing : goal.returns-in_err-fit-clause-nothing
returns-in_err-fit-clause-nothing g c s e is zero =
    rw c.from_residual.ensures
    (start-from_to g.T.Ord.cmp g.T.Countable.place (g.L.Boundaries.items c.args.list) c.args.ends.now s e is _ (c.in_err-fit.ensures.nothing is.2 zero c.of_one.ensures))

pub returns-clause-fits : goal.returns-clause-fits
returns-clause-fits g c =
    subst (IsFit g.T.Ord.cmp g.T.Countable.value c.args.inside (g.L.Boundaries.items c.args.list) (g.T.Countable.place c.args.ends.now.start) (place_after g.T.Countable.place c.args.ends.now) c.args.count)
    (sym (c.in_ok-fit.ensures.fit.begins c.of_one.ensures)) c.in_ok-fit.ensures.fit.fit

pub returns-clause-least : goal.returns-clause-least
returns-clause-least g c n fit =
    omega (arith, c.in_ok-fit.ensures.fit.least n (each_multiple c.of_one.result c.of_one.ensures n) fit, c.in_ok-fit.ensures.fit.begins c.of_one.ensures)

pub returns-clause-first : goal.returns-clause-first
returns-clause-first g c outside s e is some =
    IsFirstFit-from_to g.T.Ord.cmp g.T.Countable.place (g.L.Boundaries.items c.args.list) c.args.ends.now s e is c.args.count _ (c.in_ok-fit.ensures.first outside is.2 some c.of_one.ensures)

pub returns-clause-nothing : goal.returns-clause-nothing
returns-clause-nothing g c s e is zero =
    start-from_to g.T.Ord.cmp g.T.Countable.place (g.L.Boundaries.items c.args.list) c.args.ends.now s e is _ (c.in_ok-fit.ensures.nothing is.2 zero c.of_one.ensures)
