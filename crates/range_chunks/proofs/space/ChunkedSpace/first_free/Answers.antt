use Rattle.std.proofs.Common.{refl, false, sym, subst, arith}
use Rattle.range_collections.specs.Fits.{IsFit, place_after}
use Rattle.range_collections.proofs.NextMultiple.{each_multiple}
use Rattle.range_collections.proofs.Previous.{IfNone-always}
use Rattle.range_chunks.proofs.space.ChunkedSpace.first_free.Goals as goal

pub returns-then-count-eq0-clause-fits : goal.returns-then-count-eq0-clause-fits
returns-then-count-eq0-clause-fits g c = rw (← c.self.view_is, ← c.boundaries.ensures.items, c.if-count-eq0.true) (c.first_alike.ensures.fits)

pub returns-then-count-eq0-clause-least : goal.returns-then-count-eq0-clause-least
returns-then-count-eq0-clause-least g c = rw (← c.self.view_is, ← c.boundaries.ensures.items, c.if-count-eq0.true) (c.first_alike.ensures.least)

pub returns-then-count-eq0-clause-none : goal.returns-then-count-eq0-clause-none
returns-then-count-eq0-clause-none g c = rw (← c.self.view_is, ← c.boundaries.ensures.items, c.if-count-eq0.true) (c.first_alike.ensures.none)

pub returns-then-count-eq0-clause-nothing : goal.returns-then-count-eq0-clause-nothing
returns-then-count-eq0-clause-nothing g c s e is zero = c.first_alike.ensures.nothing s e is refl

pub returns-in_err-fit-clause-none : goal.returns-in_err-fit-clause-none
returns-in_err-fit-clause-none g c =
    IfNone-always c.from_residual.result
    (λ n fit. c.in_err-fit.ensures.none n (each_multiple c.of_one.result c.of_one.ensures n) fit)

pub returns-in_err-fit-clause-nothing : goal.returns-in_err-fit-clause-nothing
returns-in_err-fit-clause-nothing g c s e is zero = absurd (omega (arith, c.if-count-eq0.false, zero))

pub returns-clause-fits : goal.returns-clause-fits
returns-clause-fits g c =
    subst (IsFit g.T.Ord.cmp g.T.Countable.value false c.args.self.now (g.T.Countable.place c.args.ends.now.start) (place_after g.T.Countable.place c.args.ends.now) c.args.count)
    (sym (c.in_ok-fit.ensures.first.begins c.of_one.ensures)) c.in_ok-fit.ensures.first.fit

pub returns-clause-least : goal.returns-clause-least
returns-clause-least g c n fit =
    omega (arith, c.in_ok-fit.ensures.first.least n (each_multiple c.of_one.result c.of_one.ensures n) fit, c.in_ok-fit.ensures.first.begins c.of_one.ensures)

pub returns-clause-nothing : goal.returns-clause-nothing
returns-clause-nothing g c s e is zero = absurd (omega (arith, c.if-count-eq0.false, zero))
