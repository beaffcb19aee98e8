use Rattle.range_collections.specs.Fits.{place_after}
use Rattle.range_collections.proofs.FitEnds.{after-fits}
use Rattle.range_collections.proofs.Fitting.{IfSome-map, IfSome-least, IfNone-fits, IsFit-Fits}
use Rattle.range_chunks.proofs.space.ChunkedSpace.first_fit.Goals as goal

pub returns-clause-fits : goal.returns-clause-fits
returns-clause-fits g c =
    let law = g.met.T.Countable in
    let high = after-fits c.ends-range.result.closed (g.T.Countable.place c.ends-range.result.end) g.T.Countable.count (law.place_fits c.ends-range.result.end c.known.ensures) in
    rw (← c.ends-range.ensures.start, ← c.ends-range.ensures.end)
    (IfSome-map c.first_free.result _ _ (IsFit-Fits g.T.Ord.cmp g.T.Countable.value g.T.Countable.place g.T.Countable.count law.place_of_value g.met.T.Unsigned.order_of_places c.args.self.now (g.T.Countable.place c.ends-range.result.start) (place_after g.T.Countable.place c.ends-range.result) c.args.len high)
    (rw (← c.place.ensures) (c.first_free.ensures.fits)))

pub returns-clause-free : goal.returns-clause-free
returns-clause-free g c =
    let law = g.met.T.Countable in
    let high = after-fits c.ends-range.result.closed (g.T.Countable.place c.ends-range.result.end) g.T.Countable.count (law.place_fits c.ends-range.result.end c.known.ensures) in
    IfSome-map c.first_free.result _ _ (λ at fit. (IsFit-Fits g.T.Ord.cmp g.T.Countable.value g.T.Countable.place g.T.Countable.count law.place_of_value g.met.T.Unsigned.order_of_places c.args.self.now (g.T.Countable.place c.ends-range.result.start) (place_after g.T.Countable.place c.ends-range.result) c.args.len high at fit).free)
    (rw (← c.place.ensures) (c.first_free.ensures.fits))

pub returns-clause-least : goal.returns-clause-least
returns-clause-least g c =
    let law = g.met.T.Countable in
    let high = after-fits c.ends-range.result.closed (g.T.Countable.place c.ends-range.result.end) g.T.Countable.count (law.place_fits c.ends-range.result.end c.known.ensures) in
    rw (← c.ends-range.ensures.start, ← c.ends-range.ensures.end)
    (IfSome-least g.T.Ord.cmp g.T.Countable.value g.T.Countable.place g.T.Countable.count law.place_of_value g.met.T.Unsigned.order_of_places c.args.self.now (g.T.Countable.place c.ends-range.result.start) (place_after g.T.Countable.place c.ends-range.result) c.args.len high c.first_free.result
    (rw (← c.place.ensures) (c.first_free.ensures.least)))

pub returns-clause-none : goal.returns-clause-none
returns-clause-none g c =
    let law = g.met.T.Countable in
    let high = after-fits c.ends-range.result.closed (g.T.Countable.place c.ends-range.result.end) g.T.Countable.count (law.place_fits c.ends-range.result.end c.known.ensures) in
    rw (← c.ends-range.ensures.start, ← c.ends-range.ensures.end)
    (IfNone-fits g.T.Ord.cmp g.T.Countable.value g.T.Countable.place g.T.Countable.count law.place_of_value g.met.T.Unsigned.order_of_places c.args.self.now (g.T.Countable.place c.ends-range.result.start) (place_after g.T.Countable.place c.ends-range.result) c.args.len high c.first_free.result
    (rw (← c.place.ensures) (c.first_free.ensures.none)))
