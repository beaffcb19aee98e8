use Rattle.range_collections.specs.Fits.{place_after}
use Rattle.range_collections.proofs.FitEnds.{after-fits}
use Rattle.range_collections.proofs.Fitting.{IfSome-map, IfSome-least, IfNone-fits, IsFit-Fits}
use Rattle.range_collections.proofs.questions.first_fit.first_gap_of.Goals as goal

pub returns-clause-fits : goal.returns-clause-fits
returns-clause-fits g c =
    let law = g.met.T.Countable in
    let high = after-fits c.args.ends.now.closed (g.T.Countable.place c.args.ends.now.end) g.T.Countable.count (law.place_fits c.args.ends.now.end c.known.ensures) in
    IfSome-map c.first_alike.result _ _ (IsFit-Fits g.T.Ord.cmp g.T.Countable.value g.T.Countable.place g.T.Countable.count law.place_of_value g.met.T.Unsigned.order_of_places (g.L.Boundaries.items c.args.list) (g.T.Countable.place c.args.ends.now.start) (place_after g.T.Countable.place c.args.ends.now) c.args.len high)
    (rw (← c.place.ensures) (c.first_alike.ensures.fits))

pub returns-clause-free : goal.returns-clause-free
returns-clause-free g c =
    let law = g.met.T.Countable in
    let high = after-fits c.args.ends.now.closed (g.T.Countable.place c.args.ends.now.end) g.T.Countable.count (law.place_fits c.args.ends.now.end c.known.ensures) in
    IfSome-map c.first_alike.result _ _ (λ at fit. (IsFit-Fits g.T.Ord.cmp g.T.Countable.value g.T.Countable.place g.T.Countable.count law.place_of_value g.met.T.Unsigned.order_of_places (g.L.Boundaries.items c.args.list) (g.T.Countable.place c.args.ends.now.start) (place_after g.T.Countable.place c.args.ends.now) c.args.len high at fit).free)
    (rw (← c.place.ensures) (c.first_alike.ensures.fits))

pub returns-clause-least : goal.returns-clause-least
returns-clause-least g c =
    let law = g.met.T.Countable in
    let high = after-fits c.args.ends.now.closed (g.T.Countable.place c.args.ends.now.end) g.T.Countable.count (law.place_fits c.args.ends.now.end c.known.ensures) in
    IfSome-least g.T.Ord.cmp g.T.Countable.value g.T.Countable.place g.T.Countable.count law.place_of_value g.met.T.Unsigned.order_of_places (g.L.Boundaries.items c.args.list) (g.T.Countable.place c.args.ends.now.start) (place_after g.T.Countable.place c.args.ends.now) c.args.len high c.first_alike.result
    (rw (← c.place.ensures) (c.first_alike.ensures.least))

pub returns-clause-none : goal.returns-clause-none
returns-clause-none g c =
    let law = g.met.T.Countable in
    let high = after-fits c.args.ends.now.closed (g.T.Countable.place c.args.ends.now.end) g.T.Countable.count (law.place_fits c.args.ends.now.end c.known.ensures) in
    IfNone-fits g.T.Ord.cmp g.T.Countable.value g.T.Countable.place g.T.Countable.count law.place_of_value g.met.T.Unsigned.order_of_places (g.L.Boundaries.items c.args.list) (g.T.Countable.place c.args.ends.now.start) (place_after g.T.Countable.place c.args.ends.now) c.args.len high c.first_alike.result
    (rw (← c.place.ensures) (c.first_alike.ensures.none))
