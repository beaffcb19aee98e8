use Rattle.std.proofs.Common.{◌≡◌, ◌<◌, ◌∙◌, sym, subst, get_or, length, arith, rules}
use Rattle.std.proofs.lemmas.List.Elements.{All-get_or}
use Rattle.range_chunks.specs.Bounds.{IsBound}
use Rattle.range_chunks.proofs.Bounded.{IsPast-known}
use Rattle.range_chunks.proofs.space.ChunkedSpace.known_past.Goals as goal

pub returns-then-is_around : goal.returns-then-is_around
returns-then-is_around g c end =
    let law = g.met.T.Countable in
    let bounds = c.self.inside.bounds.items in
    let bound = c.in_ok-bound.bound.now in
    let Holds = IsBound g.T.Ord.cmp g.T.Countable.value g.T.Countable.place g.T.Countable.count c.self.inside.taken in
    let fits : c.args.at < length bounds = search rules in
    let is : bound ≡ get_or bounds c.args.at bound = search rules in
    let around = c.is_around.ensures.0 c.if-is_around.true in
    rw (← c.self.view_is)
    (IsPast-known g.met.T.Ord.total g.T.RangeSetEntry.is_value g.T.Countable.value g.T.Countable.place g.T.Countable.count law.value_is_value law.place_of_value law.place_fits law.in_order
    c.self.inside.taken bound (subst Holds (sym is) (All-get_or Holds bounds c.args.at bound fits c.self.invariant))
    c.args.from.now end c.args.count c.args.multiples (sym c.excludes.ensures ∙ c.if-excludes.true) (omega (arith, around.0, c.place.ensures)) (omega (arith, around.1, c.place.ensures)))
