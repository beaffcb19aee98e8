use Rattle.std.proofs.Common.{All, sym, subst}
use Rattle.range_chunks.specs.Bounds.{IsBound}
use Rattle.range_chunks.proofs.Bounded.{bounds-less}
use Rattle.range_chunks.proofs.space.ChunkedSpace.remove.Goals as goal

pub invariant_of-self : goal.invariant_of-self
invariant_of-self g c =
    let law = g.met.T.Countable in
    subst (All (IsBound g.T.Ord.cmp g.T.Countable.value g.T.Countable.place g.T.Countable.count c.remove.new.self)) (sym c.forget.ensures)
    (bounds-less g.met.T.Ord.total g.T.RangeSetEntry.is_value g.T.Countable.value g.T.Countable.place g.T.Countable.count law.value_is_value law.place_of_value law.place_fits law.in_order
    c.self.inside.taken c.remove.new.self c.remove.result c.self.inside.bounds.items c.self.invariant c.remove.ensures.changed.unchanged
    c.args.range.start c.args.range.end c.known.ensures c.known-2.ensures c.remove.ensures.members)
