use Rattle.std.specs.Ordering.{is_le}
use Rattle.range_chunks.proofs.Bounded.{bounds-more}
use Rattle.range_chunks.proofs.space.ChunkedSpace.insert_from.Goals as goal

pub invariant_of-self : goal.invariant_of-self
invariant_of-self g c =
    let law = g.met.T.Countable in
    bounds-more g.met.T.Ord.total g.T.RangeSetEntry.is_value g.T.Countable.value g.T.Countable.place g.T.Countable.count law.value_is_value law.place_of_value law.place_fits law.in_order
    c.self.inside.taken c.insert_from.new.self c.insert_from.result c.self.inside.bounds.items c.self.invariant c.insert_from.ensures.changed.unchanged
    (λ x. is_le (g.T.Ord.cmp c.args.range.start x)) c.insert_from.ensures.members
