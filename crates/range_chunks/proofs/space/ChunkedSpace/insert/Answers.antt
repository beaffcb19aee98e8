use Rattle.std.proofs.Common.{◌&&◌}
use Rattle.std.specs.Ordering.{is_le, is_lt}
use Rattle.range_chunks.proofs.Bounded.{bounds-more}
use Rattle.range_chunks.proofs.space.ChunkedSpace.insert.Goals as goal

pub invariant_of-self : goal.invariant_of-self
invariant_of-self g c =
    let law = g.met.T.Countable in
    bounds-more g.met.T.Ord.total g.T.RangeSetEntry.is_value g.T.Countable.value g.T.Countable.place g.T.Countable.count law.value_is_value law.place_of_value law.place_fits law.in_order
    c.self.inside.taken c.insert.new.self c.insert.result c.self.inside.bounds.items c.self.invariant c.insert.ensures.changed.unchanged
    (λ x. is_le (g.T.Ord.cmp c.args.range.start x) && is_lt (g.T.Ord.cmp x c.args.range.end)) c.insert.ensures.members
