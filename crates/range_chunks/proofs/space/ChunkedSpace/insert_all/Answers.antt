use Rattle.range_merge.specs.Boundaries.{member}
use Rattle.range_chunks.proofs.Bounded.{bounds-more}
use Rattle.range_chunks.proofs.space.ChunkedSpace.insert_all.Goals as goal

pub invariant_of-self : goal.invariant_of-self
invariant_of-self g c =
    let law = g.met.T.Countable in
    bounds-more g.met.T.Ord.total g.T.RangeSetEntry.is_value g.T.Countable.value g.T.Countable.place g.T.Countable.count law.value_is_value law.place_of_value law.place_fits law.in_order
    c.self.inside.taken c.insert_all.new.self c.insert_all.result c.self.inside.bounds.items c.self.invariant c.insert_all.ensures.unchanged
    (member g.T.Ord.cmp c.args.that.boundaries.now) c.insert_all.ensures.members
