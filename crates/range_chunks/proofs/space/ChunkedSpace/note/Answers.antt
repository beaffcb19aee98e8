use Rattle.std.proofs.Common.{◌≡◌, ◌∙◌, true, sym}
use Rattle.range_merge.specs.Boundaries.{member}
use Rattle.range_chunks.proofs.Bounded.{IsBound-noted}
use Rattle.range_chunks.proofs.space.ChunkedSpace.note.Goals as goal

pub put_bound-requires : goal.put_bound-requires
put_bound-requires g c =
    let law = g.met.T.Countable in
    let taken : member g.T.Ord.cmp c.args.self.now c.args.bound.end ≡ true = rw (← c.self.view_is) (sym c.contains.ensures ∙ c.if-contains.true) in
    IsBound-noted g.met.T.Ord.total g.T.RangeSetEntry.is_value g.T.Countable.value g.T.Countable.place g.T.Countable.count law.value_is_value law.place_of_value law.place_fits law.in_order
    c.args.self.now c.args.bound c.known.ensures c.requires.ordered c.requires.most c.requires.aligned taken
