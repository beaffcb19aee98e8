use Rattle.std.proofs.Common.{false}
use Rattle.range_collections.specs.Within.{borrowed_items}
use Rattle.range_collections.proofs.FitSearches.{IsLeastFit-parts, none-parts}
use Rattle.range_chunks.proofs.FitSearches.{IsPast-stopped, is_above, most_between, none_between}
use Rattle.range_chunks.proofs.space.ChunkedSpace.step.Goals as goal

pub note-requires-clause-ordered : goal.note-requires-clause-ordered
note-requires-clause-ordered g c =
    let law = g.met.T.Countable in
    is_above g.met.T.Ord.total g.T.RangeSetEntry.is_value g.T.Countable.value g.T.Countable.place g.T.Countable.count law.value_is_value law.place_of_value law.place_fits law.in_order
    c.self.inside.taken (borrowed_items c.parts_within-gaps.result.first c.parts_within-gaps.result.between c.parts_within-gaps.result.last) c.args.from c.args.end c.known.ensures c.known-2.ensures (rw (← c.boundaries-list.ensures.items) (c.parts_within-gaps.ensures.gives.means)) c.args.count c.args.multiples c.in-Stopped.next c.in-Stopped.most c.in-Stopped.ensures.search

pub note-requires-clause-most : goal.note-requires-clause-most
note-requires-clause-most g c =
    let law = g.met.T.Countable in
    rw (← c.self.view_is)
    (most_between g.met.T.Ord.total g.T.RangeSetEntry.is_value g.T.Countable.value g.T.Countable.place g.T.Countable.count law.value_is_value law.place_of_value law.place_fits law.in_order
    c.self.inside.taken (borrowed_items c.parts_within-gaps.result.first c.parts_within-gaps.result.between c.parts_within-gaps.result.last) c.args.from c.args.end c.known.ensures c.known-2.ensures (rw (← c.boundaries-list.ensures.items) (c.parts_within-gaps.ensures.gives.means)) c.args.count c.args.multiples c.in-Stopped.next c.in-Stopped.most c.in-Stopped.ensures.search)

pub note-requires-clause-aligned : goal.note-requires-clause-aligned
note-requires-clause-aligned g c =
    let law = g.met.T.Countable in
    rw (← c.self.view_is)
    (none_between g.met.T.Ord.total g.T.RangeSetEntry.is_value g.T.Countable.value g.T.Countable.place g.T.Countable.count law.value_is_value law.place_of_value law.place_fits law.in_order
    c.self.inside.taken (borrowed_items c.parts_within-gaps.result.first c.parts_within-gaps.result.between c.parts_within-gaps.result.last) c.args.from c.args.end c.known.ensures c.known-2.ensures (rw (← c.boundaries-list.ensures.items) (c.parts_within-gaps.ensures.gives.means)) c.args.count c.args.multiples c.in-Stopped.next c.in-Stopped.most c.in-Stopped.ensures.search c.requires.some)

pub returns-in-Found-clause-step : goal.returns-in-Found-clause-step
returns-in-Found-clause-step g c =
    let law = g.met.T.Countable in
    rw (← c.self.view_is)
    (IsLeastFit-parts g.met.T.Ord.total g.T.RangeSetEntry.is_value g.T.Countable.value g.T.Countable.place g.T.Countable.count law.value_is_value law.place_of_value law.place_fits law.in_order
    c.args.from c.args.end c.self.inside.taken (borrowed_items c.parts_within-gaps.result.first c.parts_within-gaps.result.between c.parts_within-gaps.result.last) c.known.ensures c.known-2.ensures false (rw (← c.boundaries-list.ensures.items) (c.parts_within-gaps.ensures.gives.means)) c.args.count c.args.multiples c.in-Found.fit c.requires.some c.in-Found.ensures.search)

pub returns-in-Stopped-clause-step : goal.returns-in-Stopped-clause-step
returns-in-Stopped-clause-step g c =
    let law = g.met.T.Countable in
    rw (← c.self.view_is)
    (IsPast-stopped g.met.T.Ord.total g.T.RangeSetEntry.is_value g.T.Countable.value g.T.Countable.place g.T.Countable.count law.value_is_value law.place_of_value law.place_fits law.in_order
    c.self.inside.taken (borrowed_items c.parts_within-gaps.result.first c.parts_within-gaps.result.between c.parts_within-gaps.result.last) c.args.from c.args.end c.known.ensures c.known-2.ensures (rw (← c.boundaries-list.ensures.items) (c.parts_within-gaps.ensures.gives.means)) c.args.count c.args.multiples c.in-Stopped.next c.in-Stopped.most c.in-Stopped.ensures.search)

pub returns-in-End-clause-step : goal.returns-in-End-clause-step
returns-in-End-clause-step g c =
    let law = g.met.T.Countable in
    rw (← c.self.view_is)
    (none-parts g.met.T.Ord.total g.T.RangeSetEntry.is_value g.T.Countable.value g.T.Countable.place g.T.Countable.count law.value_is_value law.place_of_value law.place_fits law.in_order
    c.args.from c.args.end c.self.inside.taken (borrowed_items c.parts_within-gaps.result.first c.parts_within-gaps.result.between c.parts_within-gaps.result.last) c.known.ensures c.known-2.ensures false (rw (← c.boundaries-list.ensures.items) (c.parts_within-gaps.ensures.gives.means)) c.args.count c.args.multiples c.in-End.ensures.search)
