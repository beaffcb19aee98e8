use Rattle.std.proofs.Common.{refl}
use Rattle.range_collections.proofs.Ascending.{IsAscending-tail}
use Rattle.range_chunks.proofs.Related.{outside-below, outside-in_gap, outside-none, some-there, none-there}
use Rattle.range_chunks.proofs.relating.exceeds.Goals as goal

pub meets-requires : goal.meets-requires
meets-requires g c κs = (
  (refl, tt),
  (IsAscending-tail g.T.Ord.cmp c.in-Some.first.now (g.U.Unread.unread c.take_first.new.self) (rw c.in-Some.ensures at c.requires.ranges_sorted), c.requires.sorted),
)

pub returns-then-starts_below-clause-some : goal.returns-then-starts_below-clause-some
returns-then-starts_below-clause-some g c = λ t.
    rw c.in-Some.ensures
    (outside-below g.met.T.Ord.total c.in-Some.first.now (g.U.Unread.unread c.take_first.new.self) (g.L.Boundaries.items c.args.list)
    (rw c.in-Some.ensures at c.requires.ranges_sorted) (c.starts_below.ensures.some t))

pub returns-else-starts_below-clause-some : goal.returns-else-starts_below-clause-some
returns-else-starts_below-clause-some g c = λ t.
    rw c.in-Some.ensures
    (outside-in_gap g.met.T.Ord.total c.in-Some.first.now (g.U.Unread.unread c.take_first.new.self) (g.L.Boundaries.items c.args.list)
    (rw c.in-Some.ensures at c.requires.ranges_sorted) (c.meets.ensures.some t))

pub returns-else-starts_below-clause-none : goal.returns-else-starts_below-clause-none
returns-else-starts_below-clause-none g c = λ f.
    rw c.in-Some.ensures
    (outside-none g.met.T.Ord.total c.in-Some.first.now (g.U.Unread.unread c.take_first.new.self) (g.L.Boundaries.items c.args.list)
    (rw c.in-Some.ensures at c.requires.ranges_sorted) (c.starts_below.ensures.none c.if-starts_below.false) (c.meets.ensures.none f))

pub returns-in-None-clause-some : goal.returns-in-None-clause-some
returns-in-None-clause-some g c = λ t.
    rw c.in-None.ensures.0
    (some-there g.met.T.Ord.total (g.L.Boundaries.items c.args.list) (g.L.Boundaries.index c.args.list c.front.result) c.front.ensures.index c.requires.sorted c.item_at.result c.is_some.result c.is_some.ensures c.item_at.ensures t)

pub returns-in-None-clause-none : goal.returns-in-None-clause-none
returns-in-None-clause-none g c = λ f.
    rw c.in-None.ensures.0
    (none-there g.met.T.Ord.total (g.L.Boundaries.items c.args.list) (g.L.Boundaries.index c.args.list c.front.result) c.front.ensures.index c.requires.sorted c.item_at.result c.is_some.result c.is_some.ensures c.item_at.ensures f)
