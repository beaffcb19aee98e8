use Rattle.range_merge.specs.Boundaries.{member}
use Rattle.range_chunks.proofs.Related.{Less-tested, not_Less-tested, Less-then_first, starts-some, starts-none, nothing-there}
use Rattle.range_chunks.proofs.relating.starts_below.Goals as goal

pub returns-in-Some-clause-some : goal.returns-in-Some-clause-some
returns-in-Some-clause-some g c = λ t. (
  c.in-Some.first.now,
  starts-some g.met.T.Ord.total (g.L.Boundaries.items c.args.list) (g.L.Boundaries.index c.args.list c.front.result) c.front.ensures.index c.requires.sorted c.in-Some.first.now c.in-Some.ensures,
  Less-tested g.met.T.Ord.total c.is_lt.result c.in-Some.first.now c.args.at.now c.cmp.result c.is_lt.ensures c.cmp.ensures t,
)

pub returns-in-Some-clause-none : goal.returns-in-Some-clause-none
returns-in-Some-clause-none g c = λ f x less.
    starts-none g.met.T.Ord.total (g.L.Boundaries.items c.args.list) (g.L.Boundaries.index c.args.list c.front.result) c.front.ensures.index c.requires.sorted c.in-Some.first.now x c.in-Some.ensures
    (Less-then_first g.met.T.Ord.total x c.args.at.now c.in-Some.first.now less (not_Less-tested g.met.T.Ord.total c.is_lt.result c.in-Some.first.now c.args.at.now c.cmp.result c.is_lt.ensures c.cmp.ensures f))

pub returns-in-None-clause-none : goal.returns-in-None-clause-none
returns-in-None-clause-none g c = λ f x less.
    nothing-there g.met.T.Ord.total (g.L.Boundaries.items c.args.list) (g.L.Boundaries.index c.args.list c.front.result) c.front.ensures.index c.requires.sorted x c.in-None.ensures
