use Rattle.range_collections.proofs.Distinct.{AreDistinctOf-dedup}
use Rattle.range_c.proofs.unsorted.from_unsorted.Goals as goal

pub returns-clause-distinct : goal.returns-clause-distinct
returns-clause-distinct g c =
    rw c.keep_distinct.ensures.distinct
    (AreDistinctOf-dedup g.met.T.Ord.total g.met.T.Eq.laws g.met.T.Ord.matches_eq c.args.items.now c.sort_unstable.new.self
    c.sort_unstable.ensures.permutation c.sort_unstable.ensures.sorted)
