use Rattle.range_map.proofs.Compared.{IsTrue-eq_steps}
use Rattle.range_map.proofs.map.equality.RangeMapPartialEq.eq.Goals as goal

pub returns-clause-values : goal.returns-clause-values
returns-clause-values g c =
    rw (← c.self.view_is, ← c.other.view_is)
    (IsTrue-eq_steps g.K.Ord.cmp g.met.K.Ord.total g.V.PartialEq.eq g.met.V.Eq.laws g.K.PartialEq.eq g.met.K.Ord.matches_eq _ _ c.are_equal.result c.self.invariant c.other.invariant (rw (c.items.ensures, c.items-2.ensures) at c.are_equal.ensures))
