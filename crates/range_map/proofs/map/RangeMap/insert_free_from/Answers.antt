use Rattle.range_map.proofs.map.RangeMap.insert_free_from.Goals as goal

pub returns-clause-values : goal.returns-clause-values
returns-clause-values g c = rw (← c.self.view_is) c.set_free.ensures.values

pub returns-clause-free : goal.returns-clause-free
returns-clause-free g c = rw (← c.self.view_is) c.set_free.ensures.free

pub returns-clause-handed_back : goal.returns-clause-handed_back
returns-clause-handed_back g c = rw (← c.self.view_is) c.set_free.ensures.handed_back
