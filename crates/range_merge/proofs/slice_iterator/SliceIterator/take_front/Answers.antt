use Rattle.range_merge.proofs.slice_iterator.SliceIterator.take_front.Goals as goal

pub returns-clause-front : goal.returns-clause-front
returns-clause-front g c = rw (← c.self.view_is) c.split_at.ensures.front

pub returns-clause-rest : goal.returns-clause-rest
returns-clause-rest g c = rw (← c.self.view_is) c.split_at.ensures.back
