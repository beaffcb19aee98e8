use Rattle.std.proofs.lemmas.List.{take_rest}
use Rattle.range_merge.proofs.slice_iterator.SliceIterator.drop_front.Goals as goal

pub returns : goal.returns
returns g c = rw (← c.self.view_is) (take_rest c.self.inside.unread.now c.args.n)
