use Rattle.range_chunks.proofs.OpenEnded.{below_open}
use Rattle.range_chunks.proofs.several.set_all.Goals as goal

pub set_with_open-requires-clause-below : goal.set_with_open-requires-clause-below
set_with_open-requires-clause-below g c =
    below_open g.met.T.Ord.total c.args.that.now c.split_at.result.0.now c.split_at.result.1.now c.in-Some.start.now c.requires.that_sorted c.split_at.ensures.by_index.0 c.in-Some.ensures.value
