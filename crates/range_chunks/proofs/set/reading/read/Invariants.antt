use Rattle.range_chunks.proofs.ReadInto.{IsInserted}
use Rattle.range_chunks.proofs.set.reading.read.Given as goal

abbrev pub invariant-loop-part : goal.invariant-loop-part
invariant-loop-part g l = IsInserted g.T.Ord.cmp g.T.WholeNumber.number l.text l.part-iterator l.set
