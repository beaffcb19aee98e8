use Rattle.range_collections.proofs.ReadParts.{IsReadInto}
use Rattle.range_collections.proofs.parse.read.Given as goal

abbrev pub invariant-loop-part : goal.invariant-loop-part
invariant-loop-part g l =
    IsReadInto g.T.Ord.cmp g.T.WholeNumber.number g.row.N l.text l.part-iterator l.set l.aside.starts.items l.aside.ends.items
