use Rattle.range_map.specs.Combining.{IsMadeUpTo}
use Rattle.range_map.specs.Listed.{steps_of}
use Rattle.range_map.proofs.map.combining.put_left.Given as goal

abbrev pub invariant-loop-n : goal.invariant-loop-n
invariant-loop-n g l =
    IsMadeUpTo g.K.Ord.cmp g.O.Output.PartialEq.eq (g.O.MapOperation.gives l.op) l.a l.b l.n l.j (steps_of l.list.items)
