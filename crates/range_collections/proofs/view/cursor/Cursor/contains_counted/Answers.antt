use Rattle.std.proofs.Common.{arith}
use Rattle.range_collections.proofs.Shortest.{count_up_to-le_length}
use Rattle.range_collections.proofs.view.cursor.Cursor.contains_counted.Goals as goal

pub invariant_of-self : goal.invariant_of-self
invariant_of-self g c = record {
  within = omega (arith, c.count_from-place.ensures.value, count_up_to-le_length g.T.Ord.cmp c.args.value.now c.args.self.now.set.boundaries.now);
}
