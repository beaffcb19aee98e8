use Rattle.range_collections.proofs.Fronts.{IsReadTo}
use Rattle.range_collections.proofs.parse.fault_in.Given as goal

abbrev pub invariant-loop-at : goal.invariant-loop-at
invariant-loop-at l = IsReadTo l.text l.at-iterator.rest.now l.at-iterator.at l.state
