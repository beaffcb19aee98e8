use Rattle.std.proofs.Common.{arith, length}
use Rattle.std.proofs.lemmas.List.{map-id}
use Rattle.range_merge.proofs.Digits.{digits-le, digits-mono}
use Rattle.range_list.specs.Lists.{joined}
use Rattle.range_collections.proofs.Searched.{digits-rest}
use Rattle.range_list.proofs.boundaries.RefChunksBoolBoundaries.up_to.Goals as goal

pub place_up_to-requires-clause-ascending : goal.place_up_to-requires-clause-ascending
place_up_to-requires-clause-ascending g c = rw (map-id (joined c.args.self.now.now)) c.requires.sorted

pub returns-clause-before : goal.returns-clause-before
returns-clause-before g c = rw (map-id (joined c.args.self.now.now)) at c.place_up_to.ensures.up_to

pub returns-clause-from : goal.returns-clause-from
returns-clause-from g c = rw (map-id (joined c.args.self.now.now)) at c.place_up_to.ensures.above

pub returns-clause-cheap : goal.returns-clause-cheap
returns-clause-cheap g c = omega (arith, digits-le (length (joined c.args.self.now.now)), digits-le 512, c.len-length.ensures, c.len-length.type_inv)

pub returns-clause-comparisons : goal.returns-clause-comparisons
returns-clause-comparisons g c = record {
  at_least = c.place_up_to.ensures.comparisons.at_least;
  at_most = omega (arith, c.place_up_to.ensures.comparisons.at_most, digits-rest, digits-mono (length c.args.self.now.now) (length (joined c.args.self.now.now)) c.place_up_to.ensures.fewer);
}

pub returns-clause-sharp : goal.returns-clause-sharp
returns-clause-sharp g c = record {
  at_least = c.place_up_to.ensures.comparisons.at_least;
  at_most = omega (arith, c.place_up_to.ensures.comparisons.at_most, digits-rest);
}
