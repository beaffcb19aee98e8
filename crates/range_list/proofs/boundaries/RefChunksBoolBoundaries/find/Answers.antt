use Rattle.std.proofs.Common.{arith, length}
use Rattle.std.proofs.lemmas.List.{map-id}
use Rattle.range_merge.proofs.Digits.{digits-le, digits-mono}
use Rattle.range_list.specs.Lists.{joined, place_at}
use Rattle.range_collections.proofs.Changing.{finds}
use Rattle.range_collections.proofs.Searched.{digits-rest}
use Rattle.range_list.proofs.boundaries.RefChunksBoolBoundaries.find.Goals as goal

pub find-requires-clause-ascending : goal.find-requires-clause-ascending
find-requires-clause-ascending g c = rw (map-id (joined c.args.self.now.now)) c.requires.sorted

pub returns-clause-found : goal.returns-clause-found
returns-clause-found g c =
    finds g.T.Ord.cmp (joined c.args.self.now.now) c.args.value.now (place_at c.args.self.now.now) c.find.result c.find.ensures.found_within
    (rw (map-id (joined c.args.self.now.now)) at c.find.ensures.found) c.find.ensures.missing_within
    (rw (map-id (joined c.args.self.now.now)) at c.find.ensures.missing_before) (rw (map-id (joined c.args.self.now.now)) at c.find.ensures.missing_from)

pub returns-clause-cheap : goal.returns-clause-cheap
returns-clause-cheap g c = omega (arith, digits-le (length (joined c.args.self.now.now)), digits-le 512, c.len-length.ensures, c.len-length.type_inv)

pub returns-clause-comparisons : goal.returns-clause-comparisons
returns-clause-comparisons g c = record {
  at_least = c.find.ensures.comparisons.at_least;
  at_most = omega (arith, c.find.ensures.comparisons.at_most, digits-rest, digits-mono (length c.args.self.now.now) (length (joined c.args.self.now.now)) c.find.ensures.fewer);
}
