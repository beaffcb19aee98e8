use Rattle.std.proofs.Common.{arith, length}
use Rattle.std.proofs.lemmas.List.{map-id}
use Rattle.range_merge.proofs.Digits.{digits-mono}
use Rattle.range_list.specs.Lists.{joined, place_at}
use Rattle.range_collections.proofs.Changing.{finds}
use Rattle.range_collections.proofs.Searched.{digits-rest}
use Rattle.range_list.proofs.boundaries.RefChunksBoolBoundaries.find_from.Goals as goal

pub find_from-requires-clause-ascending : goal.find_from-requires-clause-ascending
find_from-requires-clause-ascending g c = rw (map-id (joined c.args.self.now.now)) c.requires.sorted

pub find_from-requires-clause-before : goal.find_from-requires-clause-before
find_from-requires-clause-before g c = rw (map-id (joined c.args.self.now.now)) c.requires.before

pub returns-clause-found : goal.returns-clause-found
returns-clause-found g c =
    finds g.T.Ord.cmp (joined c.args.self.now.now) c.args.value.now (place_at c.args.self.now.now) c.find_from.result c.find_from.ensures.found_within
    (rw (map-id (joined c.args.self.now.now)) at c.find_from.ensures.found) c.find_from.ensures.missing_within
    (rw (map-id (joined c.args.self.now.now)) at c.find_from.ensures.missing_before) (rw (map-id (joined c.args.self.now.now)) at c.find_from.ensures.missing_from)

pub returns-clause-comparisons : goal.returns-clause-comparisons
returns-clause-comparisons g c = record {
  at_least = c.find_from.ensures.comparisons.at_least;
  at_most = omega (arith, c.find_from.ensures.comparisons.at_most, digits-rest, digits-mono (length c.args.self.now.now) (length (joined c.args.self.now.now)) c.find_from.ensures.fewer);
}
