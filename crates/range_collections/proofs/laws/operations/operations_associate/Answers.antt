use Rattle.range_merge.specs.Connective.{union_table, intersection_table, symmetric_difference_table}
use Rattle.range_merge.proofs.Parity.{differ-assoc}
use Rattle.range_collections.proofs.Sets.{AreEqual-regrouped, or-assoc, and-assoc}
use Rattle.range_collections.proofs.laws.operations.operations_associate.Goals as goal

pub returns-clause-union : goal.returns-clause-union
returns-clause-union g c = AreEqual-regrouped g.met.T.Ord.total union_table or-assoc

pub returns-clause-intersection : goal.returns-clause-intersection
returns-clause-intersection g c = AreEqual-regrouped g.met.T.Ord.total intersection_table and-assoc

pub returns-clause-symmetric_difference : goal.returns-clause-symmetric_difference
returns-clause-symmetric_difference g c = AreEqual-regrouped g.met.T.Ord.total symmetric_difference_table differ-assoc
