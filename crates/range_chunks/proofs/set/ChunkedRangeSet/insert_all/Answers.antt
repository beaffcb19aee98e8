use Rattle.std.proofs.Common.{true}
use Rattle.std.proofs.lemmas.Result.{on_ok_weaker}
use Rattle.range_merge.specs.Connective.{union_table}
use Rattle.range_collections.specs.Splicing.{range_table}
use Rattle.range_collections.proofs.Insertion.{Means-alike, union-alike}
use Rattle.range_list.specs.Lists.{joined}
use Rattle.range_chunks.proofs.set.ChunkedRangeSet.insert_all.Goals as goal

pub returns-clause-means : goal.returns-clause-means
returns-clause-means g c =
    rw (← c.self.view_is, ← c.boundaries.ensures.same)
    (on_ok_weaker c.set_all.result (Means-alike (range_table true) union_table union-alike (joined c.set_all.new.list) (joined c.self.inside.list) _) c.set_all.ensures.means)

pub returns-clause-members : goal.returns-clause-members
returns-clause-members g c =
    rw (← c.self.view_is, ← c.boundaries.ensures.same)
    (on_ok_weaker c.set_all.result (λ it. (Means-alike (range_table true) union_table union-alike (joined c.set_all.new.list) (joined c.self.inside.list) _ it).members) c.set_all.ensures.means)
