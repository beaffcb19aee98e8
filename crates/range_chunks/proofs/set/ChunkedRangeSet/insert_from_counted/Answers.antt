use Rattle.std.proofs.Common.{true}
use Rattle.std.proofs.lemmas.Result.{on_ok_weaker}
use Rattle.range_merge.specs.Connective.{union_table}
use Rattle.range_collections.specs.Splicing.{range_table}
use Rattle.range_collections.proofs.Changing.{changed-alike}
use Rattle.range_collections.proofs.Insertion.{union-alike}
use Rattle.range_list.specs.Lists.{joined}
use Rattle.range_chunks.proofs.ToTheEnd.{members-put_from}
use Rattle.range_chunks.proofs.set.ChunkedRangeSet.insert_from_counted.Goals as goal

pub returns-clause-changed : goal.returns-clause-changed
returns-clause-changed g c =
    rw (← c.self.view_is)
    (changed-alike g.T.Ord.cmp (range_table true) union_table union-alike 0 (joined c.self.inside.list) _ (joined c.set_from.new.list) c.set_from.result c.set_from.ensures.changed)

pub returns-clause-members : goal.returns-clause-members
returns-clause-members g c =
    rw (← c.self.view_is)
    (on_ok_weaker c.set_from.result (members-put_from g.met.T.Ord.total c.args.range.start (joined c.set_from.new.list) (joined c.self.inside.list)) c.set_from.ensures.changed.means)
