use Rattle.std.proofs.Common.{false}
use Rattle.std.proofs.lemmas.Result.{on_ok_weaker}
use Rattle.range_merge.specs.Connective.{difference_table}
use Rattle.range_collections.specs.Splicing.{range_table}
use Rattle.range_collections.proofs.Changing.{changed-alike}
use Rattle.range_collections.proofs.Insertion.{difference-alike}
use Rattle.range_collections.proofs.RangeMembers.{members-taken}
use Rattle.range_list.specs.Lists.{joined}
use Rattle.range_chunks.proofs.set.ChunkedRangeSet.remove_counted.Goals as goal

pub returns-clause-changed : goal.returns-clause-changed
returns-clause-changed g c =
    rw (← c.self.view_is)
    (changed-alike g.T.Ord.cmp (range_table false) difference_table difference-alike 0 (joined c.self.inside.list) _ (joined c.set_range.new.list) c.set_range.result c.set_range.ensures.changed)

pub returns-clause-members : goal.returns-clause-members
returns-clause-members g c =
    rw (← c.self.view_is)
    (on_ok_weaker c.set_range.result (members-taken g.met.T.Ord.total c.args.range.start c.args.range.end (joined c.set_range.new.list) (joined c.self.inside.list)) c.set_range.ensures.changed.means)
