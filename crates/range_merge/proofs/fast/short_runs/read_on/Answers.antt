use Rattle.range_merge.proofs.MergeLoop.{Progress-none}
use Rattle.range_merge.proofs.fast.short_runs.read_on.Goals as goal

pub returns-in-None-clause-goes_on : goal.returns-in-None-clause-goes_on
returns-in-None-clause-goes_on g c = record {
  progress = Progress-none;
  left_ascends = c.requires.begins.left_ascending;
  right_ascends = c.requires.begins.right_ascending;
  stands = rw c.in-None.is at c.requires.begins.stands;
}
