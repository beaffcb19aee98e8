use Rattle.range_merge.proofs.MergeLoop.{Progress-none}
use Rattle.range_merge.proofs.fast.short_runs.counted.CountingReaderShortRunsSliceMergeStateUsize.read.Goals as goal

pub returns-then-are_few-clause-goes_on : goal.returns-then-are_few-clause-goes_on
returns-then-are_few-clause-goes_on g c = record {
  progress = Progress-none;
  left_ascends = c.requires.begins.left_ascending;
  right_ascends = c.requires.begins.right_ascending;
  stands = c.requires.begins.stands;
}

pub returns-then-were_long-clause-goes_on : goal.returns-then-were_long-clause-goes_on
returns-then-were_long-clause-goes_on g c = record {
  progress = Progress-none;
  left_ascends = c.requires.begins.left_ascending;
  right_ascends = c.requires.begins.right_ascending;
  stands = c.requires.begins.stands;
}

pub returns-in_default-clause-goes_on : goal.returns-in_default-clause-goes_on
returns-in_default-clause-goes_on g c = record {
  progress = Progress-none;
  left_ascends = c.requires.begins.left_ascending;
  right_ascends = c.requires.begins.right_ascending;
  stands = c.requires.begins.stands;
}

pub returns-in_default-from_even-clause-goes_on : goal.returns-in_default-from_even-clause-goes_on
returns-in_default-from_even-clause-goes_on g c = record {
  progress = Progress-none;
  left_ascends = c.requires.begins.left_ascending;
  right_ascends = c.requires.begins.right_ascending;
  stands = c.requires.begins.stands;
}
