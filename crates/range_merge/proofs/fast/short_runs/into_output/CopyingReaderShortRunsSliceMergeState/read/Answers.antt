use Rattle.std.proofs.Common.{◌≡◌}
use Rattle.std.specs.declared.cmp.Ordering.TheVariants.{Less}
use Rattle.range_merge.proofs.MergeLoop.{Progress-none}
use Rattle.range_merge.proofs.Outputs.{All-rest}
use Rattle.range_merge.proofs.Pairs.{AllPairs-drop}
use Rattle.range_merge.proofs.fast.short_runs.into_output.CopyingReaderShortRunsSliceMergeState.read.Goals as goal

pub returns-then-are_few-clause-goes_on : goal.returns-then-are_few-clause-goes_on
returns-then-are_few-clause-goes_on g c = record {
  progress = Progress-none;
  left_ascends = c.requires.begins.left_ascending;
  right_ascends = c.requires.begins.right_ascending;
  stands = c.requires.begins.stands;
}

pub returns-then-were_long-clause-goes_on : goal.returns-then-were_long-clause-goes_on
returns-then-were_long-clause-goes_on g c = record {
  progress = Progress-none;
  left_ascends = c.requires.begins.left_ascending;
  right_ascends = c.requires.begins.right_ascending;
  stands = c.requires.begins.stands;
}

pub returns-clause-goes_on : goal.returns-clause-goes_on
returns-clause-goes_on g c =
    let read = c.read_short_runs-read.ensures in
    record {
      progress = rw read.fixed (read.progress c.args.state.now.fixed);
      left_ascends = rw read.left (AllPairs-drop (λ x y. g.C.Compare.order x y ≡ Less) c.read_short_runs-read.result.i c.args.state.now.left c.requires.begins.left_ascending);
      right_ascends = rw read.right (AllPairs-drop (λ x y. g.C.Compare.order x y ≡ Less) c.read_short_runs-read.result.j c.args.state.now.right c.requires.begins.right_ascending);
      stands = read.stands;
    }

pub returns-clause-still_infallible : goal.returns-clause-still_infallible
returns-clause-still_infallible g c = λ infallible.
    let read = c.read_short_runs-read.ensures in (
      read.has_room infallible.0,
      All-rest g.L.Output.is_infallible c.read_short_runs-read.result.i c.args.state.now.left _ read.left infallible.1,
      All-rest g.L.Output.is_infallible c.read_short_runs-read.result.j c.args.state.now.right _ read.right infallible.2,
    )

pub returns-in_default-clause-goes_on : goal.returns-in_default-clause-goes_on
returns-in_default-clause-goes_on g c = record {
  progress = Progress-none;
  left_ascends = c.requires.begins.left_ascending;
  right_ascends = c.requires.begins.right_ascending;
  stands = c.requires.begins.stands;
}

pub returns-in_default-from_even-clause-goes_on : goal.returns-in_default-from_even-clause-goes_on
returns-in_default-from_even-clause-goes_on g c = record {
  progress = Progress-none;
  left_ascends = c.requires.begins.left_ascending;
  right_ascends = c.requires.begins.right_ascending;
  stands = c.requires.begins.stands;
}
