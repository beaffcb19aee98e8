use Rattle.std.proofs.Common.{◌≡◌, ℕ, take}
use Rattle.range_tracker.specs.Commands.{AreReplies, after_replies}
use Rattle.range_merge.specs.Boundaries.{member}
use Rattle.std.specs.Ordering.{nat_cmp}
use Rattle.range_chunked_tracker.proofs.tracker.ChunkedTracker.run.Given as goal

abbrev pub invariant-loop-i : goal.invariant-loop-i
invariant-loop-i l = record {
  replies : AreReplies l.initial.self.limit (member nat_cmp l.initial.self.boundaries) (take l.i l.commands) (take l.i l.replies);
  offsets : (n : ℕ) → member nat_cmp l.self.boundaries n ≡ after_replies (take l.i l.commands) (take l.i l.replies) (member nat_cmp l.initial.self.boundaries) n;
  limit : l.self.limit ≡ l.initial.self.limit;
}
