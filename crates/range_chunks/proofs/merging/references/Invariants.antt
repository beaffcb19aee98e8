use Rattle.std.proofs.Common.{◌≡◌, ◌++◌, map, length}
use Rattle.range_chunks.proofs.merging.references.Given as goal

abbrev pub invariant-loop-boundary : goal.invariant-loop-boundary
invariant-loop-boundary g l = map (λ x. x.now) l.references.items ++ l.unread ≡ l.fn.items

abbrev pub decreases-loop-boundary : goal.decreases-loop-boundary
decreases-loop-boundary g l = length l.unread
