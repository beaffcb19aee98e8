use Rattle.std.proofs.Common.{◌≡◌, ◌+◌, ◌-◌, ◌%◌, length, take, drop}
use Rattle.range_collections.specs.Covered.{members_below}
use Rattle.range_collections.proofs.questions.counting.select.Given as goal

abbrev pub invariant-loop-start : goal.invariant-loop-start
invariant-loop-start g l =
    let i = length (g.U.Unread.unread l.fn.boundaries) - length (g.U.Unread.unread l.unread) in
    ((g.U.Unread.unread l.unread) ≡ drop i (g.U.Unread.unread l.fn.boundaries)) × (i % 2 ≡ 0) × (l.remaining + members_below g.T.Ord.cmp g.T.Countable.value (take i (g.U.Unread.unread l.fn.boundaries)) g.T.Countable.count ≡ l.fn.k)

abbrev pub decreases-loop-start : goal.decreases-loop-start
decreases-loop-start g l = length (g.U.Unread.unread l.unread)
