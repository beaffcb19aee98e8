use Rattle.std.proofs.Common.{◌≡◌, ◌+◌, ◌≤◌, Bool, true, false, length}
use Rattle.range_merge.specs.Runs.{digits}
use Rattle.range_merge.specs.Searching.{IsNarrowed}
use Rattle.range_merge.proofs.fast.branchless.search_selecting.Given as goal

-- if it finds, no item that was compared equals the key
abbrev pub invariant-loop-remaining : goal.invariant-loop-remaining
invariant-loop-remaining g l =
    let count = g.C.Compare.count in
    record {
      narrowed : (has_equal : Bool) × IsNarrowed g.C.Compare.order l.items l.key l.front l.remaining has_equal × (l.finds ≡ true → has_equal ≡ false);
      at_least : count l.fn.cmp ≤ count l.cmp;
      at_most : count l.cmp + digits l.remaining ≤ count l.fn.cmp + digits (length l.items);
    }

abbrev pub decreases-loop-remaining : goal.decreases-loop-remaining
decreases-loop-remaining g l = l.remaining
