use Rattle.std.proofs.Common.{◌≡◌, false, length}
use Rattle.range_merge.specs.Boundaries.{is_odd}
use Rattle.range_collections.specs.Within.{borrowed_items}
use Rattle.range_collections.proofs.FitSearches.{IsWalked}
use Rattle.range_collections.proofs.questions.first_fit.search_fit.Given as goal

abbrev pub invariant-loop-part : goal.invariant-loop-part
invariant-loop-part g l = record {
  walked :
      IsWalked g.T.Ord.cmp g.T.Countable.value g.T.Countable.place g.T.Countable.count l.count l.multiples l.most
      (borrowed_items l.fn.parts.first (g.U.Unread.unread l.fn.parts.between) l.fn.parts.last) (borrowed_items l.unread.first (g.U.Unread.unread l.unread.between) l.unread.last);
  even : is_odd (length (borrowed_items l.unread.first (g.U.Unread.unread l.unread.between) l.unread.last)) ≡ false;
}

abbrev pub decreases-loop-part : goal.decreases-loop-part
decreases-loop-part g l = length (borrowed_items l.unread.first (g.U.Unread.unread l.unread.between) l.unread.last)
