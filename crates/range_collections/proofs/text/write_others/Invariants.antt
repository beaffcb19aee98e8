use Rattle.std.proofs.Common.{◌≡◌, List, ◌++◌, ℕ, length}
use Rattle.std.specs.Fmt.{HasWritten, IsPlainFormatter}
use Rattle.range_collections.specs.Ranges.{ranges_of}
use Rattle.range_collections.specs.Text.{AreTexts, others_text}
use Rattle.range_collections.proofs.text.write_others.Given as goal

abbrev pub invariant-loop-range : goal.invariant-loop-range
invariant-loop-range g l =
    (text : g.row.T.Denot → List ℕ) → AreTexts g.T.Debug.debug_output text (ranges_of (g.U.Unread.unread l.initial.unread)) → IsPlainFormatter l.initial.f →
    AreTexts g.T.Debug.debug_output text (ranges_of (g.U.Unread.unread l.unread))
    × ((done : List ℕ) × HasWritten g.W.Write.write_str_gives l.initial.f done l.f
    × (done ++ others_text text (ranges_of (g.U.Unread.unread l.unread)) ≡ others_text text (ranges_of (g.U.Unread.unread l.initial.unread))))

abbrev pub decreases-loop-range : goal.decreases-loop-range
decreases-loop-range g l = length (ranges_of (g.U.Unread.unread l.unread))
