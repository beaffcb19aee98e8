use Rattle.std.proofs.Common.{[], refl, true}
use Rattle.std.proofs.lemmas.Grind.{put_two}
use Rattle.std.proofs.lemmas.List.Elements.{All-head, All-tail}
use Rattle.range_collections.specs.Ranges.{ranges_of, range_now, AllEnds}
use Rattle.range_collections.specs.Text.{IsText}
use Rattle.range_collections.proofs.text.write_ranges.Goals as goal

pub returns-in_ok-write_range-in-Some : goal.returns-in_ok-write_range-in-Some
returns-in_ok-write_range-in-Some g c =
    rw c.in-Some.ensures (λ text known plain ok.
    let P = AllEnds (IsText g.T.Debug.debug_output text) in
    let first = c.in_ok-write_range-in-Some.ensures text (All-head P (range_now c.in-Some.first) (ranges_of (g.U.Unread.unread c.next_range.new.unread)) known) plain (refl {a = true}) in
    put_two _ _ _ _ _ _ _ first (c.write_others.ensures text (All-tail P (range_now c.in-Some.first) (ranges_of (g.U.Unread.unread c.next_range.new.unread)) known) first.plain ok) refl)

pub returns-in-None : goal.returns-in-None
returns-in-None g c = rw c.in-None.ensures.0 (λ text known plain ok. record { wrote = record { parts = []; calls = refl; whole = refl }; plain = plain })
