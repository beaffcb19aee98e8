use Rattle.std.proofs.Common.{◌≡◌, sym, ◌∙◌, ap, ◌∷◌, ◌++◌, [], append_assoc, refl, true, subst}
use Rattle.std.specs.Prelude.{codes}
use Rattle.std.proofs.Output.{has_written_append}
use Rattle.std.proofs.lemmas.List.{append-nil}
use Rattle.std.proofs.lemmas.List.Elements.{All-head, All-tail}
use Rattle.range_collections.specs.Ranges.{ranges_of, range_now, AllEnds}
use Rattle.range_collections.specs.Text.{IsText, AreTexts, others_text, range_text}
use Rattle.range_collections.proofs.text.write_others.Goals as goal

pub loop-range-init : goal.loop-range-init
loop-range-init g c = λ text known plain. (known, ([], record { wrote = record { parts = []; calls = refl; whole = refl }; plain = plain }, refl))

pub returns : goal.returns
returns g c =
    λ text known plain ok.
    let before = (c.loop-range.invariant text known plain).1 in
    let whole = rw (c.in_default.ensures.0, append-nil before.0) at before.2 in
    rw (← whole) before.1

pub loop-range-preserved : goal.loop-range-preserved
loop-range-preserved g c =
    λ text known plain.
    let P = AllEnds (IsText g.T.Debug.debug_output text) in
    let next : ranges_of (g.U.Unread.unread c.loop-range.unread) ≡ range_now c.in-Some.range ∷ ranges_of (g.U.Unread.unread c.next_range.new.unread) = c.in-Some.ensures in
    let (left, before) = c.loop-range.invariant text known plain in
    let texts : AreTexts g.T.Debug.debug_output text (range_now c.in-Some.range ∷ ranges_of (g.U.Unread.unread c.next_range.new.unread)) = subst (AreTexts g.T.Debug.debug_output text) next left in
    let comma = c.in_ok-write_str.ensures.writes before.1.plain (refl {a = true}) in
    let written = c.in_ok-write_range.ensures text (All-head P (range_now c.in-Some.range) (ranges_of (g.U.Unread.unread c.next_range.new.unread)) texts) comma.plain (refl {a = true}) in (
      All-tail P (range_now c.in-Some.range) (ranges_of (g.U.Unread.unread c.next_range.new.unread)) texts,
      (
        before.0 ++ (codes ", " ++ range_text text (range_now c.in-Some.range)),
        has_written_append _ _ _ _ _ _ before.1 (has_written_append _ _ _ _ _ _ comma written),
        append_assoc before.0 (codes ", " ++ range_text text (range_now c.in-Some.range)) (others_text text (ranges_of (g.U.Unread.unread c.next_range.new.unread)))
            ∙ ap (λ ys. before.0 ++ ys) (sym (ap (others_text text) next)) ∙ before.2,
      ),
    )
