use Rattle.std.proofs.Common.{◌≡◌, ℕ, List, ◌++◌, [], ◌∷◌, sym, ap, refl, ◌∙◌, append_assoc}
use Rattle.std.specs.Prelude.{decimal}
use Rattle.std.proofs.lemmas.List.{append-nil}
use Rattle.range_collections.specs.Ranges.{ranges_of}
use Rattle.range_collections.specs.Within.{with_end}
use Rattle.range_track_answers.proofs.Ends.{number, ends_text, list-none, list-some}
use Rattle.range_track_answers.proofs.Written.{Appends-nothing, Appends-then, OnOk-then}
use Rattle.range_track_answers.proofs.writing.write_gaps.Goals as goal

pub returns-in_default : goal.returns-in_default
returns-in_default g c = rw (list-none c.args.gaps c.in_default.ensures.steps.0) c.write_all.ensures.bytes

pub loop-gap-init : goal.loop-gap-init
loop-gap-init g c = ([], Appends-nothing (g.W.Write.contents c.write.new.self), refl)

pub loop-gap-preserved : goal.loop-gap-preserved
loop-gap-preserved g c =
    let before = c.loop-gap.invariant in
    let gap = c.in-Some-gap.gap in
    let text : List ℕ = number gap.start.now ++ number gap.end.now in
    let next : ranges_of c.loop-gap.gap-iterator ≡ with_end gap ∷ ranges_of c.next-in-loop-gap.new.self = c.in-Some-gap.ensures.steps in (
      before.0 ++ text,
      Appends-then _ _ _ before.0 text (before.0 ++ text) before.1 c.in_ok-write-2.ensures.bytes refl,
      append_assoc before.0 text (ends_text (ranges_of c.next-in-loop-gap.new.self))
          ∙ ap (λ ys. before.0 ++ ys) (sym (ap (λ ranges. ends_text ranges) next)) ∙ before.2,
    )

pub returns : goal.returns
returns g c =
    let held = c.loop-gap.invariant in
    let whole = rw (c.in-None.ensures.steps.0, append-nil held.0, c.into_iter-gap-iterator.ensures.into_iter_gives) at held.2 in
    let ends = c.in-Some.first in
    let first : List ℕ = decimal ends.start.now ++ number ends.end.now in
    let written = Appends-then _ _ _ first held.0 (first ++ held.0) c.in_ok-write.ensures.bytes held.1 refl in
    rw (list-some c.args.gaps (record { start = ends.start.now; end = ends.end.now }) (ranges_of c.next.new.self) c.in-Some.ensures.steps)
    (OnOk-then c.write_all-2.result _ _ _ (first ++ held.0) (10 ∷ []) _ written c.write_all-2.ensures.bytes
    (ap (λ ys. (first ++ ys) ++ 10 ∷ []) whole))
