use Rattle.std.proofs.Common.{◌≡◌, ℕ, List, ◌++◌, [], ◌∷◌, sym, ap, refl, ◌∙◌, append_assoc, codes}
use Rattle.std.specs.Prelude.{decimal}
use Rattle.std.proofs.lemmas.List.{append-nil}
use Rattle.range_collections.specs.Ranges.{ranges_of, range_now}
use Rattle.range_collections.specs.Text.{others_text, range_text, ranges_text}
use Rattle.range_collections.specs.declared.range_set_range.RangeSetRange.{RangeSetRange}
use Rattle.range_track_answers.specs.Answers.{ranges_line}
use Rattle.range_track_answers.proofs.Written.{Appends-nothing, Appends-then, OnOk-then}
use Rattle.range_track_answers.proofs.writing.write_ranges.Goals as goal

line-none : (items : List ℕ) → ranges_of items ≡ [] → ranges_line items ≡ codes "-"
unfolding ranges_line
line-none [] e = refl
line-none (x ∷ []) e = cc
line-none (x ∷ y ∷ rest) e = cc

line-some : (items : List ℕ) (r : RangeSetRange ℕ) (rs : List (RangeSetRange ℕ)) → ranges_of items ≡ r ∷ rs →
    ranges_line items ≡ range_text decimal r ++ others_text decimal rs
unfolding ranges_line
line-some [] r rs e = cc
line-some (x ∷ []) r rs e = ap (λ ranges. ranges_text decimal ranges) e
line-some (x ∷ y ∷ rest) r rs e = ap (λ ranges. ranges_text decimal ranges) e

pub returns-in_default : goal.returns-in_default
returns-in_default g c = rw (line-none c.args.ranges c.in_default.ensures.steps.0) c.write_all.ensures.bytes

pub loop-range-init : goal.loop-range-init
loop-range-init g c = ([], Appends-nothing (g.W.Write.contents c.write_range.new.out), refl)

pub loop-range-preserved : goal.loop-range-preserved
loop-range-preserved g c =
    let before = c.loop-range.invariant in
    let text : List ℕ = range_text decimal (range_now c.in-Some-range.range) in
    let next : ranges_of c.loop-range.range-iterator ≡ range_now c.in-Some-range.range ∷ ranges_of c.next-in-loop-range.new.self = c.in-Some-range.ensures.steps in
    let more = Appends-then _ _ _ (codes ", ") text (codes ", " ++ text) c.in_ok-write_all.ensures.bytes c.in_ok-write_range-2.ensures refl in (
      before.0 ++ (codes ", " ++ text),
      Appends-then _ _ _ before.0 (codes ", " ++ text) (before.0 ++ (codes ", " ++ text)) before.1 more refl,
      append_assoc before.0 (codes ", " ++ text) (others_text decimal (ranges_of c.next-in-loop-range.new.self))
          ∙ ap (λ ys. before.0 ++ ys) (sym (ap (λ ranges. others_text decimal ranges) next)) ∙ before.2,
    )

pub returns : goal.returns
returns g c =
    let held = c.loop-range.invariant in
    let whole = rw (c.in-None.ensures.steps.0, append-nil held.0, c.into_iter-range-iterator.ensures.into_iter_gives) at held.2 in
    let first : List ℕ = range_text decimal (range_now c.in-Some.first) in
    let written = Appends-then _ _ _ first held.0 (first ++ held.0) c.in_ok-write_range.ensures held.1 refl in
    rw (line-some c.args.ranges (range_now c.in-Some.first) (ranges_of c.next.new.self) c.in-Some.ensures.steps)
    (OnOk-then c.write_all-2.result _ _ _ (first ++ held.0) (10 ∷ []) _ written c.write_all-2.ensures.bytes
    (ap (λ ys. (first ++ ys) ++ 10 ∷ []) whole))
