use Rattle.std.proofs.Common.{◌∷◌, ◌++◌, [], Some, not, option_copied, sym, ap, ap₂, ◌∙◌}
use Rattle.std.specs.Borrow.{Bor}
use Rattle.range_map.specs.Entries.{range_until}
use Rattle.range_map.specs.Gaps.{gaps_of}
use Rattle.range_map.proofs.EndsTaken.{gaps-last_none, gaps-last_some}
use Rattle.range_map.proofs.gaps.take_last_gap.Goals as goal

pub returns-then-is_none : goal.returns-then-is_none
returns-then-is_none g c =
    let step = c.in-Some.step.now in
    let first = option_copied c.args.first.now in
    c.loop-step.invariant
    ∙ gaps-last_none first c.loop-step.steps c.take_last.new.self step c.loop-step.end.now c.in-Some.ensures (c.is_none.ensures ∙ ap not c.if-is_none.true)
    ∙ ap₂ (λ low high. gaps_of first c.take_last.new.self low ++ range_until step.key (Some high) ∷ [])
    (sym (ap (λ (b : Bor g.row.K.Denot). b.now) c.replace-above.ensures.after)) (sym (ap (λ (b : Bor g.row.K.Denot). b.now) c.replace-above.ensures.value))

pub loop-step-preserved : goal.loop-step-preserved
loop-step-preserved g c =
    let first = option_copied c.args.first.now in
    c.loop-step.invariant
    ∙ gaps-last_some first c.loop-step.steps c.take_last.new.self c.in-Some.step.now c.loop-step.end.now c.in-Some.ensures (c.is_none.ensures ∙ ap not c.if-is_none.false)
    ∙ ap (gaps_of first c.take_last.new.self) (sym (ap (λ (b : Bor g.row.K.Denot). b.now) c.replace-above.ensures.after))
