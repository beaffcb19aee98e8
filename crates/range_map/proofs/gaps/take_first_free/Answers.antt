use Rattle.std.proofs.Common.{◌∷◌, not, sym, ap, ◌∙◌}
use Rattle.range_map.specs.Entries.{range_until}
use Rattle.range_map.specs.Gaps.{free_of}
use Rattle.range_map.proofs.EndsTaken.{free-first_none, free-first_some}
use Rattle.range_map.proofs.gaps.take_first_free.Goals as goal

pub returns-then-is_none : goal.returns-then-is_none
returns-then-is_none g c =
    let step = c.in-Some.step.now in
    c.loop-step.invariant
    ∙ free-first_none c.loop-step.steps c.take_first.new.self step c.args.end.now c.in-Some.ensures (c.is_none.ensures ∙ ap not c.if-is_none.true)
    ∙ ap (λ e. range_until step.key e ∷ free_of c.take_first.new.self c.args.end.now) (sym c.next_key.ensures)

pub loop-step-preserved : goal.loop-step-preserved
loop-step-preserved g c =
    c.loop-step.invariant
    ∙ free-first_some c.loop-step.steps c.take_first.new.self c.in-Some.step.now c.args.end.now c.in-Some.ensures (c.is_none.ensures ∙ ap not c.if-is_none.false)
