use Rattle.std.proofs.Common.{◌∷◌, ◌++◌, [], option_copied, sym, ap, ap₂, ◌∙◌}
use Rattle.range_map.specs.Entries.{entries_of, range_until}
use Rattle.range_map.proofs.EndsTaken.{entries-last_none, entries-last_some}
use Rattle.range_map.proofs.iter.take_last_entry.Goals as goal

pub returns-in-Some-option : goal.returns-in-Some-option
returns-in-Some-option g c =
    let step = c.in-Some.step.now in
    let v = c.in-Some-option.value in
    c.loop-step.invariant
    ∙ entries-last_some c.loop-step.steps c.take_last.new.self step v (option_copied c.loop-step.end) c.in-Some.ensures c.in-Some-option.is
    ∙ ap₂ (λ end range. entries_of c.take_last.new.self end ++ (range, v) ∷ []) (sym (ap option_copied c.replace-above.ensures.after))
    (ap (range_until step.key) (sym (ap option_copied c.replace-above.ensures.value)) ∙ sym c.range_until.ensures)

pub loop-step-preserved : goal.loop-step-preserved
loop-step-preserved g c =
    c.loop-step.invariant
    ∙ entries-last_none c.loop-step.steps c.take_last.new.self c.in-Some.step.now (option_copied c.loop-step.end) c.in-Some.ensures c.in_default-option.is
    ∙ ap (entries_of c.take_last.new.self) (sym (ap option_copied c.replace-above.ensures.after))
