use Rattle.std.proofs.Common.{◌∷◌, option_copied, sym, ap, ◌∙◌}
use Rattle.range_map.specs.Entries.{entries_of, range_until}
use Rattle.range_map.proofs.EndsTaken.{entries-first_none, entries-first_some}
use Rattle.range_map.proofs.iter.take_first_entry.Goals as goal

pub returns-in-Some-option : goal.returns-in-Some-option
returns-in-Some-option g c =
    let step = c.in-Some.step.now in
    let v = c.in-Some-option.value in
    let end = option_copied c.args.end in
    c.loop-step.invariant
    ∙ entries-first_some c.loop-step.steps c.take_first.new.self step v end c.in-Some.ensures c.in-Some-option.is
    ∙ ap (λ range. (range, v) ∷ entries_of c.take_first.new.self end) (ap (range_until step.key) (sym c.first_key_or.ensures) ∙ sym c.range_until-range.ensures)

pub loop-step-preserved : goal.loop-step-preserved
loop-step-preserved g c =
    c.loop-step.invariant
    ∙ entries-first_none c.loop-step.steps c.take_first.new.self c.in-Some.step.now (option_copied c.args.end) c.in-Some.ensures c.in_default-option.is
