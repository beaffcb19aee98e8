use Rattle.std.proofs.Common.{drop, sym, ap, ◌∙◌}
use Rattle.std.specs.Borrow.{Bor}
use Rattle.std.specs.List.{drop-map}
use Rattle.range_map.specs.Steps.{Steps}
use Rattle.range_map.specs.declared.step.Step.{Step}
use Rattle.range_map.proofs.EntriesLemmas.{back_of}
use Rattle.range_map.proofs.borrowed_steps.BorrowedSteps.behind.Goals as goal

pub returns : goal.returns
returns g c =
    rw (back_of c.self.inside.steps.now c.args.place)
    (sym (drop-map (λ (s : Step (Bor g.row.K.Denot) (Bor g.row.V.Denot)). s.key.now) c.args.place c.self.inside.steps.now)
    ∙ ap (λ (m : Steps g.row.K.Denot g.row.V.Denot). drop c.args.place m.keys) c.self.view_is)
