use Rattle.std.proofs.Common.{sym, ◌∙◌}
use Rattle.std.proofs.lemmas.Bool.{false≢true}
use Rattle.range_merge.proofs.CountSteps.{Counts-looked, Counts-long}
use Rattle.range_merge.proofs.fast.short_runs.counted.four_more.Goals as goal

pub returns-then-from-clause-looked : goal.returns-then-from-clause-looked
returns-then-from-clause-looked g c = Counts-long g.C.Compare.order (g.O.MergeOperation.connective c.args.op.now) c.args.a.now c.args.b.now c.if-from.true

pub returns-then-is_long-clause-looked : goal.returns-then-is_long-clause-looked
returns-then-is_long-clause-looked g c =
    Counts-looked g.C.Compare.order (g.O.MergeOperation.connective c.args.op.now) c.args.a.now c.args.b.now c.if-from.false (λ e. absurd (false≢true (sym e))) c.four_steps-at.ensures.steps

pub returns-clause-looked : goal.returns-clause-looked
returns-clause-looked g c =
    Counts-looked g.C.Compare.order (g.O.MergeOperation.connective c.args.op.now) c.args.a.now c.args.b.now c.if-from.false
    (λ _ long. false≢true (sym c.if-is_long.false ∙ c.is_long.ensures.1 long)) c.four_steps-at.ensures.steps
