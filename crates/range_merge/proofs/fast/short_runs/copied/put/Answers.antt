use Rattle.std.proofs.Common.{◌+◌, refl, arith}
use Rattle.std.proofs.Math.ListN.{set}
use Rattle.std.proofs.lemmas.List.{take-set}
use mir.Val.{bool_byte}
use Rattle.range_merge.proofs.CopySteps.{IsAppended-if, IsAppended-set, behind-set, byte-few}
use Rattle.range_merge.proofs.fast.short_runs.copied.put.Goals as goal

pub returns-then-not-keeps-clause-put : goal.returns-then-not-keeps-clause-put
returns-then-not-keeps-clause-put g c =
    IsAppended-if g.P.Copier.alike c.args.takes c.args.k _ c.args.out.now _ (take-set c.args.out.now c.args.k c.copied.result)
    (λ _. IsAppended-set g.P.Copier.alike c.args.k c.args.item.now c.copied.result c.args.out.now (omega (arith, c.requires.room)) c.copied.ensures.alike) _ refl

pub returns-clause-put : goal.returns-clause-put
returns-clause-put g c =
    rw (take-set (set c.args.out.now c.args.k c.copied-2.result) (c.args.k + bool_byte c.args.takes) c.copied-behind.result)
    (IsAppended-if g.P.Copier.alike c.args.takes c.args.k _ c.args.out.now _ (take-set c.args.out.now c.args.k c.copied-2.result)
    (λ _. IsAppended-set g.P.Copier.alike c.args.k c.args.item.now c.copied-2.result c.args.out.now (omega (arith, c.requires.room)) c.copied-2.ensures.alike) _ refl)

pub returns-clause-behind : goal.returns-clause-behind
returns-clause-behind g c = λ _.
    behind-set c.args.k (c.args.k + bool_byte c.args.takes) c.args.out.now c.copied-2.result c.index-out-len.result c.copied-behind.result (omega arith)
    (omega (arith, byte-few c.args.takes, c.requires.room)) c.copied-behind.ensures.same
