use Rattle.std.proofs.Common.{arith}
use Rattle.range_merge.proofs.CountSteps.{IsCounted-none}
use Rattle.range_merge.proofs.fast.short_runs.counted.CountingWork.undone.Goals as goal

pub returns : goal.returns
returns g c =
    let it = c.args.self.now in (
      IsCounted-none g.C.Compare.order (g.O.MergeOperation.connective it.op.now) it.a.now it.b.now it.from.i it.from.j it.from.k it.from.next c.requires.ready.2 c.requires.ready.4,
      omega (arith, c.requires.ready.4),
      omega arith,
    )
