use Rattle.std.proofs.Common.{refl, arith}
use Rattle.range_merge.proofs.Works.{IsReadInto-none}
use Rattle.range_merge.proofs.fast.short_runs.into_output.ReadingWork.undone.Goals as goal

pub returns : goal.returns
returns g c =
    let it = c.args.self.now in (
      refl,
      IsReadInto-none g.C.Compare.order it.a.now it.b.now it.from.i it.from.j (g.O.MergeOperation.connective it.op.now) it.from.next
          g.L.Output.can_stop g.L.Output.may_be g.L.Output.fixed g.L.Output.fits g.L.Output.has_room it.output.now c.requires.ready.0.stands c.requires.ready.1,
      omega arith,
    )
