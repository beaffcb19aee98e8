use Rattle.std.proofs.Common.{◌+◌, ◌-◌, length, drop, refl}
use Rattle.range_merge.specs.Runs.{weight}
use Rattle.range_merge.proofs.Digits.{weight-le}
use Rattle.range_merge.proofs.Works.{made-more, made-few, made-costs}
use Rattle.range_merge.proofs.fast.short_runs.into_output.ReadingWork.run.Goals as goal

pub returns : goal.returns
returns g c =
    let a = c.args.self.now.a.now in
    let b = c.args.self.now.b.now in
    let at = c.read.result.answer in
    let m = g.C.Compare.count c.args.cmp in
    let n = g.C.Compare.count c.read.result.cmp in
    let from = c.args.self.now.from in
    let all = weight g.C.Compare.order (drop from.i a) (drop from.j b) in
    let rest = weight g.C.Compare.order (drop at.i a) (drop at.j b) in (
      n - m,
      made-more m n c.read.ensures.made,
      made-few m n all rest (length (drop from.i a) + length (drop from.j b)) c.read.ensures.comparisons (weight-le g.C.Compare.order (drop from.i a) (drop from.j b)) c.requires.ready.0.short,
      (refl, c.read.ensures.read, made-costs m n all rest c.read.ensures.made c.read.ensures.comparisons),
    )
