use Rattle.std.proofs.Common.{◌+◌, ◌-◌, ◌^◌, ◌<◌, length, drop, arith}
use Rattle.range_merge.specs.Runs.{weight}
use Rattle.range_merge.proofs.Digits.{weight-le}
use Rattle.range_merge.proofs.Works.{made-more, made-few, made-costs}
use Rattle.range_merge.proofs.fast.short_runs.counted.CountingWork.run.Goals as goal

pub returns : goal.returns
returns g c =
    let it = c.args.self.now in
    let a = drop it.from.i it.a.now in
    let b = drop it.from.j it.b.now in
    let at = c.read_apart.result.answer in
    let m = g.C.Compare.count c.args.cmp in
    let n = g.C.Compare.count c.read_apart.result.cmp in
    let all = weight g.C.Compare.order a b in
    let rest = weight g.C.Compare.order (drop at.i it.a.now) (drop at.j it.b.now) in
    let short : length a + length b < 2 ^ 65 = omega (arith, c.requires.ready.3) in (
      n - m,
      made-more m n c.read_apart.ensures.made,
      made-few m n all rest (length a + length b) c.read_apart.ensures.comparisons (weight-le g.C.Compare.order a b) short,
      (c.read_apart.ensures.read, c.read_apart.ensures.at_most, made-costs m n all rest c.read_apart.ensures.made c.read_apart.ensures.comparisons),
    )
