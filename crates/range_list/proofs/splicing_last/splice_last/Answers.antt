use Rattle.std.proofs.Common.{None, arith}
use Rattle.range_list.specs.Chunks.{flat}
use Rattle.range_list.specs.Places.{place_in}
use Rattle.range_list.proofs.InOrder.{place-within}
use Rattle.range_list.proofs.Twice.{at-last}
use Rattle.range_list.proofs.splicing_last.splice_last.Goals as goal

pub put_before-requires-clause-item : goal.put_before-requires-clause-item
put_before-requires-clause-item g c = omega (arith, c.requires.some, place-within c.args.chunks.now c.args.to c.requires.to)

pub returns-in-None-clause-items : goal.returns-in-None-clause-items
returns-in-None-clause-items g c =
    let xs = c.args.chunks.now in
    rw c.in-None.is
    (at-last (λ x. g.L.SetKey.with_key x c.args.key) (flat xs) (flat c.replace_and_key.new.chunks) (place_in xs c.args.from) (place_in xs c.place_before-last.result) (place_in xs c.args.to) None
    c.place_before-last.ensures.before c.replace_and_key.ensures)
