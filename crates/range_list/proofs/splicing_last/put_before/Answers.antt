use Rattle.std.proofs.Common.{arith}
use Rattle.range_list.specs.Chunks.{flat}
use Rattle.range_list.specs.Places.{place_in}
use Rattle.range_list.proofs.Twice.{kept-inserted}
use Rattle.range_list.proofs.splicing_last.put_before.Goals as goal

pub returns-in-Ok-clause-items : goal.returns-in-Ok-clause-items
returns-in-Ok-clause-items g c = λ d.
    let xs = c.args.chunks.now in
    let ys = c.insert_at.new.chunks in
    kept-inserted (λ x. g.L.SetKey.with_key x c.args.key) (flat xs) (flat ys) (flat c.set_key.new.chunks) (place_in xs c.args.at) (place_in ys c.item_place-next.result) c.args.start d c.requires.item
    (omega (arith, c.in-Ok.ensures.same, c.item_place-next.ensures.same, c.place_after.ensures.after))
    c.in-Ok.ensures.items (c.set_key.ensures.items d)
