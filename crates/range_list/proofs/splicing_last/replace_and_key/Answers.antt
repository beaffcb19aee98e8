use Rattle.std.proofs.Common.{◌∙◌, ap₂, None, get_or, arith}
use Rattle.range_collections.specs.Splicing.{spliced}
use Rattle.range_list.specs.Chunks.{flat}
use Rattle.range_list.specs.Places.{place_in}
use Rattle.range_list.proofs.InOrder.{item-within}
use Rattle.range_list.proofs.Twice.{kept-replaced}
use Rattle.range_list.proofs.splicing_last.replace_and_key.Goals as goal

pub returns : goal.returns
returns g c = λ d.
    let xs = c.args.chunks.now in
    let ys = c.set_key.new.chunks in
    let m = place_in xs c.args.last in
    kept-replaced (flat xs) (flat ys) (flat c.replace.new.chunks) (place_in xs c.args.from) m c.args.start (g.L.SetKey.with_key (get_or (flat xs) m d) c.args.key)
    (omega (arith, c.requires.room)) (item-within xs c.args.last c.requires.last c.requires.item) (c.set_key.ensures.items d)
    (c.replace.ensures ∙ ap₂ (λ a b. spliced (flat ys) a b c.args.start None) (c.set_key.ensures.places c.args.from c.requires.from).1 (c.set_key.ensures.places c.args.last c.requires.last).1)
