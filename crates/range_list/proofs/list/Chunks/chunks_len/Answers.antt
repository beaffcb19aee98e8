use Rattle.std.proofs.Common.{◌≡◌, length, arith, rules}
use Rattle.std.proofs.lemmas.List.{length-map}
use Rattle.range_list.specs.Chunks.{items_of}
use Rattle.range_list.proofs.list.Chunks.chunks_len.Goals as goal

pub returns : goal.returns
returns g c =
    let n : c.len.result ≡ length c.self.inside.chunks = search rules in
    rw (← c.self.view_is) (omega (arith, n, length-map c.self.inside.chunks items_of))
