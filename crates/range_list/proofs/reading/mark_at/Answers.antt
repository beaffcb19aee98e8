use Rattle.std.proofs.Common.{◌≡◌, ◌∙◌, ◌+◌, ap, arith}
use Rattle.range_list.specs.Chunks.{start_of}
use Rattle.range_list.proofs.Chunked.{mark-at}
use Rattle.range_list.proofs.reading.mark_at.Goals as goal

pub returns : goal.returns
returns g c =
    let xs = c.args.chunks.now in
    let none : 0 + start_of xs c.args.at.chunk + c.args.at.index ≡ start_of xs c.args.at.chunk + c.args.at.index = omega arith in
    let at = mark-at g.M.Mark.of g.M.Mark.moved g.met.M.Mark.adds 0 xs c.args.at.chunk c.index.result.now c.requires.place.chunk (rw c.chunks.view_is at c.index.ensures) (rw c.chunks.view_is at c.chunks.invariant).marks in
    c.behind.ensures ∙ ap (λ m. g.M.Mark.moved m c.args.at.index) at
    ∙ g.met.M.Mark.adds (0 + start_of xs c.args.at.chunk) c.args.at.index ∙ ap g.M.Mark.of none
