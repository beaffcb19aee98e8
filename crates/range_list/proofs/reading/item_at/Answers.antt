use Rattle.range_list.proofs.InOrder.{item-here, item-read}
use Rattle.range_list.proofs.reading.item_at.Goals as goal

pub at-requires : goal.at-requires
at-requires g c = item-read c.args.chunks.now c.in_ok-at.at c.index.result.now c.in_ok-at.ensures.item (rw c.chunks.view_is at c.index.ensures)

pub returns : goal.returns
returns g c =
    let read = rw c.chunks.view_is at c.index.ensures in
    let fits = item-read c.args.chunks.now c.in_ok-at.at c.index.result.now c.in_ok-at.ensures.item read in
    let here = item-here c.args.chunks.now c.in_ok-at.at c.index.result.now c.at.result.now c.in_ok-at.ensures.place read fits c.at.ensures in
    rw c.in_ok-at.ensures.same at here
