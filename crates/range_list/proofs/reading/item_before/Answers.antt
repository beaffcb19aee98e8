use Rattle.std.proofs.Common.{◌≡◌, ◌<◌, ◌≤◌, ◌-◌, suc, length, ap, arith}
use Rattle.range_list.specs.Chunks.{items_of, start_of}
use Rattle.range_list.specs.Places.{place_in}
use Rattle.range_list.proofs.Flat.{start-next}
use Rattle.range_list.proofs.InOrder.{index-at}
use Rattle.range_list.proofs.Listed.{before-place, before-front}
use Rattle.range_list.proofs.reading.item_before.Goals as goal

pub returns-then-at-gt0 : goal.returns-then-at-gt0
returns-then-at-gt0 g c =
    let xs = c.args.chunks.now in
    let x = c.index.result.now in
    let read = rw c.chunks.view_is at c.index.ensures in
    let fits : c.args.at.index ≤ length (items_of x) = index-at xs c.args.at x c.requires.place read in
    before-place xs c.args.at.chunk (c.args.at.index - 1) (place_in xs c.args.at) x c.at.result.now c.requires.place.chunk read (omega (arith, fits, c.if-at-gt0.true))
    (omega (arith, c.if-at-gt0.true)) c.at.ensures

pub returns-then-at-eq0 : goal.returns-then-at-eq0
returns-then-at-eq0 g c = before-front c.args.chunks.now c.args.at c.if-at-eq0.true (omega (arith, c.if-at-gt0.false))

pub returns : goal.returns
returns g c =
    let xs = c.args.chunks.now in
    let x = c.index-2.result.now in
    let read = rw c.chunks.view_is at c.index-2.ensures in
    let i = c.args.at.chunk - 1 in
    let one : suc i ≡ c.args.at.chunk = omega (arith, c.if-at-eq0.false) in
    let within : i < length xs = omega (arith, one, c.requires.place.chunk) in
    before-place xs i (length x.rest.items) (place_in xs c.args.at) x c.last.result.now within read (omega arith)
    (omega (arith, c.if-at-gt0.false, start-next xs i x within read, ap (λ k. start_of xs k) one)) c.last.ensures
