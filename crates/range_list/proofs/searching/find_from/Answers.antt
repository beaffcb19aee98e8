use Rattle.std.proofs.Common.{◌≡◌, sym, ap, ◌∙◌, arith}
use Rattle.std.specs.declared.cmp.Ordering.TheVariants.{Greater}
use Rattle.range_merge.proofs.Fronts.{above_from}
use Rattle.range_list.specs.Chunks.{flat}
use Rattle.range_list.specs.Places.{place_in, keys_of}
use Rattle.range_list.proofs.Found.{key-read, length-keys}
use Rattle.range_list.proofs.InOrder.{item-here, item-read}
use Rattle.range_list.proofs.searching.find_from.Goals as goal

pub returns-in-Equal-clause-found_within : goal.returns-in-Equal-clause-found_within
returns-in-Equal-clause-found_within g c =
    let fits = item-read c.args.chunks.now c.in-Some.next c.index.result.now c.in-Some.ensures.item (rw c.chunks.view_is at c.index.ensures) in
    (item-here c.args.chunks.now c.in-Some.next c.index.result.now c.at.result.now c.in-Some.ensures.place (rw c.chunks.view_is at c.index.ensures) fits c.at.ensures).0

pub returns-in-Equal-clause-found : goal.returns-in-Equal-clause-found
returns-in-Equal-clause-found g c = λ d.
    let xs = c.args.chunks.now in
    let v = c.at.result.now in
    let fits = item-read xs c.in-Some.next c.index.result.now c.in-Some.ensures.item (rw c.chunks.view_is at c.index.ensures) in
    let here = item-here xs c.in-Some.next c.index.result.now v c.in-Some.ensures.place (rw c.chunks.view_is at c.index.ensures) fits c.at.ensures in
    ap (λ k. g.C.Compare.order k c.args.key.now) (key-read g.L.KeyOf.key_of (flat xs) (place_in xs c.in-Some.next) v d here.0 (here.1 v))
    ∙ ap (λ k. g.C.Compare.order k c.args.key.now) (sym c.key_of.ensures) ∙ sym c.in-Equal.ensures.answer

pub returns-in-Greater-clause-missing_from : goal.returns-in-Greater-clause-missing_from
returns-in-Greater-clause-missing_from g c = λ k d low high.
    let xs = c.args.chunks.now in
    let v = c.at.result.now in
    let key = g.L.KeyOf.key_of in
    let fits = item-read xs c.in-Some.next c.index.result.now c.in-Some.ensures.item (rw c.chunks.view_is at c.index.ensures) in
    let here = item-here xs c.in-Some.next c.index.result.now v c.in-Some.ensures.place (rw c.chunks.view_is at c.index.ensures) fits c.at.ensures in
    let above : g.C.Compare.order (key v) c.args.key.now ≡ Greater =
    ap (λ k. g.C.Compare.order k c.args.key.now) (sym c.key_of.ensures) ∙ sym c.in-Greater.ensures.answer in
    above_from g.C.Compare.order g.met.C.Compare.total (keys_of key xs) c.args.key.now c.requires.ascending (place_in xs c.in-Some.next) (key v)
    (omega (arith, here.0, length-keys key xs)) (sym (key-read key (flat xs) (place_in xs c.in-Some.next) v (key v) here.0 (here.1 v))) above k d
    (omega (arith, low, c.in-Some.ensures.same)) (omega (arith, high, length-keys key xs))
