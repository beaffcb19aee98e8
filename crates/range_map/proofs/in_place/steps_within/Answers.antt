use Rattle.std.proofs.Common.{◌≤◌, [], List, length, refl, sym, subst, arith}
use Rattle.std.proofs.lemmas.List.{nil_from_length}
use Rattle.range_list.specs.Lists.{joined, place_at}
use Rattle.range_list.proofs.Placed.{place_at-within}
use Rattle.range_map.specs.Combining.{IsMadeUpTo}
use Rattle.range_map.specs.Listed.{steps_of, steps_in}
use Rattle.range_map.proofs.Listed.{length-keys}
use Rattle.range_map.proofs.Nexts.{below-from}
use Rattle.range_map.proofs.Windowed.{dropped-all, dropped-before, dropped-behind, dropped-values}
use Rattle.range_map.proofs.in_place.steps_within.Goals as goal

pub returns-then-len-eq0-clause-values : goal.returns-then-len-eq0-clause-values
returns-then-len-eq0-clause-values g c =
    let order = g.K.Ord.cmp in
    let o = g.met.K.Ord.total in
    let f = g.O.MapOperation.gives c.args.op.now in
    let a = steps_in c.args.steps.now in
    let b = c.args.that.now in
    dropped-values order o g.V.PartialEq.eq g.met.V.Eq.laws f c.requires.drops a c.requires.ascending b c.requires.that_ascends c.new-list.result.items
    (dropped-all order o g.V.PartialEq.eq g.met.V.Eq.laws f c.requires.drops a c.requires.ascending b c.requires.that_ascends
    (nil_from_length b.keys (omega (arith, c.len.ensures, c.if-len-eq0.true))) c.new-list.result.items c.new-list.ensures.items)

pub put_from-requires-clause-below : goal.put_from-requires-clause-below
put_from-requires-clause-below g c =
    below-from g.K.Ord.cmp g.met.K.Ord.total (steps_in c.args.steps.now).keys c.args.that.now.keys (place_at c.args.steps.now c.place_below-from.result) 0 c.key.result.now c.requires.that_ascends
    (omega (arith, c.len.ensures, c.if-len-eq0.false)) (λ d. sym (c.key.ensures d)) c.place_below-from.ensures.below

pub returns-clause-canonical : goal.returns-clause-canonical
returns-clause-canonical g c =
    let order = g.K.Ord.cmp in
    let o = g.met.K.Ord.total in
    let E = g.V.PartialEq.eq in
    let f = g.O.MapOperation.gives c.args.op.now in
    let lists = c.args.steps.now in
    let a = steps_in lists in
    let b = c.args.that.now in
    let n = place_at lists c.place_below-from.result in
    let within : n ≤ length a.keys = c.place_below-from.ensures.within in
    let below =
    below-from order o a.keys b.keys n 0 c.key.result.now c.requires.that_ascends (omega (arith, c.len.ensures, c.if-len-eq0.false)) (λ d. sym (c.key.ensures d)) c.place_below-from.ensures.below in
    let start : IsMadeUpTo order E f a b n 0 (steps_of c.new-list.result.items) =
    subst (λ (ys : List _). IsMadeUpTo order E f a b n 0 (steps_of ys)) (sym c.new-list.ensures.items) (dropped-before order o E g.met.V.Eq.laws f c.requires.drops a c.requires.ascending b c.requires.that_ascends n within below) in
    let to = c.in_ok-put_from.field-0 in
    let all =
    dropped-behind order o E g.met.V.Eq.laws f c.requires.drops a c.requires.ascending b c.requires.that_ascends (place_at lists to) c.put_from.new.list.items
    (omega (arith, place_at-within lists to c.in_ok-put_from.ensures.place, length-keys (joined lists))) (λ more. c.in_ok-put_from.ensures.off (omega (arith, more, length-keys (joined lists))))
    (c.in_ok-put_from.ensures.made [] refl start) in
    all.canonical

pub returns-clause-values : goal.returns-clause-values
returns-clause-values g c =
    let order = g.K.Ord.cmp in
    let o = g.met.K.Ord.total in
    let E = g.V.PartialEq.eq in
    let f = g.O.MapOperation.gives c.args.op.now in
    let lists = c.args.steps.now in
    let a = steps_in lists in
    let b = c.args.that.now in
    let n = place_at lists c.place_below-from.result in
    let within : n ≤ length a.keys = c.place_below-from.ensures.within in
    let below =
    below-from order o a.keys b.keys n 0 c.key.result.now c.requires.that_ascends (omega (arith, c.len.ensures, c.if-len-eq0.false)) (λ d. sym (c.key.ensures d)) c.place_below-from.ensures.below in
    let start : IsMadeUpTo order E f a b n 0 (steps_of c.new-list.result.items) =
    subst (λ (ys : List _). IsMadeUpTo order E f a b n 0 (steps_of ys)) (sym c.new-list.ensures.items) (dropped-before order o E g.met.V.Eq.laws f c.requires.drops a c.requires.ascending b c.requires.that_ascends n within below) in
    let to = c.in_ok-put_from.field-0 in
    let all =
    dropped-behind order o E g.met.V.Eq.laws f c.requires.drops a c.requires.ascending b c.requires.that_ascends (place_at lists to) c.put_from.new.list.items
    (omega (arith, place_at-within lists to c.in_ok-put_from.ensures.place, length-keys (joined lists))) (λ more. c.in_ok-put_from.ensures.off (omega (arith, more, length-keys (joined lists))))
    (c.in_ok-put_from.ensures.made [] refl start) in
    dropped-values order o E g.met.V.Eq.laws f c.requires.drops a c.requires.ascending b c.requires.that_ascends c.put_from.new.list.items all
