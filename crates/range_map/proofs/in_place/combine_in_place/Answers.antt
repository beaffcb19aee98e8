use Rattle.std.proofs.Common.{◌≤◌, length, take, refl, sym, ◌∙◌, arith}
use Rattle.std.proofs.lemmas.List.{nil_from_length}
use Rattle.std.proofs.lemmas.Result.{on_ok_weaker}
use Rattle.range_list.specs.Lists.{joined, place_at}
use Rattle.range_list.proofs.Placed.{place_at-within}
use Rattle.range_map.specs.Listed.{steps_in}
use Rattle.range_map.proofs.Nexts.{below-from}
use Rattle.range_map.proofs.Put.{canonical-answer}
use Rattle.range_map.proofs.Windowed.{kept-nothing, kept-before, kept-canonical, kept-values, last-before}
use Rattle.range_map.proofs.in_place.combine_in_place.Goals as goal

pub returns-then-len-eq0-clause-values : goal.returns-then-len-eq0-clause-values
returns-then-len-eq0-clause-values g c =
    kept-nothing g.K.Ord.cmp g.met.K.Ord.total g.V.PartialEq.eq g.met.V.Eq.laws (g.O.MapOperation.gives c.args.op.now) c.requires.keeps (joined c.args.steps.now) c.requires.canonical c.args.that.now c.requires.ascending
    (nil_from_length c.args.that.now.keys (omega (arith, c.len.ensures, c.if-len-eq0.true))) (joined c.args.steps.now) refl

pub put_from-requires-clause-below : goal.put_from-requires-clause-below
put_from-requires-clause-below g c =
    below-from g.K.Ord.cmp g.met.K.Ord.total (steps_in c.args.steps.now).keys c.args.that.now.keys (place_at c.args.steps.now c.place_below-from.result) 0 c.key.result.now c.requires.ascending
    (omega (arith, c.len.ensures, c.if-len-eq0.false)) (λ d. sym (c.key.ensures d)) c.place_below-from.ensures.below

pub returns-clause-canonical : goal.returns-clause-canonical
returns-clause-canonical g c =
    let lists = c.args.steps.now in
    let items = joined lists in
    let from = c.place_below-from.result in
    let n = place_at lists from in
    let within : n ≤ length items = place_at-within lists from c.place_below-from.ensures.place in
    let made =
    c.in_ok-to.ensures.made (take n items) (c.option_before-before.ensures ∙ last-before items n within)
    (kept-before g.K.Ord.cmp g.met.K.Ord.total g.V.PartialEq.eq g.met.V.Eq.laws (g.O.MapOperation.gives c.args.op.now) c.requires.keeps items c.requires.canonical c.args.that.now c.requires.ascending n within
    (below-from g.K.Ord.cmp g.met.K.Ord.total (steps_in lists).keys c.args.that.now.keys n 0 c.key.result.now c.requires.ascending (omega (arith, c.len.ensures, c.if-len-eq0.false)) (λ d. sym (c.key.ensures d)) c.place_below-from.ensures.below) c.new-list.result.items c.new-list.ensures.items) in
    canonical-answer g.K.Ord.cmp g.V.PartialEq.eq c.replace_between.result items (joined c.replace_between.new.self) _ c.replace_between.ensures.items c.replace_between.ensures.unchanged
    (λ put.
    kept-canonical g.K.Ord.cmp g.met.K.Ord.total g.V.PartialEq.eq g.met.V.Eq.laws (g.O.MapOperation.gives c.args.op.now) c.requires.keeps items c.requires.canonical c.args.that.now c.requires.ascending
    n (place_at lists c.in_ok-to.to) c.put_from.new.list.items (joined c.replace_between.new.self) put (place_at-within lists c.in_ok-to.to c.in_ok-to.ensures.place) c.in_ok-to.ensures.off made)
    c.requires.canonical

pub returns-clause-values : goal.returns-clause-values
returns-clause-values g c =
    let lists = c.args.steps.now in
    let items = joined lists in
    let from = c.place_below-from.result in
    let n = place_at lists from in
    let within : n ≤ length items = place_at-within lists from c.place_below-from.ensures.place in
    let made =
    c.in_ok-to.ensures.made (take n items) (c.option_before-before.ensures ∙ last-before items n within)
    (kept-before g.K.Ord.cmp g.met.K.Ord.total g.V.PartialEq.eq g.met.V.Eq.laws (g.O.MapOperation.gives c.args.op.now) c.requires.keeps items c.requires.canonical c.args.that.now c.requires.ascending n within
    (below-from g.K.Ord.cmp g.met.K.Ord.total (steps_in lists).keys c.args.that.now.keys n 0 c.key.result.now c.requires.ascending (omega (arith, c.len.ensures, c.if-len-eq0.false)) (λ d. sym (c.key.ensures d)) c.place_below-from.ensures.below) c.new-list.result.items c.new-list.ensures.items) in
    on_ok_weaker c.replace_between.result
    (λ put.
    kept-values g.K.Ord.cmp g.met.K.Ord.total g.V.PartialEq.eq g.met.V.Eq.laws (g.O.MapOperation.gives c.args.op.now) c.requires.keeps items c.requires.canonical c.args.that.now c.requires.ascending
    n (place_at lists c.in_ok-to.to) c.put_from.new.list.items (joined c.replace_between.new.self) put (place_at-within lists c.in_ok-to.to c.in_ok-to.ensures.place) c.in_ok-to.ensures.off made)
    c.replace_between.ensures.items
