use Rattle.std.proofs.Common.{◌≡◌, None, Some, true, rules, ap}
use Rattle.std.specs.Option.{option_eq}
use Rattle.range_map.specs.Listed.{steps_in}
use Rattle.range_map.specs.Places.{ArePlaces, span_of}
use Rattle.range_map.proofs.FreeRanges.{none_after}
use Rattle.range_map.proofs.free.set_free.Goals as goal

pub put_range-requires-clause-places : goal.put_range-requires-clause-places
put_range-requires-clause-places g c = rw c.as_ref-2.ensures.value at c.find-places.ensures.places

pub put_range-requires-clause-copied : goal.put_range-requires-clause-copied
put_range-requires-clause-copied g c =
    let m = steps_in c.args.steps.now in
    let span = span_of c.args.steps.now c.find-places.result in
    let are : ArePlaces g.K.Ord.cmp g.V.PartialEq.eq m c.args.start c.args.end (Some c.args.value) span =
    rw c.as_ref-2.ensures.value at c.find-places.ensures.places in
    λ same _.
    ap (option_eq g.V.PartialEq.eq None)
    (none_after g.K.Ord.cmp g.met.K.Ord.total g.V.PartialEq.eq g.met.V.Eq.laws m c.requires.canonical c.args.start c.args.end c.requires.some (Some c.args.value) span are
    (let h : c.is_free.result ≡ true = search rules in rw c.as_ref.ensures.value at c.is_free.ensures.0 h) same)
