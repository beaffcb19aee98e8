use Rattle.std.proofs.Common.{◌≡◌, ◌≤◌, length, take, arith, rules}
use Rattle.std.proofs.lemmas.List.{length-take-le, take-append-le}
use Rattle.range_c.proofs.Opened.{length-ends_and}
use Rattle.range_c.proofs.reading.read_text.Goals as goal

pub returns-clause-few : goal.returns-clause-few
returns-clause-few g c =
    let n = c.union_from.result.0 in
    let new = c.union_from.new.ranges in
    let same : length new ≡ length c.split_at_mut-front.result.0.now = search rules in
    let fits : n ≤ length new = omega (arith, c.union_from.ensures.within, same) in
    rw (take-append-le n new c.split_at_mut-front.result.1.now fits)
    (omega (
      arith,
      length-ends_and g.E.Ends.first g.E.Ends.last (take n new) c.union_from.result.1,
      length-take-le n new fits,
      c.union_from.ensures.within,
      c.union_from.ensures.as_many,
      c.split_at_mut-front.ensures.front_len,
      c.read_ranges-len.ensures.few,
    ))

pub returns-clause-sorted : goal.returns-clause-sorted
returns-clause-sorted g c =
    let n = c.union_from.result.0 in
    let new = c.union_from.new.ranges in
    let same : length new ≡ length c.split_at_mut-front.result.0.now = search rules in
    let fits : n ≤ length new = omega (arith, c.union_from.ensures.within, same) in
    rw (take-append-le n new c.split_at_mut-front.result.1.now fits) c.union_from.ensures.union.sorted
