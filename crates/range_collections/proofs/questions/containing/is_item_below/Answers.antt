use Rattle.std.proofs.Common.{arith}
use Rattle.range_collections.proofs.Searched.{IsTrue-item_below, item-read}
use Rattle.range_collections.proofs.questions.containing.is_item_below.Goals as goal

pub returns-in-Some-clause-below : goal.returns-in-Some-clause-below
returns-in-Some-clause-below g c =
    let there = item-read (g.L.Boundaries.items c.args.list) (g.L.Boundaries.index c.args.list c.args.at) c.item_at.result c.item_at.ensures in
    IsTrue-item_below g.T.Ord.cmp (g.L.Boundaries.items c.args.list) (g.L.Boundaries.index c.args.list c.args.at) c.in-Some.next.now c.args.end.now c.is_lt.result c.compare.result
    c.is_lt.ensures c.compare.ensures.answer (rw c.in-Some.is at there)

pub returns-in-None-clause-below : goal.returns-in-None-clause-below
returns-in-None-clause-below g c =
    let past = item-read (g.L.Boundaries.items c.args.list) (g.L.Boundaries.index c.args.list c.args.at) c.item_at.result c.item_at.ensures in
    let end = rw c.in-None.is at past in
    (λ t. absurd (cc), λ below. absurd (omega (arith, end, below.0)))
