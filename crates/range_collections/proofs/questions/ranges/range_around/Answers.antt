use Rattle.std.proofs.Common.{Some, None}
use Rattle.range_collections.proofs.Around.{ranges_of-two, ranges_of-one, item-before}
use Rattle.range_collections.proofs.Searched.{item-read}
use Rattle.range_collections.proofs.questions.ranges.range_around.Goals as goal

pub returns-in_err-start : goal.returns-in_err-start
returns-in_err-start g c =
    rw c.from_residual.ensures
    (item-before (g.L.Boundaries.items c.args.list) (g.L.Boundaries.index c.args.list c.args.at) None c.in_err-start.ensures.within c.in_err-start.ensures.item)

pub returns-in-Some : goal.returns-in-Some
returns-in-Some g c =
    let all = g.L.Boundaries.items c.args.list in
    let n = g.L.Boundaries.index c.args.list c.args.at in
    let within = c.in_ok-start.ensures.within in
    let before = item-before all n (Some c.in_ok-start.start) within c.in_ok-start.ensures.item in
    let after = item-read all n (Some c.in-Some.end) c.in-Some.ensures in
    ranges_of-two all n c.in_ok-start.start.now before.0 within before.1 c.in-Some.end.now after.0 after.1

pub returns-in-None : goal.returns-in-None
returns-in-None g c =
    let all = g.L.Boundaries.items c.args.list in
    let n = g.L.Boundaries.index c.args.list c.args.at in
    let within = c.in_ok-start.ensures.within in
    let before = item-before all n (Some c.in_ok-start.start) within c.in_ok-start.ensures.item in
    ranges_of-one all n c.in_ok-start.start.now before.0 within before.1 (item-read all n None c.in-None.ensures)
