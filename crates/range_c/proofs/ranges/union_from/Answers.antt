use Rattle.std.proofs.Common.{◌≤◌, length, rules}
use Rattle.range_c.proofs.Opened.{IsUnionFrom-opened}
use Rattle.range_c.proofs.ranges.union_from.Goals as goal

pub returns-in-Some-clause-union : goal.returns-in-Some-clause-union
returns-in-Some-clause-union g c =
    let within : c.from_ranges-kept.result ≤ length c.from_ranges-kept.new.ranges = search rules in
    rw c.in-Some.is
    (IsUnionFrom-opened g.met.E.Number.Ord.total g.E.Ends.first g.E.Ends.last c.args.ranges.now c.from_ranges-kept.new.ranges c.split_at.result.0.now
    c.from_ranges-kept.result c.extended-kept.result.0 c.in-Some.from c.extended-kept.result.1
    c.from_ranges-kept.ensures.union c.split_at.ensures.front within c.extended-kept.ensures.within c.extended-kept.ensures.union)
