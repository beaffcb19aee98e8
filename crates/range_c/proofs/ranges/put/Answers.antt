use Rattle.std.proofs.Common.{◌≡◌, ◌<◌, true, false, arith, rules}
use Rattle.std.specs.Ordering.{is_lt}
use Rattle.range_c.proofs.Joined.{put-first, put-apart, put-inside, put-longer}
use Rattle.range_c.proofs.ranges.put.Goals as goal

pub returns-then-kept-eq0-clause-put : goal.returns-then-kept-eq0-clause-put
returns-then-kept-eq0-clause-put g c =
    let filled : is_lt (g.E.Number.Ord.cmp (g.E.Ends.first c.args.range) (g.E.Ends.last c.args.range)) ≡ true = search rules in
    put-first g.met.E.Number.Ord.total g.E.Ends.first g.E.Ends.last c.args.ranges.now c.args.kept c.args.range c.if-kept-eq0.true (omega (arith, c.requires.room)) filled

pub returns-then-is_lt-clause-put : goal.returns-then-is_lt-clause-put
returns-then-is_lt-clause-put g c =
    let b = c.index-ranges-kept.result in
    let some : 0 < c.args.kept = omega (arith, c.if-kept-eq0.false) in
    let filled : is_lt (g.E.Number.Ord.cmp (g.E.Ends.first c.args.range) (g.E.Ends.last c.args.range)) ≡ true = search rules in
    let gap : is_lt (g.E.Number.Ord.cmp (g.E.Ends.last b) (g.E.Ends.first c.args.range)) ≡ true = search rules in
    put-apart g.met.E.Number.Ord.total g.E.Ends.first g.E.Ends.last c.args.ranges.now c.args.kept b c.args.range some c.requires.room c.index-ranges-kept.is
    c.requires.sorted c.requires.low filled gap

pub returns-then-is_lt-2-clause-put : goal.returns-then-is_lt-2-clause-put
returns-then-is_lt-2-clause-put g c =
    let b = c.index-ranges-kept.result in
    let some : 0 < c.args.kept = omega (arith, c.if-kept-eq0.false) in
    let touches : is_lt (g.E.Number.Ord.cmp (g.E.Ends.last b) (g.E.Ends.first c.args.range)) ≡ false = search rules in
    let far : is_lt (g.E.Number.Ord.cmp (g.E.Ends.last b) (g.E.Ends.last c.args.range)) ≡ true = search rules in
    let starts : g.E.Ends.first c.of.result ≡ g.E.Ends.first b = search rules in
    let ends : g.E.Ends.last c.of.result ≡ g.E.Ends.last c.args.range = search rules in
    put-longer g.met.E.Number.Ord.total g.E.Ends.first g.E.Ends.last c.args.ranges.now c.args.kept b c.args.range some c.requires.room c.index-ranges-kept.is
    c.requires.sorted c.requires.low c.of.result touches far starts ends

pub returns-else-is_lt-2-clause-put : goal.returns-else-is_lt-2-clause-put
returns-else-is_lt-2-clause-put g c =
    let b = c.index-ranges-kept.result in
    let some : 0 < c.args.kept = omega (arith, c.if-kept-eq0.false) in
    let short : is_lt (g.E.Number.Ord.cmp (g.E.Ends.last b) (g.E.Ends.last c.args.range)) ≡ false = search rules in
    put-inside g.met.E.Number.Ord.total g.E.Ends.first g.E.Ends.last c.args.ranges.now c.args.kept b c.args.range some c.requires.room c.index-ranges-kept.is
    c.requires.sorted c.requires.low short
