use Rattle.std.proofs.Common.{◌≡◌, arith}
use Rattle.std.specs.Prelude.{⊤}
use Rattle.range_collections.specs.Ranges.{range_boundaries}
use Rattle.range_collections.specs.Unions.{IsAscending-range}
use Rattle.range_collections.proofs.Underway.{GivesUnion-never, equal-own, some_left, underway-all}
use Rattle.range_collections.proofs.Unions.{GivesUnion-joined}
use Rattle.range_collections.proofs.range_set.many_ranges.finished.Goals as goal

pub returns-then-is_empty : goal.returns-then-is_empty
returns-then-is_empty g c ranges u =
    underway-all g.met.T.Ord.total g.row.N ranges c.args.set c.args.aside.starts.items c.args.aside.ends.items u (c.is_empty.ensures.0 c.if-is_empty.true)

pub returns-in_err-that : goal.returns-in_err-that
returns-in_err-that g c ranges u =
    GivesUnion-never g.met.T.Ord.total (λ x y. x ≡ y) (equal-own g.met.T.Ord.total) g.row.N (λ x. ⊤) ranges c.from_residual.result c.from_residual.ensures.0
    (λ few sure. omega (arith, few, u.many (some_left c.args.aside.starts.items c.is_empty.result c.is_empty.ensures.1 c.if-is_empty.false)))

pub returns : goal.returns
returns g c ranges u =
    GivesUnion-joined g.met.T.Ord.total (λ x y. x ≡ y) (λ x. ⊤) (equal-own g.met.T.Ord.total) (range_boundaries g.T.Ord.cmp) g.row.N (IsAscending-range g.T.Ord.cmp)
    ranges u.front u.back c.args.set c.in_ok-that.that c.joined.result u.are u.union (c.in_ok-that.ensures u.back u.starts_are u.ends_are) c.joined.ensures.joined
