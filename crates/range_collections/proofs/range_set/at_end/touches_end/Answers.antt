use Rattle.std.proofs.Common.{◌≡◌, sym, ◌∙◌, rules, true, false, arith, length}
use Rattle.std.specs.Cmp.{Equal-is}
use Rattle.std.specs.Ordering.{is_eq, is_lt}
use Rattle.range_merge.specs.Boundaries.{is_odd}
use Rattle.range_collections.proofs.Ascending.{Less-from_is_lt}
use Rattle.range_collections.proofs.ManyRanges.{EndsBefore-at, EndsBefore-below, EndsBefore-none}
use Rattle.range_collections.proofs.range_set.at_end.touches_end.Goals as goal

pub returns-then-len-eq0 : goal.returns-then-len-eq0
returns-then-len-eq0 g c = EndsBefore-none g.met.T.Ord.total c.args.items.now c.args.at.now c.if-len-eq0.true

pub returns-then-is_lt : goal.returns-then-is_lt
returns-then-is_lt g c =
    let even : is_odd (length c.args.items.now) ≡ false = sym c.is_odd.ensures ∙ c.if-is_odd.false in
    let less : is_lt (g.T.Ord.cmp c.index-items-len.result c.args.at.now) ≡ true = search rules in
    EndsBefore-below g.met.T.Ord.total c.args.items.now c.args.at.now c.index-items-len.result even (omega (arith, c.if-len-eq0.false)) c.index-items-len.is c.requires
    (Less-from_is_lt (g.T.Ord.cmp c.index-items-len.result c.args.at.now) less)

pub returns-then-is_eq : goal.returns-then-is_eq
returns-then-is_eq g c =
    let even : is_odd (length c.args.items.now) ≡ false = sym c.is_odd.ensures ∙ c.if-is_odd.false in
    let same : is_eq (g.T.Ord.cmp c.index-items-len.result c.args.at.now) ≡ true = search rules in
    EndsBefore-at g.met.T.Ord.total c.args.items.now c.args.at.now c.index-items-len.result even (omega (arith, c.if-len-eq0.false)) c.index-items-len.is
    ((Equal-is (g.T.Ord.cmp c.index-items-len.result c.args.at.now)).0 same)
