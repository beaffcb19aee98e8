use Rattle.std.proofs.Common.{◌≡◌, true, false, rules, arith, sym, ◌∙◌, length, Some}
use Rattle.std.specs.Ordering.{is_le, is_lt}
use Rattle.range_merge.specs.Boundaries.{is_odd}
use Rattle.range_collections.specs.Splicing.{IsCut}
use Rattle.range_collections.proofs.Ascending.{Less-from_is_lt}
use Rattle.range_collections.proofs.ManyRanges.{IsCut-empty, IsCut-after_last, IsCut-in_last, IsCut-in_open}
use Rattle.range_collections.proofs.range_set.at_end.cut_near_end.Goals.{then-len-eq0-via-then-len-eq0, then-len-eq0-via-else-len-eq0+then-is_lt}
use Rattle.range_collections.proofs.range_set.at_end.cut_near_end.Goals as goal

pub returns-then-len-eq0 : goal.returns-then-len-eq0
returns-then-len-eq0 g c =
    let even : is_odd (length c.args.items.now) ≡ false = sym c.is_odd.ensures ∙ c.if-is_odd.false in
    elim c.then-len-eq0.branch as (λ _. IsCut g.T.Ord.cmp true c.args.items.now c.args.at (length c.args.items.now) (Some c.args.at)) [
      | then-len-eq0-via-then-len-eq0 w ↦ IsCut-empty g.met.T.Ord.total c.args.items.now c.args.at c.requires even w.if-len-eq0.true
      | then-len-eq0-via-else-len-eq0+then-is_lt w ↦
          let below : is_lt (g.T.Ord.cmp w.index-items-len-else-len-eq0.result c.args.at) ≡ true = search rules in
          IsCut-after_last g.met.T.Ord.total c.args.items.now c.args.at c.requires even w.index-items-len-else-len-eq0.result (omega (arith, w.if-len-eq0.false)) w.index-items-len-else-len-eq0.is
          (Less-from_is_lt (g.T.Ord.cmp w.index-items-len-else-len-eq0.result c.args.at) below)
    ]

pub returns-then-is_le : goal.returns-then-is_le
returns-then-is_le g c =
    let reached : is_le (g.T.Ord.cmp c.index-items-len.result c.args.at) ≡ true = search rules in
    IsCut-in_open g.met.T.Ord.total c.args.items.now c.args.at c.requires (search rules) c.index-items-len.result c.index-items-len.is reached

pub returns-then-is_le-2 : goal.returns-then-is_le-2
returns-then-is_le-2 g c =
    let even : is_odd (length c.args.items.now) ≡ false = sym c.is_odd.ensures ∙ c.if-is_odd.false in
    let short : is_lt (g.T.Ord.cmp c.index-items-len-else-len-eq0.result c.args.at) ≡ false = search rules in
    let reached : is_le (g.T.Ord.cmp c.index-items-len-2.result c.args.at) ≡ true = search rules in
    IsCut-in_last g.met.T.Ord.total c.args.items.now c.args.at c.requires even c.index-items-len-else-len-eq0.result (omega (arith, c.if-len-eq0.false)) c.index-items-len-else-len-eq0.is
    c.index-items-len-2.result (search rules) c.index-items-len-2.is short reached
