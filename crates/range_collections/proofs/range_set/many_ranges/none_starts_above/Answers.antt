use Rattle.std.proofs.Common.{◌≡◌, ◌∙◌, sym, refl, rules, arith}
use Rattle.std.specs.Ordering.{is_le}
use Rattle.range_collections.proofs.ManyRanges.{none_above}
use Rattle.range_collections.proofs.range_set.many_ranges.none_starts_above.Goals as goal

pub returns-then-len-eq0 : goal.returns-then-len-eq0
returns-then-len-eq0 g c = (λ t i d within. absurd (omega (arith, c.if-len-eq0.true, within)), λ none. refl)

pub returns : goal.returns
returns g c =
    let same : c.is_le.result ≡ is_le (g.T.Ord.cmp c.index-items-last.result c.args.at.now) = search rules in
    let both = none_above g.met.T.Ord.total c.args.items.now c.requires c.args.at.now c.index-items-last.result (omega (arith, c.if-len-eq0.false)) c.index-items-last.is in
    (λ t. both.0 (sym same ∙ t), λ none. same ∙ both.1 none)
