use Rattle.std.proofs.Common.{ap, sym, ◌∙◌, option_copied, true≢false, rules, arith}
use Rattle.range_list.specs.Lists.{place_at}
use Rattle.range_collections.proofs.Ascending.{Less-from_is_lt}
use Rattle.range_map.specs.Listed.{steps_in}
use Rattle.range_map.proofs.Listed.{item-read, item-within, item-past}
use Rattle.range_map.proofs.free.is_next_below.Goals as goal

pub returns-in-Some : goal.returns-in-Some
returns-in-Some g c =
    let keys = (steps_in c.args.steps.now).keys in
    let n = place_at c.args.steps.now c.args.place in
    let k = c.in-Some.key.now in
    let got = ap option_copied c.in-Some.is in
    let order = g.K.Ord.cmp in (
      λ t. (item-within keys n c.key_at.result c.key_at.ensures (search rules), λ d. ap (λ y. order y c.args.end.now) (item-read keys n c.key_at.result k d c.key_at.ensures got) ∙ Less-from_is_lt (order k c.args.end.now) (search rules)),
      λ below. let less = sym (ap (λ y. order y c.args.end.now) (item-read keys n c.key_at.result k k c.key_at.ensures got)) ∙ below.1 k in search rules,
    )

pub returns-in-None : goal.returns-in-None
returns-in-None g c =
    let keys = (steps_in c.args.steps.now).keys in
    let n = place_at c.args.steps.now c.args.place in (
      λ t. absurd (true≢false (sym t)),
      λ below. absurd (omega (arith, below.0, item-past keys n c.key_at.result c.key_at.ensures (search rules))),
    )
