use Rattle.std.proofs.Common.{◌≡◌, ◌==◌, ◌∙◌, ap, length, lit<, rules, tests}
use Rattle.std.specs.List.{list_all}
use Rattle.std.specs.Option.{is_some}
use Rattle.std.proofs.lemmas.Iterator.Search.{all_from_yields_List}
use Rattle.std.proofs.lemmas.Iterator.Splits.{YieldsList-from_str_split}
use Rattle.range_collections.specs.Reading.{is_ranges, parts_of, range_in}
use Rattle.range_collections.proofs.Reading.{or_left, or_right}
use Rattle.range_collections.proofs.parse.is_ranges.Goals as goal

pub returns-then-is_empty : goal.returns-then-is_empty
unfolding is_ranges
returns-then-is_empty g c = or_left _ _ _ (c.is_empty.ensures ∙ ap (λ bs. length bs == 0) c.trim.ensures.trim) c.if-is_empty.true

pub returns-else-is_empty : goal.returns-else-is_empty
unfolding is_ranges
returns-else-is_empty g c =
    let parts : c.all.result ≡ list_all (λ part. is_some (range_in g.T.WholeNumber.number part)) (parts_of c.args.text.now) =
    all_from_yields_List (λ part. is_some (range_in g.T.WholeNumber.number part)) _ _ _ c.all.ensures.ran
    (YieldsList-from_str_split 44 c.args.text.now (lit< tt) c.split.ensures.text c.split.ensures.has_more c.split.ensures.pattern) (λ x b q k. search (rules, tests)) in
    or_right _ _ _ _ (c.is_empty.ensures ∙ ap (λ bs. length bs == 0) c.trim.ensures.trim) c.if-is_empty.false parts
