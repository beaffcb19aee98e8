use Rattle.std.proofs.Common.{◌≡◌, Bool, true, false, ◌||◌, lit<, rules, tests}
use Rattle.std.specs.List.{list_all}
use Rattle.std.specs.Option.{is_some}
use Rattle.std.proofs.lemmas.Iterator.Search.{all_from_yields_List}
use Rattle.std.proofs.lemmas.Iterator.Splits.{YieldsList-from_str_split}
use Rattle.range_collections.specs.Reading.{signed_number, parts_of}
use Rattle.range_calc_answers.specs.Words.{is_list}
use Rattle.range_calc_answers.proofs.request.is_list.Goals as goal

or_left : (l a b : Bool) → l ≡ a → l ≡ true → l ≡ (a || b)
or_left l true b e t = t
or_left l false b e t = cc

or_right : (l a r b : Bool) → l ≡ a → l ≡ false → r ≡ b → r ≡ (a || b)
or_right l true r b e f g = cc
or_right l false r b e f g = g

pub returns-then-eq : goal.returns-then-eq
unfolding is_list
returns-then-eq c = or_left _ _ _ c.eq.ensures c.if-eq.true

pub returns-else-eq : goal.returns-else-eq
unfolding is_list
returns-else-eq c =
    let parts : c.all.result ≡ list_all (λ part. is_some (signed_number 63 part)) (parts_of c.args.word.now) =
    all_from_yields_List (λ part. is_some (signed_number 63 part)) _ _ _ c.all.ensures.ran (YieldsList-from_str_split 44 c.args.word.now (lit< tt) c.split.ensures.text c.split.ensures.has_more c.split.ensures.pattern) (λ x b q k. search (rules, tests)) in
    or_right _ _ _ _ c.eq.ensures c.if-eq.false parts
