use Rattle.std.proofs.Common.{lit<, rules, tests}
use Rattle.std.proofs.lemmas.Iterator.Consumers.{YieldsList-from_filter_map, YieldsList-at}
use Rattle.std.proofs.lemmas.Iterator.Splits.{YieldsList-from_str_split}
use Rattle.range_collections.specs.Reading.{signed_number}
use Rattle.range_calc_answers.specs.Words.{numbers_of}
use Rattle.range_calc_answers.proofs.Collected.{items_from_collected}
use Rattle.range_calc_answers.proofs.request.numbers.Goals as goal

pub returns : goal.returns
unfolding numbers_of
returns c = items_from_collected (λ v. v.items) c.collect.result c.collect.ensures.ran (YieldsList-from_filter_map {s = c.filter_map.result} _ (signed_number 63) (YieldsList-at c.filter_map.ensures.source (YieldsList-from_str_split {s = c.split.result} 44 c.args.word.now (lit< tt) c.split.ensures.text c.split.ensures.has_more c.split.ensures.pattern)) c.filter_map.ensures.closure (λ x r q k. search (rules, tests)))
