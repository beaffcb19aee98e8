use Rattle.std.proofs.Common.{◌≡◌, Option, Some, None, refl}
use Rattle.std.specs.Option.{option_map, option_or}
use Rattle.range_calc_answers.specs.Words.{asked_by}
use Rattle.range_calc_answers.proofs.request.three_words.Goals as goal

option_map-or : {A B : Type 0} (f : A → B) (o p : Option A) → option_or (option_map f o) (option_map f p) ≡ option_map f (option_or o p)
option_map-or f None p = refl
option_map-or f (Some x) p = refl

pub returns : goal.returns
unfolding asked_by
returns c = rw (c.of_list_and_number.ensures, c.of_two_lists.ensures, c.or.ensures) (option_map-or _ c.of_list_and_number.result c.of_two_lists.result)
