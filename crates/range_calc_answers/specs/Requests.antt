-- What a request means.
--     meaning_of request    what a request asks
use Rattle.range_calc_answers.specs.Words.{Asked, of_list, of_two_lists, of_list_and_number, of_json, numbers_of}
use Rattle.range_calc_answers.specs.declared.request.Request.{Request}
use Rattle.range_calc_answers.specs.declared.request.Request.TheVariants.{OfTwoLists, OfListAndNumber, OfList, OfJson}

-- what the request asks
abbrev pub meaning_of : Request → Asked
meaning_of (OfTwoLists command a b) = of_two_lists command (numbers_of a.now) (numbers_of b.now)
meaning_of (OfListAndNumber command a n) = of_list_and_number command (numbers_of a.now) n
meaning_of (OfList command a) = of_list command (numbers_of a.now)
meaning_of (OfJson text) = of_json text.now
