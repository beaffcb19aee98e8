use Rattle.range_calc_answers.proofs.answering.reply.Goals as goal

pub returns-in-OfList : goal.returns-in-OfList
returns-in-OfList c = rw c.in-OfList.is c.list_reply.ensures

pub returns-in-OfTwoLists : goal.returns-in-OfTwoLists
returns-in-OfTwoLists c = rw c.in-OfTwoLists.is c.two_lists_reply.ensures

pub returns-in-OfJson : goal.returns-in-OfJson
returns-in-OfJson c = rw c.in-OfJson.is c.json_reply.ensures
