use Rattle.range_merge.proofs.Searches.{up_to_through, above_after}
use Rattle.range_merge.proofs.searching.count_up_to.Goals as goal

pub returns-in-Ok-clause-before : goal.returns-in-Ok-clause-before
returns-in-Ok-clause-before g c =
    up_to_through g.C.Compare.order g.met.C.Compare.total c.args.items.now c.args.key.now c.requires.ascending c.in-Ok.i c.in-Ok.ensures.answer.found_within c.in-Ok.ensures.answer.found

pub returns-in-Ok-clause-from : goal.returns-in-Ok-clause-from
returns-in-Ok-clause-from g c =
    above_after g.C.Compare.order g.met.C.Compare.total c.args.items.now c.args.key.now c.requires.ascending c.in-Ok.i c.in-Ok.ensures.answer.found_within c.in-Ok.ensures.answer.found
