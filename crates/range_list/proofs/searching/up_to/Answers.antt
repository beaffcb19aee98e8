use Rattle.range_list.proofs.Cuts.{up_to-found, above-found, up_to-missing}
use Rattle.range_list.proofs.searching.up_to.Goals as goal

pub returns-in-Ok-clause-up_to : goal.returns-in-Ok-clause-up_to
returns-in-Ok-clause-up_to g c =
    up_to-found g.L.KeyOf.key_of g.C.Compare.order g.met.C.Compare.total c.args.chunks.now c.args.key.now c.requires.ascending c.in-Ok.p c.in-Ok.ensures.found_within c.in-Ok.ensures.found _ c.behind_item.ensures.after

pub returns-in-Ok-clause-above : goal.returns-in-Ok-clause-above
returns-in-Ok-clause-above g c =
    above-found g.L.KeyOf.key_of g.C.Compare.order g.met.C.Compare.total c.args.chunks.now c.args.key.now c.requires.ascending c.in-Ok.p c.in-Ok.ensures.found_within c.in-Ok.ensures.found _ c.behind_item.ensures.after

pub returns-in-Err-clause-up_to : goal.returns-in-Err-clause-up_to
returns-in-Err-clause-up_to g c = λ k d low high. up_to-missing g.C.Compare.order _ c.args.key.now (c.in-Err.ensures.missing_before k d low high)
