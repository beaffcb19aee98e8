use Rattle.range_list.proofs.Cuts.{below-found, from-found, from-missing}
use Rattle.range_list.proofs.searching.below.Goals as goal

pub returns-in-Ok-clause-below : goal.returns-in-Ok-clause-below
returns-in-Ok-clause-below g c =
    below-found g.L.KeyOf.key_of g.C.Compare.order g.met.C.Compare.total c.args.chunks.now c.args.key.now c.requires.ascending c.in-Ok.p c.in-Ok.ensures.found_within c.in-Ok.ensures.found

pub returns-in-Ok-clause-from : goal.returns-in-Ok-clause-from
returns-in-Ok-clause-from g c =
    from-found g.L.KeyOf.key_of g.C.Compare.order g.met.C.Compare.total c.args.chunks.now c.args.key.now c.requires.ascending c.in-Ok.p c.in-Ok.ensures.found_within c.in-Ok.ensures.found

pub returns-in-Err-clause-from : goal.returns-in-Err-clause-from
returns-in-Err-clause-from g c = λ k d low high. from-missing g.C.Compare.order g.met.C.Compare.total _ c.args.key.now (c.in-Err.ensures.missing_from k d low high)
