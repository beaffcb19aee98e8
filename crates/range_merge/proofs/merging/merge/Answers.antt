use Rattle.std.proofs.Common.{Ok, None, refl}
use Rattle.range_merge.specs.declared.merging.Went.TheVariants.{On, Stopped}
use Rattle.range_merge.proofs.EndOfMerge.{end-taken, end-stopped, end-not_stopped}
use Rattle.range_merge.proofs.FirstRun.{changes-walk}
use Rattle.range_merge.proofs.StagesOfMerge.{Stage-compared}
use Rattle.range_merge.proofs.merging.merge.Goals as goal

pub returns-in-Stopped-clause-stopped : goal.returns-in-Stopped-clause-stopped
returns-in-Stopped-clause-stopped g c =
    let firsts = c.order_at-firsts.ensures in
    let stops = (Stage-compared g.met.C.Compare.total _ (Ok Stopped) c.requires.left_ascending c.requires.right_ascending firsts.firsts firsts.comparisons
    (rw c.in-Stopped.is at c.in_ok-take_rounds.ensures.stage)).stops in
    λ _. rw (changes-walk g.met.C.Compare.total _ _ c.requires.left_ascending c.requires.right_ascending _)
    (rw (c.requires.left_off, c.requires.right_off) at stops)

pub returns-in-On-clause-taken : goal.returns-in-On-clause-taken
returns-in-On-clause-taken g c =
    let firsts = c.order_at-firsts.ensures in
    let rounds = rw c.in-On.is at c.in_ok-take_rounds.ensures in
    let so_far = Stage-compared g.met.C.Compare.total _ (Ok (On None)) c.requires.left_ascending c.requires.right_ascending firsts.firsts firsts.comparisons
    (rw (rounds.whole refl) at rounds.stage) in
    let rest = c.take_rest.ensures in
    end-taken g.met.C.Compare.total so_far c.requires.left_ascending c.requires.right_ascending c.requires.left_off c.requires.right_off
    c.take_rest.result rest.left rest.right rest.nothing rest.used_up

pub returns-in-On-clause-stopped : goal.returns-in-On-clause-stopped
returns-in-On-clause-stopped g c =
    let firsts = c.order_at-firsts.ensures in
    let rounds = rw c.in-On.is at c.in_ok-take_rounds.ensures in
    let so_far = Stage-compared g.met.C.Compare.total _ (Ok (On None)) c.requires.left_ascending c.requires.right_ascending firsts.firsts firsts.comparisons
    (rw (rounds.whole refl) at rounds.stage) in
    let rest = c.take_rest.ensures in
    end-stopped g.met.C.Compare.total so_far c.requires.left_ascending c.requires.right_ascending c.requires.left_off c.requires.right_off
    c.take_rest.result rest.left rest.right rest.nothing

pub returns-in-On-clause-not_stopped : goal.returns-in-On-clause-not_stopped
returns-in-On-clause-not_stopped g c =
    let firsts = c.order_at-firsts.ensures in
    let rounds = rw c.in-On.is at c.in_ok-take_rounds.ensures in
    let so_far = Stage-compared g.met.C.Compare.total _ (Ok (On None)) c.requires.left_ascending c.requires.right_ascending firsts.firsts firsts.comparisons
    (rw (rounds.whole refl) at rounds.stage) in
    let rest = c.take_rest.ensures in
    λ can. end-not_stopped g.met.C.Compare.total so_far c.requires.left_ascending c.requires.right_ascending c.requires.left_off c.requires.right_off
    can c.take_rest.result rest.left rest.right rest.nothing rest.used_up
