use Rattle.std.proofs.Common.{sym, ◌∙◌}
use Rattle.range_collections.proofs.CountUpTo.{count_up_to-split, member-at}
use Rattle.range_collections.proofs.questions.containing.contains.Goals as goal

pub returns-clause-member : goal.returns-clause-member
returns-clause-member g c =
    c.is_odd.ensures
    ∙ sym (member-at g.T.Ord.cmp c.args.value.now (g.L.Boundaries.items c.args.list) _
    (count_up_to-split g.T.Ord.cmp c.args.value.now (g.L.Boundaries.items c.args.list) _
    c.up_to.ensures.within c.up_to.ensures.before c.up_to.ensures.from))
