use Rattle.std.proofs.Common.{◌∙◌, ap, rules}
use Rattle.range_list.proofs.Behind.{mark-last}
use Rattle.range_list.proofs.reading.end_mark.Goals as goal

pub returns : goal.returns
returns g c =
    c.behind.ensures ∙ ap (λ n. g.M.Mark.moved c.index-last.result.now.mark n) (search rules)
    ∙ mark-last g.M.Mark.of g.M.Mark.moved g.met.M.Mark.adds c.args.chunks.now _ c.index-last.result.now (search rules) (rw c.chunks.view_is at c.index-last.ensures) (rw c.chunks.view_is at c.chunks.invariant).marks
