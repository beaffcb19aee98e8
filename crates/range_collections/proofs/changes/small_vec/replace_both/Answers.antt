use Rattle.std.proofs.Common.{arith, ◌∙◌}
use Rattle.range_collections.proofs.Splices.{spliced-twice}
use Rattle.range_collections.proofs.changes.small_vec.replace_both.Goals as goal

pub returns-clause-items : goal.returns-clause-items
returns-clause-items g c =
    c.replace-after.ensures.items
    ∙ spliced-twice c.args.items.now c.replace-next.new.items c.args.from c.replace-next.result.0 c.replace-after.result.0 c.args.start c.args.end
    (omega (arith, c.requires)) c.replace-next.ensures.after c.replace-after.ensures.after c.replace-next.ensures.items
