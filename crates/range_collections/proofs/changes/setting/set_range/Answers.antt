use Rattle.range_collections.proofs.Changing.{changed-by_nothing}
use Rattle.range_collections.proofs.Values.{not_less-from_none}
use Rattle.range_collections.proofs.changes.setting.set_range.Goals as goal

pub returns-then-not-has_elements-clause-changed : goal.returns-then-not-has_elements-clause-changed
returns-then-not-has_elements-clause-changed g c =
    changed-by_nothing g.met.T.Ord.total c.args.inside (g.L.Splice.items c.args.list.now) c.args.range.start c.args.range.end g.L.Splice.room c.requires.sorted
    (not_less-from_none c.has_elements.result _ c.has_elements.ensures.answer c.if-not-has_elements.true)
