use Rattle.range_list.specs.Lists.{joined}
use Rattle.range_chunks.proofs.ToTheEnd.{changed-from, ascending-changed_from}
use Rattle.range_chunks.proofs.OpenEnded.{no_longer_from}
use Rattle.range_chunks.proofs.to_the_end.set_from.Goals as goal

pub returns-clause-sorted : goal.returns-clause-sorted
returns-clause-sorted g c =
    ascending-changed_from g.met.T.Ord.total c.args.inside (joined c.args.list.now) c.args.start _ _ c.requires.sorted c.cut_at-start.ensures.cut
    (joined c.replace_from.new.self) c.replace_from.result c.replace_from.ensures.items c.replace_from.ensures.unchanged

pub returns-clause-changed : goal.returns-clause-changed
returns-clause-changed g c =
    changed-from g.met.T.Ord.total c.args.inside (joined c.args.list.now) c.args.start _ _ c.requires.sorted c.cut_at-start.ensures.cut
    (joined c.replace_from.new.self) c.replace_from.result c.replace_from.ensures.items c.replace_from.ensures.unchanged c.replace_from.ensures.succeeds

pub returns-clause-settled : goal.returns-clause-settled
returns-clause-settled g c = λ settled.
    c.replace_from.ensures.succeeds (no_longer_from g.met.T.Ord.total c.args.inside (joined c.args.list.now) c.args.start _ _ c.cut_at-start.ensures.cut settled)
