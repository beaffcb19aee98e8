use Rattle.std.proofs.Common.{inl}
use Rattle.std.proofs.lemmas.Result.{on_ok_weaker}
use Rattle.range_collections.proofs.Changing.{ascending-spliced, changed-spliced}
use Rattle.range_collections.proofs.Insertion.{cuts_ordered, same_parity}
use Rattle.range_collections.proofs.Settled.{IsSet-spliced, no_longer}
use Rattle.range_collections.proofs.changes.setting.set_between.Goals as goal

pub splice-requires-clause-ordered : goal.splice-requires-clause-ordered
splice-requires-clause-ordered g c = cuts_ordered g.met.T.Ord.total c.args.inside (g.L.Splice.items c.args.list.now) c.args.start c.args.end _ _ _ _ c.requires.sorted c.requires.less c.cuts-from.ensures.start c.cuts-from.ensures.end

pub splice-requires-clause-parity : goal.splice-requires-clause-parity
splice-requires-clause-parity g c = same_parity g.met.T.Ord.total c.args.inside (g.L.Splice.items c.args.list.now) c.args.start c.args.end _ _ _ _ c.requires.sorted c.requires.less c.cuts-from.ensures.start c.cuts-from.ensures.end

pub returns-clause-sorted : goal.returns-clause-sorted
returns-clause-sorted g c =
    ascending-spliced g.met.T.Ord.total c.args.inside (g.L.Splice.items c.args.list.now) c.args.start c.args.end g.L.Splice.room _ _ _ _ c.requires.sorted c.requires.less c.cuts-from.ensures.start c.cuts-from.ensures.end
    (g.L.Splice.items c.splice.new.self) c.splice.result c.splice.ensures.items c.splice.ensures.unchanged

pub returns-clause-changed : goal.returns-clause-changed
returns-clause-changed g c =
    changed-spliced g.met.T.Ord.total c.args.inside (g.L.Splice.items c.args.list.now) c.args.start c.args.end g.L.Splice.room _ _ _ _ c.requires.sorted c.requires.less c.cuts-from.ensures.start c.cuts-from.ensures.end
    (g.L.Splice.items c.splice.new.self) c.splice.result c.splice.ensures.items c.splice.ensures.unchanged c.splice.ensures.succeeds

pub returns-clause-set : goal.returns-clause-set
returns-clause-set g c =
    on_ok_weaker c.splice.result (IsSet-spliced g.met.T.Ord.total c.args.inside (g.L.Splice.items c.args.list.now) c.args.start c.args.end _ _ _ _ c.requires.sorted c.requires.less c.cuts-from.ensures.start c.cuts-from.ensures.end (g.L.Splice.items c.splice.new.self)) c.splice.ensures.items

pub returns-clause-settled : goal.returns-clause-settled
returns-clause-settled g c = λ settled.
    c.splice.ensures.succeeds (inl (no_longer g.met.T.Ord.total c.args.inside (g.L.Splice.items c.args.list.now) c.args.start c.args.end _ _ _ _ c.requires.sorted c.requires.less c.cuts-from.ensures.start c.cuts-from.ensures.end settled))
