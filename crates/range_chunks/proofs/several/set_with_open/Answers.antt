use Rattle.std.proofs.lemmas.Result.{on_ok_weaker}
use Rattle.range_list.specs.Lists.{joined}
use Rattle.range_chunks.proofs.InTurn.{nothing_undone}
use Rattle.range_chunks.proofs.OpenEnded.{Means-then_open, settled_from_still}
use Rattle.range_chunks.proofs.several.set_with_open.Goals as goal

pub returns-clause-means : goal.returns-clause-means
returns-clause-means g c =
    on_ok_weaker c.set_from.result
    (Means-then_open g.met.T.Ord.total c.args.inside c.args.ranges.now c.args.start c.requires.even c.requires.below
    (joined c.args.list.now) (joined c.set_ranges.new.list) (joined c.set_from.new.list) c.in_ok-set_ranges.ensures.means)
    c.set_from.ensures.changed.means

pub returns-clause-unchanged : goal.returns-clause-unchanged
returns-clause-unchanged g c =
    nothing_undone c.set_from.result _
    (c.set_from.ensures.settled
    (settled_from_still g.met.T.Ord.total c.args.inside c.args.ranges.now c.args.start c.requires.even c.requires.below
    (joined c.args.list.now) (joined c.set_ranges.new.list) (joined c.set_from.new.list) c.in_ok-set_ranges.ensures.means c.in_ok-set_ranges.ensures.kept
    (c.is_longer_from.ensures.settled c.if-is_longer_from.false)))
