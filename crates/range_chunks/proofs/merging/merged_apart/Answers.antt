use Rattle.std.proofs.lemmas.Result.{IfOk-weaker}
use Rattle.range_list.specs.Lists.{joined, place_at}
use Rattle.range_chunks.proofs.Windowed.{dropped-window}
use Rattle.range_chunks.proofs.merging.merged_apart.Goals as goal

pub returns : goal.returns
returns g c =
    IfOk-weaker c.from_list.result _ _
    (λ made e. rw e (dropped-window g.met.T.Ord.total g.T.EntryClone.is_copy g.met.T.EntryClone.copy_is_equal (g.O.MergeOperation.connective c.args.op.now) c.requires.off (joined c.args.list.now) c.args.that.now c.in_ok-merged_between.field-0.items
    (place_at c.args.list.now c.window.result.0) (place_at c.args.list.now c.window.result.1) c.requires.own_ascending c.window.ensures.window c.in_ok-merged_between.ensures c.requires.apart))
    c.from_list.ensures
