use Rattle.std.proofs.Common.{◌∙◌, ap, sym, true, false}
use Rattle.std.proofs.lemmas.Result.{on_ok_weaker}
use Rattle.range_merge.specs.Connective.{differ}
use Rattle.range_list.specs.Lists.{joined, place_at}
use Rattle.range_chunks.proofs.Windowed.{kept-window, even-window}
use Rattle.range_chunks.proofs.merging.merge_into.Goals as goal

pub merged_apart-requires-clause-apart : goal.merged_apart-requires-clause-apart
merged_apart-requires-clause-apart g c =
    sym (c.takes_a.ensures ∙ ap (λ b. differ b (g.O.MergeOperation.connective c.args.op.now true false)) c.requires.off) ∙ c.if-not-takes_a.true

pub replace_between-requires-clause-alike : goal.replace_between-requires-clause-alike
replace_between-requires-clause-alike g c = λ more.
    even-window g.met.T.Ord.total g.T.EntryClone.is_copy g.met.T.EntryClone.copy_is_equal (g.O.MergeOperation.connective c.args.op.now) c.requires.off (joined c.args.list.now) c.args.that.now c.in_ok-made.made.items
    (place_at c.args.list.now c.window.result.0) (place_at c.args.list.now c.window.result.1) c.requires.own_ascending c.window.ensures.window c.in_ok-made.ensures more

pub returns-clause-result : goal.returns-clause-result
returns-clause-result g c =
    let f = g.O.MergeOperation.connective c.args.op.now in
    let keep = sym (c.takes_a.ensures ∙ ap (λ b. differ b (f true false)) c.requires.off) ∙ c.if-not-takes_a.false in
    on_ok_weaker c.replace_between.result
    (λ e. rw e (kept-window g.met.T.Ord.total g.T.EntryClone.is_copy g.met.T.EntryClone.copy_is_equal f c.requires.off (joined c.args.list.now) c.args.that.now c.in_ok-made.made.items
    (place_at c.args.list.now c.window.result.0) (place_at c.args.list.now c.window.result.1) c.requires.own_ascending c.window.ensures.window c.in_ok-made.ensures keep))
    c.replace_between.ensures.items
