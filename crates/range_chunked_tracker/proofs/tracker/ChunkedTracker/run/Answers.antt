use Rattle.std.proofs.Common.{◌∙◌, ◌<◌, length, arith}
use Rattle.range_tracker.proofs.RepliesLemmas.{AreReplies-more, after_replies-more}
use Rattle.range_merge.specs.Boundaries.{member}
use Rattle.std.specs.Ordering.{nat_cmp}
use Rattle.range_chunked_tracker.proofs.tracker.ChunkedTracker.run.Goals as goal

pub loop-i-preserved : goal.loop-i-preserved
loop-i-preserved c =
    let held = c.loop-i.invariant in
    let told = c.apply.ensures in
    let there : c.loop-i.i < length c.loop-i.replies = omega arith in
    record {
      replies = AreReplies-more (member nat_cmp c.args.self.now.boundaries) c.args.commands.now c.loop-i.replies c.loop-i.i _ c.apply.result
          c.args.self.now c.loop-i.self c.apply.new.self c.loop-i-test.true there held.replies held.offsets told.answer held.limit;
      offsets = after_replies-more (member nat_cmp c.args.self.now.boundaries) c.args.commands.now c.loop-i.replies c.loop-i.i _ c.apply.result
          c.args.self.now c.loop-i.self c.apply.new.self c.loop-i-test.true there held.replies held.offsets told.answer told.ok told.unchanged;
      limit = told.limit ∙ held.limit;
    }
