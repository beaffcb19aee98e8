use Rattle.std.proofs.Common.{ap, ◌∙◌, ◌&&◌, not}
use Rattle.std.proofs.lemmas.Result.{IfOk-weaker}
use Rattle.range_tracker.proofs.OffsetsLemmas.{offsets_of-below}
use Rattle.range_merge.specs.Boundaries.{member}
use Rattle.std.specs.Ordering.{nat_cmp}
use Rattle.range_chunked_tracker.proofs.tracker.ChunkedTracker.missing.Goals as goal

pub returns : goal.returns
returns c =
    let means = c.gaps-gaps.ensures in
    record {
      missing = IfOk-weaker c.from_parts.result _ _
          (λ set same. rw same (record {
            sorted = means.sorted;
            offsets = λ n. means.members n ∙ ap (λ b. b && not (member nat_cmp c.args.self.now.boundaries n)) (offsets_of-below c.args.len n);
          }))
          c.from_parts.ensures;
    }
