use Rattle.std.proofs.Common.{refl, ap, ◌∙◌, ◌&&◌, not}
use Rattle.std.proofs.lemmas.Result.{on_ok_weaker}
use Rattle.std.specs.Ordering.{nat_cmp}
use Rattle.range_merge.specs.Boundaries.{member}
use Rattle.range_tracker.proofs.OffsetsLemmas.{offsets_of-below}
use Rattle.range_track_answers.specs.Answers.{list}
use Rattle.range_track_answers.proofs.answering.write_missing.Goals as goal

pub returns : goal.returns
returns g c =
    let means = c.gaps.ensures in
    on_ok_weaker c.write_gaps.result
    (λ written. record {
      answer = list c.gaps.result;
      may = record {
        sorted = means.sorted;
        offsets = λ n. means.members n ∙ ap (λ b. b && not (member nat_cmp c.args.tracker.now.boundaries n)) (offsets_of-below c.args.len n);
      };
      offsets = λ n. refl;
      written = written;
    })
    c.write_gaps.ensures
