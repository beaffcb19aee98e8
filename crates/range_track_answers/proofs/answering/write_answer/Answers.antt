use Rattle.std.proofs.Common.{refl, sym}
use Rattle.std.proofs.lemmas.Result.{on_ok_weaker}
use Rattle.range_tracker.proofs.OffsetsLemmas.{IsListOf-self}
use Rattle.range_tracker.proofs.RepliesLemmas.{offsets_after_reply}
use Rattle.range_track_answers.specs.Answers.{replied, truth, ranges}
use Rattle.range_track_answers.proofs.answering.write_answer.Goals as goal

pub returns-in-Some-Do-clause-answered : goal.returns-in-Some-Do-clause-answered
returns-in-Some-Do-clause-answered g c =
    let told = c.apply.ensures in
    rw (sym c.in-Some-Do.ensures, c.in-Some-Do.field-0-is) (on_ok_weaker c.write_reply.result
    (λ written. record {
      answer = replied c.apply.result;
      may = told.answer;
      offsets = offsets_after_reply c.in-Some-Do.command c.apply.result c.args.tracker.now c.apply.new.self told.ok told.unchanged;
      written = written;
    })
    c.write_reply.ensures)

pub returns-in-Some-Has-clause-answered : goal.returns-in-Some-Has-clause-answered
returns-in-Some-Has-clause-answered g c =
    rw (sym c.in-Some-Has.ensures, c.in-Some-Has.field-0-is) (on_ok_weaker c.write_truth.result
    (λ written. record { answer = truth c.has.result; may = c.has.ensures; offsets = λ n. refl; written = written })
    c.write_truth.ensures)

pub returns-in-Some-Ranges-clause-answered : goal.returns-in-Some-Ranges-clause-answered
returns-in-Some-Ranges-clause-answered g c =
    let told = c.ranges-in-Some-Ranges.ensures in
    rw (sym c.in-Some-Ranges.ensures, c.in-Some-Ranges.field-0-is) (on_ok_weaker c.write_ranges.result
    (λ written. record {
      answer = ranges c.args.tracker.now.boundaries;
      may = IsListOf-self c.args.tracker.now.boundaries told.sorted;
      offsets = λ n. refl;
      written = rw told.boundaries at written;
    })
    c.write_ranges.ensures)
