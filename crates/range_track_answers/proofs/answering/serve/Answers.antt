use Rattle.std.proofs.Common.{refl, ◌∙◌}
use Rattle.std.specs.Ordering.{nat_cmp}
use Rattle.range_merge.specs.Boundaries.{member}
use Rattle.std.proofs.lemmas.Option.{IfSome_then}
use Rattle.std.proofs.lemmas.Result.{on_ok_weaker}
use Rattle.range_track_answers.proofs.Served.{Served-start, Served-more, Served-end, newline_read, IfSome-from}
use Rattle.range_track_answers.proofs.answering.serve.Goals as goal

pub loop-init : goal.loop-init
loop-init g c = record {
  limit = refl;
  served = IfSome-from (g.R.Read.remaining c.args.reader) _
      (λ text is. (
        text,
        c.bytes-bytes.ensures ∙ is,
        Served-start c.args.tracker.now.limit (member nat_cmp c.args.tracker.now.boundaries) text (g.W.Write.contents c.args.out.now),
      ));
}

pub loop-preserved : goal.loop-preserved
loop-preserved g c =
    let held = c.loop.invariant in
    let answered = rw (c.as_slice.ensures.value, held.limit) at c.in_ok-answer-in-Newline.ensures.answered in
    record {
      limit = c.answer.ensures.limit ∙ held.limit;
      served = IfSome_then (g.R.Read.remaining c.args.reader) held.served
          (λ text left.
          let read = rw (left.1, c.in-Newline.is) at c.in_ok-read_line.ensures.read in
          let cut = newline_read _ left.0 _ read in (
            cut.0,
            cut.1,
            Served-more c.args.tracker.now.limit (member nat_cmp c.args.tracker.now.boundaries) text left.0 cut.2.0 cut.0 _ _ _ _ _ _ left.2 cut.2.1 cut.2.2 cut.2.3 answered,
          ));
    }

pub returns-in-Input : goal.returns-in-Input
returns-in-Input g c =
    let held = c.loop.invariant in
    record {
      answers = on_ok_weaker c.answer_last.result
          (λ last. IfSome_then (g.R.Read.remaining c.args.reader) held.served
          (λ text left.
          let read = rw (left.1, c.in-Input.is) at c.in_ok-read_line.ensures.read in
          Served-end c.args.tracker.now.limit (member nat_cmp c.args.tracker.now.boundaries) text left.0 _ _ _ _ _ left.2 read.0 read.1 (rw (c.as_slice-in-Input.ensures.value, held.limit) at last)))
          c.answer_last.ensures;
    }
