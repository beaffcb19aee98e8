use Rattle.std.proofs.Common.{◌≢◌, sym, ap, ◌∙◌, [], ◌∷◌, ◌++◌, take, append_assoc, arith}
use Rattle.std.specs.Io.Iter.{bytes_remaining}
use Rattle.std.proofs.lemmas.List.Elements.{All-nil, All-push, All-same, All-take}
use Rattle.std.proofs.lemmas.Option.{IfSome_then}
use Rattle.range_track_answers.proofs.ReadLemmas.{IfSome-start, more_read, all_read, take-take_append}
use Rattle.range_track_answers.proofs.line.read_line.Goals as goal

pub loop-byte-init : goal.loop-byte-init
loop-byte-init g c = ([], All-nil (λ b. b ≢ 10), c.clear.ensures, IfSome-start (bytes_remaining g.R.Read.remaining c.args.bytes.now))

pub loop-byte-preserved : goal.loop-byte-preserved
loop-byte-preserved g c =
    let held = c.loop-byte.invariant in
    let byte = c.in_ok-byte.byte in
    let read = rw c.in_ok-byte.was at c.in-Some.ensures.steps in (
      held.0 ++ byte ∷ [],
      All-push (λ b. b ≢ 10) held.0 byte held.1 (λ e. omega (arith, c.in_default-2)),
      c.keep.ensures ∙ ap (λ front. take 65 (front ++ byte ∷ [])) held.2 ∙ take-take_append 65 held.0 (byte ∷ []),
      IfSome_then (bytes_remaining g.R.Read.remaining c.args.bytes.now) held.3
          (λ text left.
          let more = more_read _ _ byte held.0 left.0 text read left.1 left.2 in
          (more.0, more.1, more.2 ∙ sym (append_assoc held.0 (byte ∷ []) more.0))),
    )

pub returns-in-10 : goal.returns-in-10
returns-in-10 g c =
    let held = c.loop-byte.invariant in
    let read = rw (c.in_ok-byte.was, c.in-10.is) at c.in-Some.ensures.steps in
    record {
      line = All-same (λ b. b ≢ 10) _ _ held.2 (All-take (λ b. b ≢ 10) 65 held.0 held.1);
      read = IfSome_then (bytes_remaining g.R.Read.remaining c.args.bytes.now) held.3
          (λ text left.
          let more = more_read _ _ 10 held.0 left.0 text read left.1 left.2 in
          rw more.1 (held.0, held.1, more.2, held.2));
    }

pub returns : goal.returns
returns g c =
    let held = c.loop-byte.invariant in
    record {
      line = All-same (λ b. b ≢ 10) _ _ held.2 (All-take (λ b. b ≢ 10) 65 held.0 held.1);
      read = IfSome_then (bytes_remaining g.R.Read.remaining c.args.bytes.now) held.3
          (λ text left.
          let all = all_read _ held.0 left.0 text c.in_default.ensures.steps left.1 left.2 in
          (All-same (λ b. b ≢ 10) text held.0 all held.1, held.2 ∙ ap (λ line. take 65 line) (sym all)));
    }
