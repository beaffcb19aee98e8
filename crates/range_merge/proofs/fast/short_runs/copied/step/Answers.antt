use Rattle.std.proofs.Common.{◌+◌, ap, ◌∙◌, arith}
use mir.Val.{bool_byte}
use Rattle.range_merge.specs.Boundaries.{is_odd}
use Rattle.range_merge.proofs.EvenSteps.{odd-then, reads-one}
use Rattle.range_merge.proofs.CopySteps.{byte-le, byte-ge, picked}
use Rattle.range_merge.proofs.fast.short_runs.copied.step.Goals as goal

pub returns-clause-put : goal.returns-clause-put
returns-clause-put g c =
    let at = c.args.at in
    let i_is = ap (λ b. at.i + bool_byte b) c.is_le-3.ensures ∙ ap (λ n. at.i + n) (byte-le at.next) in
    rw (picked _ _ _ _ c.one_of-first.ensures.picked c.is_le.ensures, ← c.is_taken-takes.ensures (is_odd at.i) (odd-then at.next at.i _ i_is)) c.put-k.ensures.put

pub returns-clause-at_most : goal.returns-clause-at_most
returns-clause-at_most g c =
    let at = c.args.at in
    let i_is = ap (λ b. at.i + bool_byte b) c.is_le-3.ensures ∙ ap (λ n. at.i + n) (byte-le at.next) in
    let j_is = ap (λ b. at.j + bool_byte b) c.is_ge-2.ensures ∙ ap (λ n. at.j + n) (byte-ge at.next) in
    omega (arith, i_is, j_is, reads-one at.next, c.put-k.ensures.within)
