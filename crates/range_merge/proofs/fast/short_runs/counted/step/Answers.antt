use Rattle.std.proofs.Common.{◌+◌, ◌≤◌, length, refl, sym, ap, ◌∙◌, arith}
use Rattle.std.proofs.lemmas.Option.{slice_get_read}
use Rattle.std.specs.declared.cmp.Ordering.{Ordering}
use Rattle.std.specs.declared.cmp.Ordering.TheVariants.{Less, Equal, Greater}
use Rattle.range_merge.specs.ShortRuns.{lefts_of, rights_of}
use mir.Val.{bool_byte}
use Rattle.range_merge.proofs.CountSteps.{Counts-step}
use Rattle.range_merge.proofs.CopySteps.{FirstsStand-of, at-most_read, byte-le, byte-ge, is_taken, slice_get-drop}
use Rattle.range_merge.proofs.fast.short_runs.counted.step.Goals as goal

at-most_one : (how : Ordering) → lefts_of how ≤ 1
at-most_one Less = omega arith
at-most_one Equal = omega arith
at-most_one Greater = omega arith

at-most_one' : (how : Ordering) → rights_of how ≤ 1
at-most_one' Less = omega arith
at-most_one' Equal = omega arith
at-most_one' Greater = omega arith

pub returns-clause-step : goal.returns-clause-step
returns-clause-step g c =
    let at = c.args.at in
    let a = c.args.a.now in
    let b = c.args.b.now in
    let f = g.O.MergeOperation.connective c.args.op.now in
    let i_is = ap (λ b. at.i + bool_byte b) c.is_le.ensures ∙ ap (λ n. at.i + n) (byte-le at.next) in
    let j_is = ap (λ b. at.j + bool_byte b) c.is_ge.ensures ∙ ap (λ n. at.j + n) (byte-ge at.next) in
    Counts-step g.C.Compare.order f a b at.i at.j _ (omega (arith, c.requires.left_some)) (omega (arith, c.requires.right_some)) i_is j_is
    (is_taken f at.next at.i at.j _ _ c.is_on-on.result c.is_on.result i_is j_is c.is_on-on.ensures c.is_on.ensures) refl
    (FirstsStand-of g.C.Compare.order _ _ c.index-a-i.result c.index-b-j.result _
    (slice_get-drop a _ _ (slice_get_read a (length a) _ _ refl (omega (arith, i_is, at-most_one at.next, c.requires.left_some)) c.index-a-i.is))
    (slice_get-drop b _ _ (slice_get_read b (length b) _ _ refl (omega (arith, j_is, at-most_one' at.next, c.requires.right_some)) c.index-b-j.is))
    (sym c.compare-next.ensures.answer))
    c.compare-next.ensures.counted

pub returns-clause-at_most : goal.returns-clause-at_most
returns-clause-at_most g c =
    let at = c.args.at in
    let i_is = ap (λ b. at.i + bool_byte b) c.is_le.ensures ∙ ap (λ n. at.i + n) (byte-le at.next) in
    let j_is = ap (λ b. at.j + bool_byte b) c.is_ge.ensures ∙ ap (λ n. at.j + n) (byte-ge at.next) in
    at-most_read _ at.next at.i at.j at.k i_is j_is
