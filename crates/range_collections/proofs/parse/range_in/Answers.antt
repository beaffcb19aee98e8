use Rattle.std.proofs.Common.{◌∙◌, None, Some, lit<}
use Rattle.std.proofs.lemmas.Str.Pattern.{strip_prefix_char}
use Rattle.range_collections.proofs.Reading.{range_in-no_dot, range_in-no_start, range_in-one_dot, range_in-both}
use Rattle.range_collections.proofs.parse.range_in.Goals as goal

pub returns-in_err-start : goal.returns-in_err-start
returns-in_err-start g c =
    range_in-no_dot g.T.WholeNumber.number c.args.part.now c.trim.result.now c.from_residual.result c.from_residual.ensures c.trim.ensures.trim
    (c.in_err-start.ensures.byte (lit< tt) (λ w o f. f))

pub returns-in_err-start-2 : goal.returns-in_err-start-2
returns-in_err-start-2 g c =
    let parts = c.in_ok-start.ensures.byte (lit< tt) (λ w o f. f) in
    range_in-no_start g.T.WholeNumber.number c.args.part.now c.trim.result.now c.in_ok-start.start.now c.from_residual-in_err-start-2.result
    c.from_residual-in_err-start-2.ensures c.trim.ensures.trim parts.0 c.in_err-start-2.ensures

pub returns-in_err-strip_prefix : goal.returns-in_err-strip_prefix
returns-in_err-strip_prefix g c =
    let parts = c.in_ok-start.ensures.byte (lit< tt) (λ w o f. f) in
    range_in-one_dot g.T.WholeNumber.number c.args.part.now c.trim.result.now c.in_ok-start.start.now c.in_ok-start.after.now c.in_ok-start-2.start
    c.from_residual-in_err-strip_prefix.result c.from_residual-in_err-strip_prefix.ensures c.trim.ensures.trim parts.0 parts.1 c.in_ok-start-2.ensures
    (strip_prefix_char 46 c.in_ok-start.after.now None c.in_err-strip_prefix.ensures.cases (lit< tt))

pub returns : goal.returns
returns g c =
    let parts = c.in_ok-start.ensures.byte (lit< tt) (λ w o f. f) in
    c.range_up_to.ensures
    ∙ range_in-both g.T.WholeNumber.number c.args.part.now c.trim.result.now c.in_ok-start.start.now c.in_ok-start.after.now c.in_ok-strip_prefix.field-0.now c.in_ok-start-2.start
    c.trim.ensures.trim parts.0 parts.1 c.in_ok-start-2.ensures (strip_prefix_char 46 c.in_ok-start.after.now (Some c.in_ok-strip_prefix.field-0) c.in_ok-strip_prefix.ensures.cases (lit< tt))
