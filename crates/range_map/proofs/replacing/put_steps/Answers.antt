use Rattle.std.proofs.Common.{◌<◌, ◌-◌, length, sym, ap, ◌∙◌, arith}
use Rattle.std.proofs.lemmas.Result.{on_ok_weaker}
use Rattle.range_collections.specs.Splicing.{spliced}
use Rattle.range_list.specs.Lists.{joined}
use Rattle.range_map.specs.Places.{span_of, end_step}
use Rattle.range_map.proofs.Put.{end_step-last}
use Rattle.range_map.proofs.Retained.{item_at}
use Rattle.range_map.proofs.replacing.put_steps.Goals as goal

pub returns-then-is_before-clause-items : goal.returns-then-is_before-clause-items
returns-then-is_before-clause-items g c =
    let items = joined c.args.steps.now in
    let span = span_of c.args.steps.now c.args.places in
    let less = c.is_before.ensures.some c.if-is_before.true in
    let within : span.to - 1 < length items = omega (arith, less, c.requires.within) in
    let d = (item_at items (span.to - 1) within).0 in
    on_ok_weaker c.splice_last.result
    (λ is.
    is
    ∙ ap (λ last. spliced items span.from span.to c.args.first last)
    (end_step-last items span c.in-Some.key c.args.copied d less c.requires.within ∙ ap (λ e. end_step items span e c.args.copied) (sym c.in-Some.is)))
    (c.splice_last.ensures.items d)
