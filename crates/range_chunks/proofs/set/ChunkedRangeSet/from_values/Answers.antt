use Rattle.std.proofs.Common.{◌∙◌, ◌||◌, sym, ap, take, arith}
use Rattle.std.specs.List.{list_any}
use Rattle.std.specs.Ordering.{is_eq}
use Rattle.std.proofs.lemmas.List.{take_all}
use Rattle.std.proofs.lemmas.List.Folds.{list_any_more}
use Rattle.range_chunks.proofs.OneValue.{equal_to_one}
use Rattle.range_chunks.proofs.set.ChunkedRangeSet.from_values.Goals as goal

pub loop-value-preserved : goal.loop-value-preserved
loop-value-preserved g c x v =
    let is = λ (value : g.row.T.Denot). is_eq (g.T.Ord.cmp value x) in
    c.in_ok-put_value.ensures x v ∙ ap (λ t. t || is c.value-item.result) (c.loop-value.invariant x v)
    ∙ ap (λ (value : g.row.T.Denot). list_any is (take c.loop-value.value-index c.args.values.now) || is value) c.value-item.is
    ∙ sym (list_any_more is c.args.values.now c.loop-value.value-index c.value-item.result (omega arith))

pub returns : goal.returns
returns g c = λ x v.
    equal_to_one g.T.Ord.cmp c.args.values.now x _
    (c.loop-value.invariant x v
    ∙ ap (list_any (λ (value : g.row.T.Denot). is_eq (g.T.Ord.cmp value x))) (take_all c.loop-value.value-index c.args.values.now c.loop-value-test.false))
