use Rattle.std.proofs.Common.{◌∙◌, ap, sym, subst}
use Rattle.std.specs.Str.Iter.{char_indices_rest, char_indices_offset}
use Rattle.range_collections.specs.ParseErrors.{IsFaultIn}
use Rattle.range_collections.specs.declared.parse.ParseError.TheVariants.{Malformed}
use Rattle.range_collections.specs.Scanning.{after}
use Rattle.range_collections.specs.declared.parse.State.TheVariants.{First}
use Rattle.range_collections.proofs.Fronts.{IsReadTo, fault_there, fault_at_end, whole_text, nothing_read, one_read}
use Rattle.range_collections.proofs.parse.fault_in.Goals as goal

pub loop-at-init : goal.loop-at-init
loop-at-init c =
    let whole = ap (λ s. char_indices_rest s) c.into_iter-at-iterator.ensures.into_iter_gives ∙ c.char_indices-at-items.ensures.rest in
    let start = ap (λ s. char_indices_offset s) c.into_iter-at-iterator.ensures.into_iter_gives ∙ c.char_indices-at-items.ensures.offset in
    subst (λ rest. IsReadTo c.args.text.now rest c.into_iter-at-iterator.result.at First) (sym whole)
    (subst (λ at. IsReadTo c.args.text.now c.args.text.now at First) (sym start) (nothing_read c.args.text.now c.utf8.text))

pub loop-at-preserved : goal.loop-at-preserved
loop-at-preserved c =
    one_read c.args.text.now c.loop-at.at-iterator.rest.now c.next.new.self.rest.now c.loop-at.at-iterator.at c.next.new.self.at c.in-Some.c c.loop-at.state c.in-Some-after.next
    c.loop-at.invariant c.in-Some.ensures.steps.1 c.in-Some.ensures.steps.2
    (sym c.in-Some-after.is ∙ c.after.ensures ∙ ap (after c.loop-at.state) c.of.ensures)

pub returns-in-None-after : goal.returns-in-None-after
returns-in-None-after c =
    subst (λ at. IsFaultIn c.args.text.now (Malformed at c.expected-expected.result)) (sym c.in-Some.ensures.steps.0)
    (fault_there c.args.text.now c.loop-at.at-iterator.rest.now c.loop-at.at-iterator.at c.loop-at.state c.utf8.text c.loop-at.invariant c.next.new.self.rest.now c.in-Some.c c.expected-expected.result
    c.in-Some.ensures.steps.1 (sym c.in-None-after.is ∙ c.after.ensures ∙ ap (after c.loop-at.state) c.of.ensures) c.expected-expected.ensures)

pub returns-then-is_end : goal.returns-then-is_end
returns-then-is_end c =
    whole_text c.args.text.now c.loop-at.at-iterator.rest.now c.loop-at.at-iterator.at c.loop-at.state c.utf8.text c.loop-at.invariant c.in-None.ensures.steps.0
    ∙ sym c.is_end.ensures ∙ c.if-is_end.true

pub returns-else-is_end : goal.returns-else-is_end
returns-else-is_end c =
    fault_at_end c.args.text.now c.loop-at.at-iterator.rest.now c.loop-at.at-iterator.at c.loop-at.state c.utf8.text c.loop-at.invariant c.in-None.ensures.steps.0
    c.expected-expected-else-is_end.result (sym c.is_end.ensures ∙ c.if-is_end.false) c.expected-expected-else-is_end.ensures
