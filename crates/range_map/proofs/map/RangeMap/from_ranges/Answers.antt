use Rattle.std.proofs.Common.{◌≡◌, [], None, Some, cond, sym, ap, ap₂, ◌∙◌, length, arith}
use Rattle.std.proofs.lemmas.List.{nil_from_length}
use Rattle.std.specs.Option.{option_eq}
use Rattle.std.specs.Cmp.Lexicographic.{options_equiv}
use Rattle.std.specs.Vec.Iter.{into_iter_items}
use Rattle.range_map.specs.Steps.{value_at}
use Rattle.range_map.specs.Changed.{is_in_range}
use Rattle.range_map.specs.Pairs.{last_at}
use Rattle.range_map.proofs.LastAt.{last_at-alike}
use Rattle.range_map.proofs.map.RangeMap.from_ranges.Goals as goal

pub loop-range-init : goal.loop-range-init
loop-range-init g c =
    let made = c.into_iter-range-iterator.ensures.into_iter_gives in
    record {
      few = omega (arith, ap length made.0);
      len = made.1 ∙ c.args.ranges.ok.0 ∙ sym (ap length made.0);
      values = λ x.
          ap₂ (λ qs p. option_eq g.V.PartialEq.eq (last_at g.K.Ord.cmp qs p x) (last_at g.K.Ord.cmp c.args.ranges.items None x)) made.0 (c.new-map.ensures.values x)
          ∙ (options_equiv g.met.V.Eq.laws).refl (last_at g.K.Ord.cmp c.args.ranges.items None x);
    }

pub loop-range-preserved : goal.loop-range-preserved
loop-range-preserved g c =
    let next = c.in-Some.ensures.steps in
    let order = g.K.Ord.cmp in
    let E = g.V.PartialEq.eq in
    let rest = into_iter_items c.next.new.self in
    record {
      few = omega (arith, c.loop-range.invariant.few, ap length next.0);
      len = omega (arith, next.1, c.loop-range.invariant.len, ap length next.0);
      values = λ x.
          let new = value_at order c.insert.new.self x in
          let was = value_at order c.loop-range.map x in
          let put = cond (is_in_range order c.in-Some.range.start (Some c.in-Some.range.end) x) (Some c.in-Some.value) was in
          (options_equiv g.met.V.Eq.laws).congr (last_at order rest new x) (last_at order rest put x) (last_at order c.args.ranges.items None x)
          (last_at-alike order E g.met.V.Eq.laws rest new put x (c.in_ok-insert.ensures.values x))
          ∙ ap (λ qs. option_eq E (last_at order qs was x) (last_at order c.args.ranges.items None x)) (sym next.0)
          ∙ c.loop-range.invariant.values x;
    }

pub returns-clause-values : goal.returns-clause-values
returns-clause-values g c = λ x.
    let none : into_iter_items c.loop-range.range-iterator ≡ [] = nil_from_length _ (sym c.loop-range.invariant.len ∙ c.in-None.ensures.steps.0) in
    ap (λ qs. option_eq g.V.PartialEq.eq (last_at g.K.Ord.cmp qs (value_at g.K.Ord.cmp c.loop-range.map x) x) (last_at g.K.Ord.cmp c.args.ranges.items None x)) (sym none)
    ∙ c.loop-range.invariant.values x

pub returns-in_err-insert-clause-succeeds : goal.returns-in_err-insert-clause-succeeds
returns-in_err-insert-clause-succeeds g c = λ none.
    absurd (omega (arith, none, c.loop-range.invariant.few, ap length c.in-Some.ensures.steps.0))
