use Rattle.std.proofs.Common.{rules, ◌≡◌, ◌+◌, ◌<◌, ◌≤◌, length, ap, subst, sym, ◌∙◌, arith}
use Rattle.std.specs.declared.cmp.Ordering.TheVariants.{Equal}
use Rattle.std.proofs.lemmas.Bool.{eqb-true}
use Rattle.range_merge.specs.Runs.{digits}
use Rattle.range_merge.proofs.Digits.{digits-le, digits-mono}
use Rattle.range_merge.proofs.FirstRuns.{digits-one}
use Rattle.range_merge.proofs.Searches.{Equal-from_test}
use Rattle.range_collections.proofs.CountUpTo.{count_up_to-found}
use Rattle.range_collections.proofs.Cursors.{count-Left, count-Right, count-Both, not_equal-from_test}
use Rattle.range_collections.proofs.Shortest.{count_up_to-le_length}
use Rattle.range_collections.proofs.view.cursor.count_run.Goals as goal

pub returns-then-is_empty-clause-value : goal.returns-then-is_empty-clause-value
returns-then-is_empty-clause-value g c =
    let none = eqb-true (length c.args.items.now) 0 (sym c.is_empty.ensures ∙ c.if-is_empty.true) in
    omega (arith, none, count_up_to-le_length g.T.Ord.cmp c.args.value.now c.args.items.now)

pub compare-requires : goal.compare-requires
compare-requires g c =
    let fits : length c.args.items.now < 18446744073709551616 = search rules in
    omega (arith, c.requires.made, c.in-Left.ensures.comparisons.at_most, digits-le c.in-Left.n, c.in-Some.ensures.lookup.3.0, fits)

pub returns-in-Some-clause-value : goal.returns-in-Some-clause-value
returns-in-Some-clause-value g c =
    let order = g.T.Ord.cmp in
    let equal : order c.in-Some.next.now c.args.value.now ≡ Equal =
    Equal-from_test c.is_eq.result c.compare.result _ c.compare.ensures.answer c.is_eq.ensures c.if-is_eq.true in
    sym (count_up_to-found order g.met.T.Ord.total c.args.value.now c.args.items.now c.in-Left.n c.requires.ascending c.in-Some.ensures.lookup.3.0
    (λ d. subst (λ y. order y c.args.value.now ≡ Equal) (c.in-Some.ensures.lookup.3.1 d) equal))

pub returns-in-Some-clause-comparisons : goal.returns-in-Some-clause-comparisons
returns-in-Some-clause-comparisons g c = record {
  at_least = omega (arith, c.in-Left.ensures.comparisons.at_least, c.compare.ensures.counted);
  at_most =
      omega (arith, c.in-Left.ensures.comparisons.at_most, c.compare.ensures.counted, digits-mono c.in-Left.n (c.in-Left.n + 1) (omega arith));
}

pub returns-in_default-clause-value : goal.returns-in_default-clause-value
returns-in_default-clause-value g c =
    let order = g.T.Ord.cmp in
    let other = not_equal-from_test c.is_eq.result c.compare.result (order c.in-Some.next.now c.args.value.now) c.compare.ensures.answer c.is_eq.ensures c.if-is_eq.false in
    sym (count-Left g.met.T.Ord.total c.args.value.now c.args.items.now (grind (arith, c.if-is_empty.false, c.is_empty.ensures)) c.requires.ascending c.in-Left.n
    c.in-Left.ensures.first (λ _ d equal. other (subst (λ y. order y c.args.value.now ≡ Equal) (sym (c.in-Some.ensures.lookup.3.1 d)) equal)))

pub returns-in_default-2-clause-value : goal.returns-in_default-2-clause-value
returns-in_default-2-clause-value g c =
    let none : length c.args.items.now ≤ c.in-Left.n = rw c.in_default.is at c.get.ensures.lookup.3 in
    sym (count-Left g.met.T.Ord.total c.args.value.now c.args.items.now (grind (arith, c.if-is_empty.false, c.is_empty.ensures)) c.requires.ascending c.in-Left.n
    c.in-Left.ensures.first (λ past d equal. absurd (omega (arith, past, none))))

pub returns-in-Right-clause-value : goal.returns-in-Right-clause-value
returns-in-Right-clause-value g c =
    let found = count-Right g.met.T.Ord.total c.args.value.now c.args.items.now (grind (arith, c.if-is_empty.false, c.is_empty.ensures)) c.requires.ascending
    c.in-Right.field-0 c.in-Right.ensures.first in
    sym found.0

pub returns-in-Right-clause-comparisons : goal.returns-in-Right-clause-comparisons
returns-in-Right-clause-comparisons g c =
    let found = count-Right g.met.T.Ord.total c.args.value.now c.args.items.now (grind (arith, c.if-is_empty.false, c.is_empty.ensures)) c.requires.ascending
    c.in-Right.field-0 c.in-Right.ensures.first in
    record {
      at_least = omega (arith, c.in-Right.ensures.comparisons.at_least);
      at_most = omega (arith, c.in-Right.ensures.comparisons.at_most, ap digits found.1, digits-one);
    }

pub returns-in-Both-clause-value : goal.returns-in-Both-clause-value
returns-in-Both-clause-value g c =
    sym (count-Both g.met.T.Ord.total c.args.value.now c.args.items.now (grind (arith, c.if-is_empty.false, c.is_empty.ensures)) c.requires.ascending c.in-Both.ensures.first)
