use Rattle.std.proofs.Common.{rules, ◌≡◌, ◌+◌, ◌<◌, ◌∷◌, length, ap, subst, sym, ◌∙◌, arith}
use Rattle.std.specs.declared.cmp.Ordering.TheVariants.{Greater}
use Rattle.range_merge.specs.Boundaries.{IsAscending, count_up_to}
use Rattle.range_merge.proofs.Digits.{digits-mono}
use Rattle.range_merge.proofs.FirstRuns.{digits-one}
use Rattle.range_merge.proofs.Gallops.{Greater-from_test}
use Rattle.range_collections.proofs.Ascending.{IsAscending-tail}
use Rattle.range_collections.proofs.CountUpTo.{count_up_to-cons_in}
use Rattle.range_collections.proofs.Cursors.{count-place, is_le-from_test}
use Rattle.range_collections.proofs.Shortest.{count_up_to-le_length}
use Rattle.range_collections.proofs.view.cursor.count_ahead.Goals as goal

pub count_run-requires-clause-ascending : goal.count_run-requires-clause-ascending
count_run-requires-clause-ascending g c =
    IsAscending-tail g.T.Ord.cmp c.in-Some.first.now c.in-Some.rest.now
    (subst (λ xs. IsAscending g.T.Ord.cmp xs) c.in-Some.ensures.cases.0 c.requires.ascending)

pub overflow_add-result : goal.overflow_add-result
overflow_add-result g c =
    let fits : length c.args.items.now < 18446744073709551616 = search rules in
    omega (arith, c.count_run.ensures.value, count_up_to-le_length g.T.Ord.cmp c.args.value.now c.in-Some.rest.now, c.in-Some.ensures.cases.1, fits)

pub returns-in-Some-clause-value : goal.returns-in-Some-clause-value
returns-in-Some-clause-value g c =
    let order = g.T.Ord.cmp in
    let first = is_le-from_test c.is_gt.result c.compare.result (order c.in-Some.first.now c.args.value.now) c.compare.ensures.answer c.is_gt.ensures c.if-not-is_gt.true in
    let all = ap (λ xs. count_up_to order xs c.args.value.now) c.in-Some.ensures.cases.0 ∙ count_up_to-cons_in order c.in-Some.first.now c.in-Some.rest.now c.args.value.now first in
    omega (arith, c.count_run.ensures.value, all)

pub returns-in-Some-clause-comparisons : goal.returns-in-Some-clause-comparisons
returns-in-Some-clause-comparisons g c =
    let r = c.count_run.result in
    record {
      at_least = omega (arith, c.compare.ensures.counted, c.count_run.ensures.comparisons.at_least);
      at_most =
          omega (
            arith,
            c.compare.ensures.counted,
            c.count_run.ensures.comparisons.at_most,
            digits-mono r (1 + r) (omega arith),
            digits-mono 1 (1 + r) (omega arith),
            digits-one,
          );
    }

pub returns-in_default-clause-value : goal.returns-in_default-clause-value
returns-in_default-clause-value g c =
    let order = g.T.Ord.cmp in
    let more : order c.in-Some.first.now c.args.value.now ≡ Greater =
    Greater-from_test c.is_gt.result c.compare.result _ c.compare.ensures.answer c.is_gt.ensures c.if-not-is_gt.false in
    sym (ap (λ xs. count_up_to order xs c.args.value.now) c.in-Some.ensures.cases.0
    ∙ count-place g.met.T.Ord.total c.args.value.now (c.in-Some.first.now ∷ c.in-Some.rest.now)
    (subst (λ xs. IsAscending order xs) c.in-Some.ensures.cases.0 c.requires.ascending) 0 (omega arith)
    (λ none. absurd (omega (arith, none))) (λ _ d. more))

pub returns-in_default-2-clause-value : goal.returns-in_default-2-clause-value
returns-in_default-2-clause-value g c =
    let none : length c.args.items.now ≡ 0 = rw c.in_default.is at c.split_first.ensures.cases in
    omega (arith, none, count_up_to-le_length g.T.Ord.cmp c.args.value.now c.args.items.now)
