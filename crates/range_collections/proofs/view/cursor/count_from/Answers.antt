use Rattle.std.proofs.Common.{rules, ◌≡◌, ◌<◌, ◌≤◌, drop, true, length, ap, sym, ◌∙◌, arith}
use Rattle.std.specs.declared.cmp.Ordering.TheVariants.{Greater}
use Rattle.std.specs.Ordering.{is_le}
use Rattle.range_merge.specs.Boundaries.{count_up_to}
use Rattle.range_merge.proofs.Digits.{digits-le, digits-mono}
use Rattle.range_merge.proofs.Gallops.{Greater-from_test}
use Rattle.range_collections.proofs.CountUpTo.{count_up_to-split}
use Rattle.range_collections.proofs.Cursors.{count-from, count-onward, is_le-from_test, HoldsAt-front, less-than_above}
use Rattle.range_collections.proofs.Shortest.{count_up_to-le_length}
use Rattle.range_collections.proofs.view.cursor.count_from.Goals as goal

pub overflow_add-result : goal.overflow_add-result
overflow_add-result g c =
    let ahead = c.count_ahead-ahead in
    let fits : length c.args.items.now < 18446744073709551616 = search rules in
    omega (
      arith,
      ahead.ensures.value,
      count_up_to-le_length g.T.Ord.cmp c.args.value.now c.split_at.result.1.now,
      c.split_at.ensures.back_len,
      fits,
    )

pub returns-then-ahead-gt0-clause-value : goal.returns-then-ahead-gt0-clause-value
returns-then-ahead-gt0-clause-value g c =
    let order = g.T.Ord.cmp in
    let items = c.args.items.now in
    let value = c.args.value.now in
    let back : c.count_ahead-ahead.result ≡ count_up_to order (drop c.args.place items) value =
    c.count_ahead-ahead.ensures.value ∙ ap (λ xs. count_up_to order xs value) c.split_at.ensures.back in
    omega (
      arith,
      back,
      count-onward g.met.T.Ord.total value items c.requires.ascending c.args.place c.requires.within (omega (arith, back, c.if-ahead-gt0.true)),
    )

pub returns-then-ahead-gt0-clause-comparisons : goal.returns-then-ahead-gt0-clause-comparisons
returns-then-ahead-gt0-clause-comparisons g c =
    let ahead = c.count_ahead-ahead in
    let most : ahead.result ≤ length c.args.items.now =
    omega (arith, ahead.ensures.value, count_up_to-le_length g.T.Ord.cmp c.args.value.now c.split_at.result.1.now, c.split_at.ensures.back_len) in
    record {
      at_least = omega (arith, ahead.ensures.comparisons.at_least);
      at_most = omega (arith, ahead.ensures.comparisons.at_most, digits-mono ahead.result (length c.args.items.now) most);
    }

pub compare-requires : goal.compare-requires
compare-requires g c =
    let ahead = c.count_ahead-ahead in
    omega (arith, c.requires.made, c.if-ahead-gt0.false, ahead.ensures.comparisons.at_most, digits-le ahead.result)

pub count_up_to-requires-clause-made : goal.count_up_to-requires-clause-made
count_up_to-requires-clause-made g c =
    let ahead = c.count_ahead-ahead in
    omega (arith, c.requires.made, c.if-ahead-gt0.false, ahead.ensures.comparisons.at_most, digits-le ahead.result, c.compare.ensures.counted)

pub returns-in-Some-clause-value : goal.returns-in-Some-clause-value
returns-in-Some-clause-value g c =
    sym (count_up_to-split g.T.Ord.cmp c.args.value.now c.args.items.now c.count_up_to.result
    c.count_up_to.ensures.within c.count_up_to.ensures.before c.count_up_to.ensures.from)

pub returns-in-Some-clause-onward : goal.returns-in-Some-clause-onward
returns-in-Some-clause-onward g c =
    let order = g.T.Ord.cmp in
    let value = c.args.value.now in
    let more : order c.in-Some.last.now value ≡ Greater =
    Greater-from_test c.is_gt.result c.compare.result _ c.compare.ensures.answer c.is_gt.ensures c.if-is_gt.true in
    let some : 0 < c.args.place = omega (arith, c.in-Some.ensures.item.3.0, c.split_at.ensures.front_len) in
    let here = HoldsAt-front (λ y. order y value ≡ Greater) c.args.items.now c.split_at.result.0.now c.args.place c.in-Some.last.now some
    c.split_at.ensures.front c.split_at.ensures.front_len c.in-Some.ensures.item.3.1 more in
    λ onward. absurd (omega (arith, onward, less-than_above g.met.T.Ord.total value c.args.items.now c.args.place c.count_up_to.result value some c.count_up_to.ensures.before here))

pub returns-in-Some-clause-comparisons : goal.returns-in-Some-clause-comparisons
returns-in-Some-clause-comparisons g c =
    let ahead = c.count_ahead-ahead in
    record {
      at_least = omega (arith, ahead.ensures.comparisons.at_least, c.compare.ensures.counted, c.count_up_to.ensures.comparisons.at_least);
      at_most =
          omega (
            arith,
            c.if-ahead-gt0.false,
            ahead.ensures.comparisons.at_most,
            digits-le ahead.result,
            c.compare.ensures.counted,
            c.count_up_to.ensures.comparisons.at_most,
          );
    }

pub returns-in_default-clause-value : goal.returns-in_default-clause-value
returns-in_default-clause-value g c =
    let order = g.T.Ord.cmp in
    let items = c.args.items.now in
    let value = c.args.value.now in
    let back : c.count_ahead-ahead.result ≡ count_up_to order (drop c.args.place items) value =
    c.count_ahead-ahead.ensures.value ∙ ap (λ xs. count_up_to order xs value) c.split_at.ensures.back in
    let low = is_le-from_test c.is_gt.result c.compare.result (order c.in-Some.last.now value) c.compare.ensures.answer c.is_gt.ensures c.if-is_gt.false in
    omega (
      arith,
      back,
      c.if-ahead-gt0.false,
      count-from g.met.T.Ord.total value items c.requires.ascending c.args.place c.requires.within
          (λ some. HoldsAt-front (λ y. is_le (order y value) ≡ true) items c.split_at.result.0.now c.args.place c.in-Some.last.now some
          c.split_at.ensures.front c.split_at.ensures.front_len c.in-Some.ensures.item.3.1 low),
    )

pub returns-in_default-clause-comparisons : goal.returns-in_default-clause-comparisons
returns-in_default-clause-comparisons g c =
    let ahead = c.count_ahead-ahead in
    record {
      at_least = omega (arith, ahead.ensures.comparisons.at_least, c.compare.ensures.counted);
      at_most =
          omega (arith, c.if-ahead-gt0.false, ahead.ensures.comparisons.at_most, digits-le ahead.result, c.compare.ensures.counted);
    }

pub returns-in_default-2-clause-comparisons : goal.returns-in_default-2-clause-comparisons
returns-in_default-2-clause-comparisons g c =
    let ahead = c.count_ahead-ahead in
    record {
      at_least = omega (arith, ahead.ensures.comparisons.at_least);
      at_most = omega (arith, c.if-ahead-gt0.false, ahead.ensures.comparisons.at_most, digits-le ahead.result);
    }
