use Rattle.std.proofs.Common.{◌≡◌, ◌≤◌, ◌+◌, ◌<◌, ◌%◌, ◌++◌, false, sym, ap, ◌∙◌, refl, subst, take, drop, length, arith}
use Rattle.std.proofs.lemmas.List.{append-nil, drop_all, length-drop, length-take-le}
use Rattle.range_merge.specs.Boundaries.{IsAscending}
use Rattle.range_collections.proofs.Points.{even-from_test, is_odd-at_zero}
use Rattle.range_list.specs.Lists.{joined, place_at}
use Rattle.range_list.proofs.Placed.{place_at-within}
use Rattle.range_chunks.proofs.Retained.{first-range, behind-last, later-step, ranges-step, sorted-step, length-step}
use Rattle.range_chunks.proofs.retaining.retain_ranges.Goals as goal

pub loop-at-preserved : goal.loop-at-preserved
loop-at-preserved g c =
    let order = g.T.Ord.cmp in
    let keep = g.F.RangeFilter.is_kept c.args.by.now in
    let inv = c.loop-at.invariant in
    let old = joined c.args.list.now in
    let items = joined c.loop-at.list in
    let lists = c.keep_range-end.new.list in
    let new = joined lists in
    let n = place_at c.loop-at.list c.loop-at.end in
    let i = place_at c.loop-at.list c.loop-at.at in
    let m = place_at lists c.keep_range-end.result in
    let j = place_at lists c.range_end-at.result in
    let kept = c.keep_range-end.ensures in
    let here = kept.places c.loop-at.at inv.at_place in
    let more : i < length items = omega (arith, c.is_before.ensures.some c.loop-at-test.true, c.end.ensures.all) in
    let two : i + 1 < length items → j ≡ i + 2 = λ l. c.range_end-at.ensures.two (omega (arith, l, here.1, kept.len)) ∙ ap (λ k. k + 2) here.1 in
    let one : length items ≤ i + 1 → j ≡ i + 1 = λ l. c.range_end-at.ensures.one (omega (arith, l, here.1, kept.len)) ∙ ap (λ k. k + 1) here.1 in
    let first = first-range (drop i items) (omega (arith, more, length-drop i items)) in
    let r = first.0 in
    let went = kept.kept r first.1.0 first.1.1 in
    let even : i % 2 ≡ 0 = even-from_test false i (sym (inv.even more)) refl in
    let even_end : n % 2 ≡ 0 = even-from_test false n (sym (inv.even_end more)) refl in
    let even_front : length (take n items) % 2 ≡ 0 = omega (arith, even_end, length-take-le n items (omega (arith, inv.ordered, inv.within))) in
    let long = length-step order keep old items new n m i j inv.len more kept.len two one inv.later kept.later r first.1.2 went inv.ordered (kept.after r first.1.0 first.1.1) in
    record {
      at_place = c.range_end-at.ensures.place;
      end_place = kept.place;
      ordered = long.0;
      len = kept.len ∙ inv.len;
      within = place_at-within lists c.range_end-at.result c.range_end-at.ensures.place;
      even = λ l. is_odd-at_zero j (omega (arith, even, two (behind-last order keep old items new n m i j inv.len more kept.len two one inv.later kept.later l)));
      even_end = λ l. is_odd-at_zero m (omega (arith, even_end, long.1 l));
      later = later-step order keep old items new n m i j inv.len more kept.len two one inv.later kept.later;
      sorted = sorted-step order keep old items new n m i j inv.len more kept.len two one inv.later kept.later r first.1.2 went inv.sorted;
      ranges = ranges-step order keep old items new n m i j inv.len more kept.len two one inv.later kept.later r first.1.2 went even_front even inv.ranges;
    }

pub returns-clause-sorted : goal.returns-clause-sorted
returns-clause-sorted g c =
    let items = joined c.loop-at.list in
    let n = place_at c.loop-at.list c.loop-at.end in
    let i = place_at c.loop-at.list c.loop-at.at in
    let past : length items ≤ i = omega (arith, c.is_before.ensures.none c.loop-at-test.false, c.end.ensures.all) in
    subst (λ xs. IsAscending g.T.Ord.cmp xs) (ap (λ xs. take n items ++ xs) (drop_all i items past) ∙ append-nil (take n items) ∙ sym c.truncate.ensures)
    c.loop-at.invariant.sorted
