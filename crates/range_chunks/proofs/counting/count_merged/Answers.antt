use Rattle.std.proofs.Common.{◌≡◌, ◌+◌, ◌≤◌, ◌<◌, sym, ap, ◌∙◌, All, rules, arith, length, drop}
use Rattle.std.proofs.lemmas.List.Elements.{All-head}
use Rattle.std.specs.List.{AllWithin}
use Rattle.std.specs.declared.cmp.Ordering.TheVariants.{Less}
use Rattle.range_merge.specs.Boundaries.{IsAscending}
use Rattle.range_collections.proofs.Ascending.{IsAscending-tail}
use Rattle.range_list.specs.Lists.{joined, place_at}
use Rattle.range_list.proofs.Placed.{place_at-within}
use Rattle.range_chunks.proofs.Lengths.{remaining-all, counted-rest}
use Rattle.range_chunks.proofs.counting.count_merged.Goals as goal

pub loop-at-init : goal.loop-at-init
loop-at-init g c = record {
  place = search rules;
  sorted = c.requires.that_sorted;
  fewer = omega arith;
  above = λ k d lk j e low high. absurd (omega (arith, high));
  counted = omega (arith, remaining-all g.met.T.Ord.total (g.O.MergeOperation.connective c.args.op.now) (joined c.args.list.now) (g.U.Unread.unread c.args.that) c.requires.sorted c.requires.that_sorted);
}

pub count_to-more-requires-clause-before : goal.count_to-more-requires-clause-before
count_to-more-requires-clause-before g c =
    All-head (λ y. AllWithin (λ z. g.T.Ord.cmp z y ≡ Less) (joined c.args.list.now) 0 (place_at c.args.list.now c.loop-at.from)) c.in-Some.at.now (g.U.Unread.unread c.take_first.new.self)
    (rw c.in-Some.ensures at c.loop-at.invariant.above)

pub count_to-more-requires-clause-fits : goal.count_to-more-requires-clause-fits
count_to-more-requires-clause-fits g c = omega (arith, ap length c.in-Some.ensures, c.loop-at.invariant.fewer, c.requires.fits)

pub overflow_add-len : goal.overflow_add-len
overflow_add-len g c =
    let up = rw c.in-Some.ensures at c.loop-at.invariant.sorted in
    omega (
      arith,
      rw c.in-Some.ensures at c.loop-at.invariant.counted,
      c.count_to-more.ensures.counted (g.U.Unread.unread c.take_first.new.self) up,
      c.changes_are_at_most_the_lengths.ensures.at_most (g.O.MergeOperation.connective c.args.op.now) (joined c.args.list.now) (g.U.Unread.unread c.args.that),
      c.requires.fits,
    )

pub loop-at-preserved : goal.loop-at-preserved
loop-at-preserved g c =
    let up = rw c.in-Some.ensures at c.loop-at.invariant.sorted in
    record {
      place = c.count_to-more.ensures.place;
      sorted = IsAscending-tail g.T.Ord.cmp c.in-Some.at.now (g.U.Unread.unread c.take_first.new.self) up;
      fewer = omega (arith, ap length c.in-Some.ensures, c.loop-at.invariant.fewer);
      above = c.count_to-more.ensures.passed (g.U.Unread.unread c.take_first.new.self) up;
      counted = omega (arith, rw c.in-Some.ensures at c.loop-at.invariant.counted, c.count_to-more.ensures.counted (g.U.Unread.unread c.take_first.new.self) up);
    }

pub count_between-requires-clause-ordered : goal.count_between-requires-clause-ordered
count_between-requires-clause-ordered g c = omega (arith, c.end.ensures.all, place_at-within c.args.list.now c.loop-at.from c.loop-at.invariant.place)

pub overflow_add-result : goal.overflow_add-result
overflow_add-result g c =
    let f = g.O.MergeOperation.connective c.args.op.now in
    let own = joined c.args.list.now in
    let rest =
    counted-rest g.met.T.Ord.total f own (g.U.Unread.unread c.loop-at.unread) (place_at c.args.list.now c.loop-at.from) (place_at c.args.list.now c.end.result) c.loop-at.on c.takes_a.result c.in_default.ensures.0
    (place_at-within c.args.list.now c.loop-at.from c.loop-at.invariant.place) c.end.ensures.all c.takes_a.ensures
    ∙ sym c.count_between.ensures.value in
    omega (arith, c.loop-at.invariant.counted, rest, c.changes_are_at_most_the_lengths.ensures.at_most f own (g.U.Unread.unread c.args.that), c.requires.fits)

pub returns : goal.returns
returns g c =
    let f = g.O.MergeOperation.connective c.args.op.now in
    let own = joined c.args.list.now in
    let rest =
    counted-rest g.met.T.Ord.total f own (g.U.Unread.unread c.loop-at.unread) (place_at c.args.list.now c.loop-at.from) (place_at c.args.list.now c.end.result) c.loop-at.on c.takes_a.result c.in_default.ensures.0
    (place_at-within c.args.list.now c.loop-at.from c.loop-at.invariant.place) c.end.ensures.all c.takes_a.ensures
    ∙ sym c.count_between.ensures.value in
    omega (arith, c.loop-at.invariant.counted, rest)
