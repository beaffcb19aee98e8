use Rattle.std.proofs.Common.{◌≡◌, ◌∙◌, refl, sym, subst, Some, None, take, arith, option_copied}
use Rattle.range_merge.specs.Boundaries.{IsAscending}
use Rattle.range_collections.proofs.Cut.{IsAscending-take}
use Rattle.range_collections.proofs.Ranked.{members_below-le}
use Rattle.range_collections.specs.Ended.{CountsEnded}
use Rattle.range_collections.proofs.Searched.{from-front}
use Rattle.range_collections.proofs.Selected.{rank-ended, rank-endless, start-below}
use Rattle.range_collections.proofs.questions.counting.rank.Goals as goal

pub count_ended-count-requires : goal.count_ended-count-requires
count_ended-count-requires g c κs =
    let n = g.L.Boundaries.index c.args.list c.up_to-before.result in
    let is : g.L.Unread.Unread.unread c.between.result ≡ take n (g.L.Boundaries.items c.args.list) = (rw c.front.ensures.index at c.between.ensures) ∙ from-front (g.L.Boundaries.items c.args.list) n in
    ((refl, tt), subst (IsAscending g.T.Ord.cmp) (sym is) (IsAscending-take g.T.Ord.cmp n (g.L.Boundaries.items c.args.list) c.requires))

pub returns-in-None-clause-value : goal.returns-in-None-clause-value
returns-in-None-clause-value g c =
    let law = g.met.T.Countable in
    let n = g.L.Boundaries.index c.args.list c.up_to-before.result in
    let is : g.L.Unread.Unread.unread c.between.result ≡ take n (g.L.Boundaries.items c.args.list) = (rw c.front.ensures.index at c.between.ensures) ∙ from-front (g.L.Boundaries.items c.args.list) n in
    let it =
    subst (λ items. CountsEnded g.T.Ord.cmp g.T.Countable.value g.T.Countable.count items None c.count_ended-count.result.0) is
    (subst (λ last. CountsEnded g.T.Ord.cmp g.T.Countable.value g.T.Countable.count (g.L.Unread.Unread.unread c.between.result) (option_copied last) c.count_ended-count.result.0) c.in-None.is c.count_ended-count.ensures.counted) in
    rank-ended g.met.T.Ord.total g.T.RangeSetEntry.is_value g.T.Countable.value g.T.Countable.place g.T.Countable.count
    law.value_is_value law.place_of_value law.place_fits law.in_order
    (g.L.Boundaries.items c.args.list) c.requires n c.up_to-before.ensures.within c.args.at.now c.known.ensures
    c.up_to-before.ensures.before c.up_to-before.ensures.from c.count_ended-count.result.0 it

pub overflow_sub-result : goal.overflow_sub-result
overflow_sub-result g c =
    let law = g.met.T.Countable in
    let n = g.L.Boundaries.index c.args.list c.up_to-before.result in
    let is : g.L.Unread.Unread.unread c.between.result ≡ take n (g.L.Boundaries.items c.args.list) = (rw c.front.ensures.index at c.between.ensures) ∙ from-front (g.L.Boundaries.items c.args.list) n in
    let it =
    subst (λ items. CountsEnded g.T.Ord.cmp g.T.Countable.value g.T.Countable.count items (Some c.in-Some.start.now) c.count_ended-count.result.0) is
    (subst (λ last. CountsEnded g.T.Ord.cmp g.T.Countable.value g.T.Countable.count (g.L.Unread.Unread.unread c.between.result) (option_copied last) c.count_ended-count.result.0) c.in-Some.is c.count_ended-count.ensures.counted) in
    let less =
    start-below g.met.T.Ord.total g.T.RangeSetEntry.is_value g.T.Countable.value g.T.Countable.place g.T.Countable.count
    law.value_is_value law.place_of_value law.place_fits law.in_order
    (g.L.Boundaries.items c.args.list) c.requires n c.up_to-before.ensures.within c.args.at.now c.known.ensures
    c.up_to-before.ensures.before c.up_to-before.ensures.from c.count_ended-count.result.0 c.in-Some.start.now c.known-in-Some.ensures it in
    omega (arith, less, c.place.ensures, c.place-in-Some.ensures)

pub returns-in-Some-clause-value : goal.returns-in-Some-clause-value
returns-in-Some-clause-value g c =
    let law = g.met.T.Countable in
    let n = g.L.Boundaries.index c.args.list c.up_to-before.result in
    let is : g.L.Unread.Unread.unread c.between.result ≡ take n (g.L.Boundaries.items c.args.list) = (rw c.front.ensures.index at c.between.ensures) ∙ from-front (g.L.Boundaries.items c.args.list) n in
    let it =
    subst (λ items. CountsEnded g.T.Ord.cmp g.T.Countable.value g.T.Countable.count items (Some c.in-Some.start.now) c.count_ended-count.result.0) is
    (subst (λ last. CountsEnded g.T.Ord.cmp g.T.Countable.value g.T.Countable.count (g.L.Unread.Unread.unread c.between.result) (option_copied last) c.count_ended-count.result.0) c.in-Some.is c.count_ended-count.ensures.counted) in
    let sum =
    rank-endless g.met.T.Ord.total g.T.RangeSetEntry.is_value g.T.Countable.value g.T.Countable.place g.T.Countable.count
    law.value_is_value law.place_of_value law.place_fits law.in_order
    (g.L.Boundaries.items c.args.list) c.requires n c.up_to-before.ensures.within c.args.at.now c.known.ensures
    c.up_to-before.ensures.before c.up_to-before.ensures.from c.count_ended-count.result.0 c.in-Some.start.now c.known-in-Some.ensures it in
    omega (arith, sum, c.place.ensures, c.place-in-Some.ensures)

pub returns-in-Some-clause-fits : goal.returns-in-Some-clause-fits
returns-in-Some-clause-fits g c =
    omega (
      arith,
      returns-in-Some-clause-value g c,
      members_below-le g.T.Ord.cmp g.T.Countable.value (g.L.Boundaries.items c.args.list) (g.T.Countable.place c.args.at.now),
      g.met.T.Countable.place_fits c.args.at.now c.known.ensures,
    )

pub overflow_add-result : goal.overflow_add-result
overflow_add-result g c =
    let law = g.met.T.Countable in
    let n = g.L.Boundaries.index c.args.list c.up_to-before.result in
    let is : g.L.Unread.Unread.unread c.between.result ≡ take n (g.L.Boundaries.items c.args.list) = (rw c.front.ensures.index at c.between.ensures) ∙ from-front (g.L.Boundaries.items c.args.list) n in
    let it =
    subst (λ items. CountsEnded g.T.Ord.cmp g.T.Countable.value g.T.Countable.count items (Some c.in-Some.start.now) c.count_ended-count.result.0) is
    (subst (λ last. CountsEnded g.T.Ord.cmp g.T.Countable.value g.T.Countable.count (g.L.Unread.Unread.unread c.between.result) (option_copied last) c.count_ended-count.result.0) c.in-Some.is c.count_ended-count.ensures.counted) in
    let sum =
    rank-endless g.met.T.Ord.total g.T.RangeSetEntry.is_value g.T.Countable.value g.T.Countable.place g.T.Countable.count
    law.value_is_value law.place_of_value law.place_fits law.in_order
    (g.L.Boundaries.items c.args.list) c.requires n c.up_to-before.ensures.within c.args.at.now c.known.ensures
    c.up_to-before.ensures.before c.up_to-before.ensures.from c.count_ended-count.result.0 c.in-Some.start.now c.known-in-Some.ensures it in
    omega (
      arith,
      sum,
      c.place.ensures,
      c.place-in-Some.ensures,
      members_below-le g.T.Ord.cmp g.T.Countable.value (g.L.Boundaries.items c.args.list) (g.T.Countable.place c.args.at.now),
      law.place_fits c.args.at.now c.known.ensures,
      law.count_fits,
    )
