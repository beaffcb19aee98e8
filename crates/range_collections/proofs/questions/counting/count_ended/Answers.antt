use Rattle.std.proofs.Common.{◌≡◌, ◌∙◌, ◌-◌, sym, ap, length, take, drop, arith}
use Rattle.range_collections.specs.Covered.{members_below}
use Rattle.range_collections.proofs.Counted.{members_below-nil, Less-pair, members_below-step, members_below-room}
use Rattle.range_collections.proofs.ReadInPairs.{two-more, start-at, end-at, index-after, rest-after}
use Rattle.range_collections.proofs.questions.counting.count_ended.Goals as goal

pub loop-start-init : goal.loop-start-init
loop-start-init g c =
    let all = (g.U.Unread.unread c.args.boundaries) in
    let none : length all - length all ≡ 0 = omega arith in
    let some = g.met.T.Countable.place_fits _ g.met.T.RangeSetEntry.least_is_value in (
      sym (ap (λ k. drop k all) none),
      omega (arith, none),
      sym (ap (λ k. members_below g.T.Ord.cmp g.T.Countable.value (take k all) g.T.Countable.count) none ∙ members_below-nil g.T.Ord.cmp g.T.Countable.value g.T.Countable.count),
      omega (arith, some),
    )

pub between-count-requires : goal.between-count-requires
between-count-requires g c =
    let law = g.met.T.Countable in
    let all = (g.U.Unread.unread c.args.boundaries) in
    let i = length all - length (g.U.Unread.unread c.loop-start.unread) in
    let first = sym c.loop-start.invariant.0 ∙ c.in-Some.ensures in
    let second = c.in-Some-take_first.ensures in
    Less-pair g.met.T.Ord.total g.T.RangeSetEntry.is_value g.T.Countable.value g.T.Countable.place g.T.Countable.count
    law.value_is_value law.place_of_value law.place_fits law.in_order
    all i c.in-Some.start.now c.in-Some-take_first.end.now c.requires (two-more all i _ _ _ _ first second) c.loop-start.invariant.1
    (start-at all i _ _ _ _ first second) (end-at all i _ _ _ _ first second)

pub overflow_add-count : goal.overflow_add-count
overflow_add-count g c =
    let law = g.met.T.Countable in
    let all = (g.U.Unread.unread c.args.boundaries) in
    let i = length all - length (g.U.Unread.unread c.loop-start.unread) in
    let first = sym c.loop-start.invariant.0 ∙ c.in-Some.ensures in
    let second = c.in-Some-take_first.ensures in
    let step =
    members_below-step g.met.T.Ord.total g.T.RangeSetEntry.is_value g.T.Countable.value g.T.Countable.place g.T.Countable.count
    law.value_is_value law.place_of_value law.place_fits law.in_order
    all i c.in-Some.start.now c.in-Some-take_first.end.now c.requires (two-more all i _ _ _ _ first second) c.loop-start.invariant.1
    (start-at all i _ _ _ _ first second) (end-at all i _ _ _ _ first second)
    c.between-count.ensures.start_is_value c.between-count.ensures.end_is_value in
    let room =
    members_below-room g.met.T.Ord.total g.T.RangeSetEntry.is_value g.T.Countable.value g.T.Countable.place g.T.Countable.count
    law.value_is_value law.place_of_value law.place_fits law.in_order
    all i c.in-Some.start.now c.in-Some-take_first.end.now c.requires (two-more all i _ _ _ _ first second) c.loop-start.invariant.1
    (start-at all i _ _ _ _ first second) (end-at all i _ _ _ _ first second)
    c.between-count.ensures.start_is_value c.between-count.ensures.end_is_value in
    omega (arith, step, room, law.count_fits, c.loop-start.invariant.2, c.between-count.ensures.value)

pub loop-start-preserved : goal.loop-start-preserved
loop-start-preserved g c =
    let law = g.met.T.Countable in
    let all = (g.U.Unread.unread c.args.boundaries) in
    let i = length all - length (g.U.Unread.unread c.loop-start.unread) in
    let first = sym c.loop-start.invariant.0 ∙ c.in-Some.ensures in
    let second = c.in-Some-take_first.ensures in
    let step =
    members_below-step g.met.T.Ord.total g.T.RangeSetEntry.is_value g.T.Countable.value g.T.Countable.place g.T.Countable.count
    law.value_is_value law.place_of_value law.place_fits law.in_order
    all i c.in-Some.start.now c.in-Some-take_first.end.now c.requires (two-more all i _ _ _ _ first second) c.loop-start.invariant.1
    (start-at all i _ _ _ _ first second) (end-at all i _ _ _ _ first second)
    c.between-count.ensures.start_is_value c.between-count.ensures.end_is_value in
    let room =
    members_below-room g.met.T.Ord.total g.T.RangeSetEntry.is_value g.T.Countable.value g.T.Countable.place g.T.Countable.count
    law.value_is_value law.place_of_value law.place_fits law.in_order
    all i c.in-Some.start.now c.in-Some-take_first.end.now c.requires (two-more all i _ _ _ _ first second) c.loop-start.invariant.1
    (start-at all i _ _ _ _ first second) (end-at all i _ _ _ _ first second)
    c.between-count.ensures.start_is_value c.between-count.ensures.end_is_value in
    let next = index-after all i _ _ _ _ first second in
    let same = ap (λ k. members_below g.T.Ord.cmp g.T.Countable.value (take k all) g.T.Countable.count) next in (
      rest-after all i _ _ _ _ first second ∙ sym (ap (λ k. drop k all) next),
      omega (arith, c.loop-start.invariant.1, next),
      omega (arith, step, same, c.loop-start.invariant.2, c.between-count.ensures.value),
      omega (arith, step, room, c.loop-start.invariant.2, c.between-count.ensures.value),
    )
