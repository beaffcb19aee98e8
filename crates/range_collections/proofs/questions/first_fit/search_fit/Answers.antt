use Rattle.std.proofs.Common.{◌<◌, ◌-◌, length, sym, subst, arith}
use Rattle.range_merge.specs.Boundaries.{IsAscending}
use Rattle.range_collections.specs.Within.{borrowed_items}
use Rattle.range_collections.proofs.Fitting.{places_in_order}
use Rattle.range_collections.proofs.FitSearches.{IsWalked, IsLeastFit-found, IsWalked-next, IsStopped-here, none-walked, greater, is_even-two}
use Rattle.range_collections.proofs.questions.first_fit.search_fit.Goals as goal

pub first_multiple_in-requires-clause-in_order : goal.first_multiple_in-requires-clause-in_order
first_multiple_in-requires-clause-in_order g c =
    let law = g.met.T.Countable in
    places_in_order g.met.T.Ord.total g.T.RangeSetEntry.is_value g.T.Countable.value g.T.Countable.place g.T.Countable.count law.value_is_value law.place_of_value law.place_fits law.in_order
    c.in-Some.part.start c.in-Some.part.end (borrowed_items c.next_ended.new.parts.first (g.U.Unread.unread c.next_ended.new.parts.between) c.next_ended.new.parts.last) c.known.ensures c.known-in-Some.ensures
    (subst (IsAscending g.T.Ord.cmp) c.in-Some.ensures.some c.loop-part.invariant.walked.fits.sorted)

pub overflow_sub-place : goal.overflow_sub-place
overflow_sub-place g c =
    let law = g.met.T.Countable in
    let up = places_in_order g.met.T.Ord.total g.T.RangeSetEntry.is_value g.T.Countable.value g.T.Countable.place g.T.Countable.count law.value_is_value law.place_of_value law.place_fits law.in_order
    c.in-Some.part.start c.in-Some.part.end (borrowed_items c.next_ended.new.parts.first (g.U.Unread.unread c.next_ended.new.parts.between) c.next_ended.new.parts.last) c.known.ensures c.known-in-Some.ensures
    (subst (IsAscending g.T.Ord.cmp) c.in-Some.ensures.some c.loop-part.invariant.walked.fits.sorted) in
    omega (arith, up, c.place.ensures, c.place-in-Some.ensures)

pub loop-part-smaller : goal.loop-part-smaller
loop-part-smaller g c =
    subst (λ items. length (borrowed_items c.next_ended.new.parts.first (g.U.Unread.unread c.next_ended.new.parts.between) c.next_ended.new.parts.last) < length items) (sym c.in-Some.ensures.some) (omega arith)

pub returns-in-Some-first_multiple_in-clause-search : goal.returns-in-Some-first_multiple_in-clause-search
returns-in-Some-first_multiple_in-clause-search g c =
    let law = g.met.T.Countable in
    IsLeastFit-found g.met.T.Ord.total g.T.RangeSetEntry.is_value g.T.Countable.value g.T.Countable.place g.T.Countable.count law.value_is_value law.place_of_value law.place_fits law.in_order
    c.args.count c.args.multiples c.loop-part.most c.requires.some (borrowed_items c.args.parts.first (g.U.Unread.unread c.args.parts.between) c.args.parts.last) (borrowed_items c.loop-part.unread.first (g.U.Unread.unread c.loop-part.unread.between) c.loop-part.unread.last) c.loop-part.invariant.walked c.in-Some.part.start c.in-Some.part.end (borrowed_items c.next_ended.new.parts.first (g.U.Unread.unread c.next_ended.new.parts.between) c.next_ended.new.parts.last)
    c.known.ensures c.known-in-Some.ensures c.in-Some.ensures.some
    c.in-Some-first_multiple_in.place c.in-Some-first_multiple_in.ensures.fits c.in-Some-first_multiple_in.ensures.aligned c.in-Some-first_multiple_in.ensures.least

pub returns-then-is_reached-clause-search : goal.returns-then-is_reached-clause-search
returns-then-is_reached-clause-search g c =
    let law = g.met.T.Countable in
    let most = greater c.loop-part.most (c.place.result - c.place-in-Some.result) in
    IsStopped-here g.met.T.Ord.total g.T.RangeSetEntry.is_value g.T.Countable.value g.T.Countable.place g.T.Countable.count law.value_is_value law.place_of_value law.place_fits law.in_order
    c.args.count c.args.multiples c.loop-part.most c.requires.some (borrowed_items c.args.parts.first (g.U.Unread.unread c.args.parts.between) c.args.parts.last) (borrowed_items c.loop-part.unread.first (g.U.Unread.unread c.loop-part.unread.between) c.loop-part.unread.last) c.loop-part.invariant.walked c.in-Some.part.start c.in-Some.part.end (borrowed_items c.next_ended.new.parts.first (g.U.Unread.unread c.next_ended.new.parts.between) c.next_ended.new.parts.last)
    c.known.ensures c.known-in-Some.ensures c.in-Some.ensures.some
    c.max-most.result (omega (arith, most.0, c.max-most.ensures)) (omega (arith, most.1, c.max-most.ensures, c.place.ensures, c.place-in-Some.ensures)) c.in_default-first_multiple_in.ensures.none

pub loop-part-preserved : goal.loop-part-preserved
loop-part-preserved g c =
    let law = g.met.T.Countable in
    let most = greater c.loop-part.most (c.place.result - c.place-in-Some.result) in
    record {
      walked =
          IsWalked-next g.met.T.Ord.total g.T.RangeSetEntry.is_value g.T.Countable.value g.T.Countable.place g.T.Countable.count law.value_is_value law.place_of_value law.place_fits law.in_order
          c.args.count c.args.multiples c.loop-part.most c.requires.some (borrowed_items c.args.parts.first (g.U.Unread.unread c.args.parts.between) c.args.parts.last) (borrowed_items c.loop-part.unread.first (g.U.Unread.unread c.loop-part.unread.between) c.loop-part.unread.last) c.loop-part.invariant.walked c.in-Some.part.start c.in-Some.part.end (borrowed_items c.next_ended.new.parts.first (g.U.Unread.unread c.next_ended.new.parts.between) c.next_ended.new.parts.last)
          c.known.ensures c.known-in-Some.ensures c.in-Some.ensures.some
          c.max-most.result (omega (arith, most.0, c.max-most.ensures)) (omega (arith, most.1, c.max-most.ensures, c.place.ensures, c.place-in-Some.ensures)) c.in_default-first_multiple_in.ensures.none;
      even = is_even-two _ _ _ _ c.in-Some.ensures.some c.loop-part.invariant.even;
    }

pub returns-clause-search : goal.returns-clause-search
returns-clause-search g c =
    none-walked g.T.Ord.cmp g.T.Countable.value g.T.Countable.place g.T.Countable.count c.args.count c.args.multiples c.loop-part.most (borrowed_items c.args.parts.first (g.U.Unread.unread c.args.parts.between) c.args.parts.last) c.requires.some
    (subst (IsWalked g.T.Ord.cmp g.T.Countable.value g.T.Countable.place g.T.Countable.count c.args.count c.args.multiples c.loop-part.most (borrowed_items c.args.parts.first (g.U.Unread.unread c.args.parts.between) c.args.parts.last))
    c.in_default.ensures.none c.loop-part.invariant.walked)
