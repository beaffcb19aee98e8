use Rattle.std.proofs.Common.{◌≡◌, ◌-◌, List, true, false, None, take, drop, slice_get, sym, ap, ◌∙◌}
use Rattle.std.specs.Ordering.{is_lt}
use Rattle.range_collections.proofs.Values.{not_less-from_none}
use Rattle.range_list.specs.Lists.{joined, place_at}
use Rattle.range_map.specs.Entries.{entries, entries_of, entries_until}
use Rattle.range_map.specs.Listed.{steps_in}
use Rattle.range_map.specs.declared.step.Step.{Step}
use Rattle.range_map.proofs.Overlapping.{overlaps-nothing, places-ordered, overlapping-places}
use Rattle.range_map.proofs.Parts.{entries_of-part, first_or-at_place}
use Rattle.range_map.proofs.within.overlapping_steps.Goals as goal

pub returns-then-not-has_elements : goal.returns-then-not-has_elements
returns-then-not-has_elements g c =
    let none : is_lt (g.K.Ord.cmp c.args.start.now c.args.end.now) ≡ false = not_less-from_none c.has_elements.result _ c.has_elements.ensures.answer c.if-not-has_elements.true in
    c.new-then-not-has_elements.ensures
    ∙ ap (λ (xs : List (Step g.row.K.Denot g.row.V.Denot)). entries_of xs None) c.none.ensures
    ∙ sym (overlaps-nothing g.K.Ord.cmp g.met.K.Ord.total c.args.start.now c.args.end.now none (entries (steps_in c.args.steps.now)))

pub steps_between-requires-clause-ordered : goal.steps_between-requires-clause-ordered
steps_between-requires-clause-ordered g c =
    let some : is_lt (g.K.Ord.cmp c.args.start.now c.args.end.now) ≡ true = ap is_lt (c.has_elements.ensures.answer.0 c.if-not-has_elements.false) in
    let up = c.place_up_to-above.ensures in
    let to = c.place_below-to.ensures in
    let lists = c.args.steps.now in
    let m = steps_in lists in
    rw c.place_before.ensures.before
    (places-ordered g.K.Ord.cmp g.met.K.Ord.total c.args.start.now c.args.end.now some m.keys m.options c.requires.one_each
    (place_at lists c.place_up_to-above.result) (place_at lists c.place_below-to.result) up.within to.within up.up_to up.above to.below to.from)

pub returns : goal.returns
returns g c =
    let some : is_lt (g.K.Ord.cmp c.args.start.now c.args.end.now) ≡ true = ap is_lt (c.has_elements.ensures.answer.0 c.if-not-has_elements.false) in
    let up = c.place_up_to-above.ensures in
    let to = c.place_below-to.ensures in
    let lists = c.args.steps.now in
    let items = joined lists in
    let m = steps_in lists in
    let n = place_at lists c.place_up_to-above.result in
    let e = place_at lists c.place_below-to.result in
    c.steps_between.ensures
    ∙ ap (λ f. entries_of (take (e - f) (drop f items)) (slice_get m.keys e)) c.place_before.ensures.before
    ∙ entries_of-part items (n - 1) (e - (n - 1)) (slice_get m.keys e)
    ∙ ap (λ z. entries_until (take (e - (n - 1)) (drop (n - 1) m.keys)) (take (e - (n - 1)) (drop (n - 1) m.options)) z) (first_or-at_place m.keys e)
    ∙ overlapping-places g.K.Ord.cmp g.met.K.Ord.total c.args.start.now c.args.end.now some m.keys m.options c.requires.one_each
    n e up.within to.within up.up_to up.above to.below to.from
