use Rattle.std.proofs.Common.{◌≡◌, ◌∙◌, ◌-◌, ◌<◌, Some, None, get_or, sym, subst, arith}
use Rattle.range_merge.specs.Boundaries.{is_odd}
use Rattle.range_collections.proofs.Around.{item-before}
use Rattle.range_collections.proofs.FitEnds.{EndsAlike-all, EndsAlike-item, EndsAlike-low, member-greatest}
use Rattle.range_collections.proofs.Insertion.{same_from_beq, other_from_beq}
use Rattle.range_collections.proofs.Next.{not-from_other}
use Rattle.range_collections.proofs.questions.first_fit.last_part.Goals as goal

pub returns-in_default-clause-alike : goal.returns-in_default-clause-alike
returns-in_default-clause-alike g c =
    let law = g.met.T.Countable in
    EndsAlike-all g.met.T.Ord.total g.T.RangeSetEntry.is_value g.T.Countable.value g.T.Countable.place g.T.Countable.count law.value_is_value law.place_of_value law.place_fits law.in_order
    (g.L.Boundaries.items c.args.list) c.args.greatest.now c.known-2.ensures c.requires.greatest (g.L.Boundaries.index c.args.list c.up_to-before.result)
    c.requires.sorted c.up_to-before.ensures.within c.up_to-before.ensures.before c.up_to-before.ensures.from
    c.args.inside (sym c.is_odd.ensures ∙ same_from_beq c.is_odd.result c.args.inside c.if-is_odd-inside.true) c.args.start.now
    (item-before (g.L.Boundaries.items c.args.list) (g.L.Boundaries.index c.args.list c.up_to-before.result) None c.in_default.ensures.within c.in_default.ensures.item)

pub returns-then-place-clause-alike : goal.returns-then-place-clause-alike
returns-then-place-clause-alike g c =
    let law = g.met.T.Countable in
    let before = item-before (g.L.Boundaries.items c.args.list) (g.L.Boundaries.index c.args.list c.up_to-before.result) (Some c.in-Some.item) c.in-Some.ensures.within c.in-Some.ensures.item in
    let one : g.L.Boundaries.index c.args.list c.position_before.result ≡ (g.L.Boundaries.index c.args.list c.up_to-before.result) - 1 = omega (arith, c.position_before.ensures.before) in
    EndsAlike-item g.met.T.Ord.total g.T.RangeSetEntry.is_value g.T.Countable.value g.T.Countable.place g.T.Countable.count law.value_is_value law.place_of_value law.place_fits law.in_order
    (g.L.Boundaries.items c.args.list) c.args.greatest.now c.known-2.ensures c.requires.greatest (g.L.Boundaries.index c.args.list c.up_to-before.result)
    c.requires.sorted c.up_to-before.ensures.within c.up_to-before.ensures.before c.up_to-before.ensures.from
    c.args.inside (sym c.is_odd.ensures ∙ same_from_beq c.is_odd.result c.args.inside c.if-is_odd-inside.true) c.args.start.now
    c.in-Some.item.now before.0 before.1 c.known-then-is_odd-inside.ensures
    (subst (λ j. (d : g.row.T.Denot) → 0 < j → g.T.RangeSetEntry.is_value (get_or (g.L.Boundaries.items c.args.list) (j - 1) d)) one c.know_before.ensures)
    (omega (arith, c.if-place.true, c.place.ensures, c.place-then-is_odd-inside.ensures))

pub returns-then-is_odd-inside-clause-alike : goal.returns-then-is_odd-inside-clause-alike
returns-then-is_odd-inside-clause-alike g c =
    let law = g.met.T.Countable in
    let before = item-before (g.L.Boundaries.items c.args.list) (g.L.Boundaries.index c.args.list c.up_to-before.result) (Some c.in-Some.item) c.in-Some.ensures.within c.in-Some.ensures.item in
    EndsAlike-low g.met.T.Ord.total g.T.RangeSetEntry.is_value g.T.Countable.value g.T.Countable.place g.T.Countable.count law.value_is_value law.place_of_value law.place_fits law.in_order
    (g.L.Boundaries.items c.args.list) c.args.greatest.now c.known-2.ensures c.requires.greatest (g.L.Boundaries.index c.args.list c.up_to-before.result)
    c.requires.sorted c.up_to-before.ensures.within c.up_to-before.ensures.before c.up_to-before.ensures.from
    c.args.inside (sym c.is_odd.ensures ∙ same_from_beq c.is_odd.result c.args.inside c.if-is_odd-inside.true) c.args.start.now
    c.in-Some.item.now before.0 before.1 c.known-then-is_odd-inside.ensures
    (omega (arith, c.if-place.false, c.place.ensures, c.place-then-is_odd-inside.ensures))

pub returns-clause-none : goal.returns-clause-none
returns-clause-none g c =
    let law = g.met.T.Countable in
    member-greatest g.met.T.Ord.total g.T.RangeSetEntry.is_value g.T.Countable.value g.T.Countable.place g.T.Countable.count law.value_is_value law.place_of_value law.place_fits law.in_order
    (g.L.Boundaries.items c.args.list) c.args.greatest.now c.known-2.ensures c.requires.greatest (g.L.Boundaries.index c.args.list c.up_to-before.result)
    c.requires.sorted c.up_to-before.ensures.within c.up_to-before.ensures.before c.up_to-before.ensures.from
    ∙ not-from_other (is_odd (g.L.Boundaries.index c.args.list c.up_to-before.result)) c.args.inside (λ same. other_from_beq c.is_odd.result c.args.inside c.if-is_odd-inside.false (c.is_odd.ensures ∙ same))
