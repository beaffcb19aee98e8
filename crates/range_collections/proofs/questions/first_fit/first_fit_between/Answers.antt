use Rattle.std.proofs.Common.{sym, ◌∙◌, subst, arith}
use Rattle.range_merge.specs.Connective.{Means}
use Rattle.range_collections.specs.Ranges.{range_items}
use Rattle.range_collections.specs.Within.{borrowed_items, within_table}
use Rattle.range_collections.proofs.Ranked.{place-le}
use Rattle.range_collections.proofs.Fitting.{IfNone-map, IfSome-map}
use Rattle.range_collections.proofs.FitSearches.{IsLeastFit-parts, IsLeastFit-nothing, none-parts}
use Rattle.range_collections.proofs.questions.first_fit.first_fit_between.Goals as goal

pub returns-then-count-gt0-clause-fit : goal.returns-then-count-gt0-clause-fit
returns-then-count-gt0-clause-fit g c =
    let law = g.met.T.Countable in
    IfSome-map c.first_of.result _ _
    (λ fit it.
    IsLeastFit-parts g.met.T.Ord.total g.T.RangeSetEntry.is_value g.T.Countable.value g.T.Countable.place g.T.Countable.count law.value_is_value law.place_of_value law.place_fits law.in_order
    c.args.start.now c.args.end.now (g.L.Boundaries.items c.args.list) _ c.known.ensures c.known-2.ensures c.args.inside c.parts_within-parts.ensures.gives.means c.args.count c.args.multiples fit (omega (arith, c.if-count-gt0.true)) it)
    c.first_of.ensures.fit

pub returns-then-count-gt0-clause-none : goal.returns-then-count-gt0-clause-none
returns-then-count-gt0-clause-none g c =
    let law = g.met.T.Countable in
    IfNone-map c.first_of.result _ _
    (λ none.
    none-parts g.met.T.Ord.total g.T.RangeSetEntry.is_value g.T.Countable.value g.T.Countable.place g.T.Countable.count law.value_is_value law.place_of_value law.place_fits law.in_order
    c.args.start.now c.args.end.now (g.L.Boundaries.items c.args.list) _ c.known.ensures c.known-2.ensures c.args.inside c.parts_within-parts.ensures.gives.means c.args.count c.args.multiples none)
    c.first_of.ensures.none

pub returns-then-count-gt0-clause-first : goal.returns-then-count-gt0-clause-first
returns-then-count-gt0-clause-first g c outside some one = record {
  gaps = borrowed_items c.parts_within-parts.result.first (g.L.Unread.Unread.unread c.parts_within-parts.result.between) c.parts_within-parts.result.last;
  are_gaps =
      subst (λ b. Means g.T.Ord.cmp (within_table b) (borrowed_items c.parts_within-parts.result.first (g.L.Unread.Unread.unread c.parts_within-parts.result.between) c.parts_within-parts.result.last) (range_items g.T.Ord.cmp c.args.start.now c.args.end.now) (g.L.Boundaries.items c.args.list)) outside
      c.parts_within-parts.ensures.gives.means;
  first = c.first_of.ensures.first one;
}

pub first_multiple_in-requires-clause-in_order : goal.first_multiple_in-requires-clause-in_order
first_multiple_in-requires-clause-in_order g c =
    let law = g.met.T.Countable in
    place-le g.met.T.Ord.total g.T.RangeSetEntry.is_value g.T.Countable.value g.T.Countable.place g.T.Countable.count law.value_is_value law.place_of_value law.place_fits law.in_order
    c.args.start.now c.args.end.now c.known.ensures c.known-2.ensures
    (rw (← c.cmp.ensures) (sym c.is_le.ensures ∙ c.if-not-is_le.false))

pub returns-clause-fit : goal.returns-clause-fit
returns-clause-fit g c =
    IsLeastFit-nothing g.T.Ord.cmp g.T.Countable.value g.T.Countable.place c.args.inside (g.L.Boundaries.items c.args.list) c.args.start.now c.args.end.now c.args.count c.args.multiples
    (omega (arith, c.if-count-gt0.false)) c.in_ok-place.place c.in_ok-place.ensures.fits c.in_ok-place.ensures.aligned c.in_ok-place.ensures.least
