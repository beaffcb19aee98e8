use Rattle.std.proofs.Common.{true, false, refl, arith}
use Rattle.std.proofs.lemmas.List.Elements.{All-nil}
use Rattle.range_merge.specs.Changes.{changes, taken_items}
use Rattle.range_merge.specs.Connective.{table_of}
use Rattle.range_collections.proofs.Combined.{AreEqual-not_left, taken-not_left, GivesNegation-combined}
use Rattle.range_collections.proofs.Headline.{IsTheNegation-negates}
use Rattle.range_collections.proofs.range_set.operators.RefRangeSetNot.not.Goals as goal

pub returns-clause-gives : goal.returns-clause-gives
returns-clause-gives g c =
    let f = table_of true false true false in
    let o = g.met.T.Ord.total in
    let a = c.as_ref.result.boundaries.now in
    let b = c.empty.result.boundaries.now in
    let ts = changes g.T.Ord.cmp f a b in
    let is_infallible = g.T.EntryClone.is_infallible in
    let equal = AreEqual-not_left o (taken_items ts) a b c.as_ref.result.sorted (c.changes_mean_the_opposite.ensures.means f a b refl c.as_ref.result.sorted c.empty.result.sorted) in
    let marks = c.changes_are_marked_truly.ensures.marks f a b c.as_ref.result.sorted c.empty.result.sorted in
    rw (← c.as_ref.ensures.same)
    (GivesNegation-combined o g.T.RangeSetEntry.is_value g.met.T.EntryClone.copy_is_equal g.T.RangeSetEntry.least g.met.T.RangeSetEntry.least_is_value a b ts
    (taken-not_left o a b ts c.empty.ensures.boundaries c.as_ref.result.sorted marks equal) _ c.combine.result
    c.combine.ensures.means (c.combine.ensures.flipped refl)
    (λ s. c.combine.ensures.succeeds_flipped refl (rw c.empty.ensures.boundaries (omega (arith, s.0))) s.1 (rw c.empty.ensures.boundaries (All-nil is_infallible)) s.2))

pub returns-clause-headline : goal.returns-clause-headline
returns-clause-headline g c =
    IsTheNegation-negates g.met.T.Ord.total g.T.RangeSetEntry.is_value c.args.self.now c.combine.result (returns-clause-gives g c).negates
