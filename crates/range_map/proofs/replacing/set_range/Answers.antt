use Rattle.std.proofs.Common.{◌≡◌, inl, inr, true, false, sym, true≢false}
use Rattle.range_map.specs.Listed.{steps_in}
use Rattle.range_map.specs.Places.{ArePlaces, span_of}
use Rattle.range_map.proofs.Replaced.{places_ordered, put_len-fits, no_copy}
use Rattle.range_map.proofs.replacing.set_range.Goals as goal

pub copy_before-requires-clause-ordered : goal.copy_before-requires-clause-ordered
copy_before-requires-clause-ordered g c =
    let m = steps_in c.args.steps.now in
    let span = span_of c.args.steps.now c.find-places.result in
    let are : ArePlaces g.K.Ord.cmp g.V.PartialEq.eq m c.args.start c.args.end c.args.option span = rw c.as_ref.ensures.value at c.find-places.ensures.places in
    places_ordered g.K.Ord.cmp g.met.K.Ord.total g.V.PartialEq.eq g.met.V.Eq.laws m c.requires.canonical c.args.start c.args.end c.requires.some c.args.option span are

pub returns-in_err-copied-clause-succeeds : goal.returns-in_err-copied-clause-succeeds
returns-in_err-copied-clause-succeeds g c =
    let m = steps_in c.args.steps.now in
    let span = span_of c.args.steps.now c.find-places.result in
    let are : ArePlaces g.K.Ord.cmp g.V.PartialEq.eq m c.args.start c.args.end c.args.option span = rw c.as_ref.ensures.value at c.find-places.ensures.places in
    λ fits. absurd (true≢false (sym (elim (no_copy span (put_len-fits g.K.Ord.cmp g.met.K.Ord.total g.V.PartialEq.eq g.met.V.Eq.laws m c.requires.canonical c.args.start c.args.end c.requires.some c.args.option span are fits)) as (λ _. false ≡ true) [
      | inl less ↦ c.in_err-copied.ensures.succeeds less
      | inr none ↦ c.in_err-copied.ensures.unneeded none
    ])))
