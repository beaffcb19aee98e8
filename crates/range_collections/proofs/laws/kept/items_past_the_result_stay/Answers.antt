use Rattle.std.proofs.Common.{◌≡◌, ◌+◌, ◌-◌, ◌∙◌, ap, arith, slice_get, subst, sym}
use Rattle.range_collections.proofs.Kept.{slice_get-drop}
use Rattle.range_collections.proofs.laws.kept.items_past_the_result_stay.Goals as goal

pub returns : goal.returns
returns g c = λ f a b old new n i writes past.
    let place : n + (i - n) ≡ i = omega (arith, past) in
    subst (λ k. slice_get new k ≡ slice_get old k) place
    (sym (slice_get-drop n (i - n) new) ∙ ap (λ rest. slice_get rest (i - n)) writes.after ∙ slice_get-drop n (i - n) old)
