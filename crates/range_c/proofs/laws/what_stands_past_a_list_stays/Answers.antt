use Rattle.std.proofs.Common.{◌≡◌, ◌+◌, ◌-◌, ◌≤◌, ◌∙◌, ap, arith, List, drop, slice_get, subst, sym, ℕ}
use Rattle.range_collections.proofs.Kept.{slice_get-drop}
use Rattle.range_c.proofs.laws.what_stands_past_a_list_stays.Goals as goal

same_past : {K : Type 0} (n i : ℕ) (old new : List K) → drop n new ≡ drop n old → n ≤ i → slice_get new i ≡ slice_get old i
same_past n i old new same past =
    let place : n + (i - n) ≡ i = omega (arith, past) in
    subst (λ k. slice_get new k ≡ slice_get old k) place
    (sym (slice_get-drop n (i - n) new) ∙ ap (λ rest. slice_get rest (i - n)) same ∙ slice_get-drop n (i - n) old)

pub returns : goal.returns
returns g c = record {
  list = λ f a b old new n i answers fits past. same_past n i old new (answers.after fits) past;
  from_least = λ least f a b old new n i answers fits past. same_past n i old new (answers.after fits) past;
}
