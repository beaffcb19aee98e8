use Rattle.std.proofs.Common.{refl, ◌<◌, ◌≤◌, inl, inr, subst, arith}
use Rattle.std.proofs.lemmas.Bool.{cases_lt}
use Rattle.range_tracker.specs.Offsets.{HasBoundaries}
use Rattle.range_tracker.proofs.laws.memory_runs_out_only_where_the_list_grows.Goals as goal

pub returns : goal.returns
returns c = λ limit m n had command may before after. (
  elim (cases_lt 0 m) as (λ _. 0 < m) [
    | inl some ↦ some
    | inr none ↦ absurd (may.first (subst (HasBoundaries had) (omega (arith, none)) before) refl)
  ],
  elim (cases_lt m n) as (λ _. m < n) [
    | inl more ↦ more
    | inr few ↦ absurd (may.no_growth m n before after few refl)
  ],
  elim (cases_lt limit n) as (λ _. n ≤ limit) [
    | inl many ↦ (let told = (may.too_many n).1 (after, many) in cc)
    | inr within ↦ within
  ],
)
