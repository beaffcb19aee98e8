use Rattle.std.proofs.Common.{◌≡◌, ◌+◌, ◌<◌, inl, inr, length, arith}
use Rattle.std.proofs.lemmas.Bool.{cases_lt}
use Rattle.range_c.proofs.laws.a_buffer_of_the_length_told_is_enough.Goals as goal

pub returns : goal.returns
returns g c = record {
  enough = λ f a b items short short_new long long_new told n means first none room then.
      let more : length short < length a + length items =
      elim (cases_lt (length short) (length a + length items)) as (λ _. length short < length a + length items) [
        | inl less ↦ less
        | inr fits ↦ absurd (omega (arith, first.counted items means fits, none))
      ] in
      let all : told ≡ length a + length items = first.needed items means more in
      then.means (omega (arith, all, room, then.counted items means (omega (arith, all, room))));
}
