use Rattle.std.proofs.Common.{◌≡◌, ◌<◌, ◌==◌, ◌∙◌, ℕ, Bool, true, false, List, [], length, refl, sym, ap, arith}
use Rattle.std.proofs.lemmas.Bool.Decides.{nat_tests}
use Rattle.range_list.specs.Lists.{joined}
use Rattle.range_map.specs.Listed.{steps_of, steps_in}
use Rattle.range_map.specs.declared.step.Step.{Step}
use Rattle.range_map.proofs.Listed.{length-keys}
use Rattle.range_map.proofs.NoValues.{IsTrue-no_values}
use Rattle.range_map.proofs.map.RangeMap.is_empty.Goals as goal

zero-test : (b : Bool) (n : ℕ) → (b ≡ true → n ≡ 0) → (b ≡ false → 0 < n) → b ≡ (n == 0)
zero-test true n none some = let e : n ≡ 0 = none refl in ap (λ m. m == 0) (sym e)
zero-test false n none some = let more : 0 < n = some refl in grind (arith, nat_tests)

tested : {K V : Type 0} (b : Bool) (items : List (Step K V)) → (b ≡ true → items ≡ []) → (b ≡ false → 0 < length items) → b ≡ (length (steps_of items).keys == 0)
tested b items none some =
    zero-test b (length (steps_of items).keys) (λ on. length-keys items ∙ ap length (none on)) (λ off. omega (arith, some off, length-keys items))

pub returns : goal.returns
returns g c =
    rw (← c.self.view_is)
    (IsTrue-no_values g.K.Ord.cmp g.met.K.Ord.total g.V.PartialEq.eq (steps_in c.self.inside.steps)
    c.is_empty.result c.self.invariant (tested c.is_empty.result (joined c.self.inside.steps) c.is_empty.ensures.none c.is_empty.ensures.some))
