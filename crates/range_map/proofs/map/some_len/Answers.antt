use Rattle.std.proofs.Common.{◌≡◌, ◌+◌, ◌≤◌, true, false, true≢false, sym, List, [], ◌∷◌, Option, Some, None, length, filter, refl, ap, arith}
use Rattle.std.proofs.lemmas.List.{length-map}
use Rattle.std.specs.Option.{is_some}
use Rattle.range_map.specs.Listed.{steps_of}
use Rattle.range_map.specs.declared.step.Step.{Step}
use Rattle.range_map.proofs.map.some_len.Goals as goal

filter-none : {V : Type 0} (option : Option V) (options : List (Option V)) → is_some option ≡ false → length (filter is_some (option ∷ options)) ≡ length (filter is_some options)
filter-none None options e = refl
filter-none (Some v) options e = absurd (true≢false e)

filter-some : {V : Type 0} (option : Option V) (options : List (Option V)) → is_some option ≡ true → length (filter is_some (option ∷ options)) ≡ length (filter is_some options) + 1
filter-some None options e = absurd (true≢false (sym e))
filter-some (Some v) options e = omega arith

filter-most : {V : Type 0} (options : List (Option V)) → length (filter is_some options) ≤ length options
filter-most [] = omega arith
filter-most (None ∷ options) = omega (arith, filter-most options)
filter-most (Some v ∷ options) = omega (arith, filter-most options)

pub loop-step-init : goal.loop-step-init
loop-step-init g c =
    omega (
      arith,
      c.len-len.ensures,
      ap length c.items-unread.ensures,
      ap (λ (xs : List (Step g.row.K.Denot g.row.V.Denot)). length (filter is_some (steps_of xs).options)) c.items-unread.ensures,
    )

pub overflow_sub-len : goal.overflow_sub-len
overflow_sub-len g c =
    let rest = c.take_first.new.self in
    omega (
      arith,
      c.loop-step.invariant,
      ap length c.in-Some.ensures,
      ap (λ (xs : List (Step g.row.K.Denot g.row.V.Denot)). length (filter is_some (steps_of xs).options)) c.in-Some.ensures,
      filter-none c.in-Some.step.now.option (steps_of rest).options c.if-is_none.ensures,
      filter-most (steps_of rest).options,
      length-map rest (λ s. s.option),
    )

pub loop-step-preserved-then-is_none : goal.loop-step-preserved-then-is_none
loop-step-preserved-then-is_none g c =
    let rest = c.take_first.new.self in
    omega (
      arith,
      c.loop-step.invariant,
      ap length c.in-Some.ensures,
      ap (λ (xs : List (Step g.row.K.Denot g.row.V.Denot)). length (filter is_some (steps_of xs).options)) c.in-Some.ensures,
      filter-none c.in-Some.step.now.option (steps_of rest).options c.if-is_none.ensures,
      filter-most (steps_of rest).options,
      length-map rest (λ s. s.option),
    )

pub loop-step-preserved : goal.loop-step-preserved
loop-step-preserved g c =
    omega (
      arith,
      c.loop-step.invariant,
      ap length c.in-Some.ensures,
      ap (λ (xs : List (Step g.row.K.Denot g.row.V.Denot)). length (filter is_some (steps_of xs).options)) c.in-Some.ensures,
      filter-some c.in-Some.step.now.option (steps_of c.take_first.new.self).options c.if-is_none.ensures,
    )

pub returns : goal.returns
returns g c =
    let none : length (filter is_some (steps_of c.loop-step.unread).options) ≡ 0 = ap (λ (xs : List (Step g.row.K.Denot g.row.V.Denot)). length (filter is_some (steps_of xs).options)) c.in_default.ensures.0 in
    omega (arith, c.loop-step.invariant, none, ap length c.in_default.ensures.0)
