use Rattle.std.proofs.Common.{◌≡◌, ℕ, ◌-◌, ◌<◌, ◌∷◌, zero, suc, None, Some, Option, List, get_or, sym, ap, ◌∙◌, option_copied, arith}
use Rattle.std.specs.Option.{is_some, option_eq}
use Rattle.range_list.specs.Lists.{place_at}
use Rattle.range_map.specs.Listed.{steps_in}
use Rattle.range_map.proofs.Modified.{IsModified-set, value-read, no-value}
use Rattle.range_map.proofs.Retained.{item_at}
use Rattle.range_map.proofs.modifying.modify_stretch.Goals as goal

-- a value stands behind the front
behind_front : {V : Type 0} (v : V) (ps : List (Option V)) (n : ℕ) → Some v ≡ get_or (None ∷ ps) n None → 0 < n
behind_front v ps zero h = absurd (cc)
behind_front v ps (suc n) h = omega arith

pub returns-in_default-clause-found : goal.returns-in_default-clause-found
returns-in_default-clause-found g c =
    let place = c.place_up_to-place.ensures in
    ap is_some
    (value-read g.K.Ord.cmp g.met.K.Ord.total g.V.PartialEq.eq g.met.V.Eq.laws (steps_in c.args.steps.now) c.requires.canonical c.args.key.now
    (place_at c.args.steps.now c.place_up_to-place.result) place.within place.up_to place.above
    c.option_before.result None c.option_before.ensures (ap option_copied c.in_default.is))

pub returns-in_err-option-clause-none : goal.returns-in_err-option-clause-none
returns-in_err-option-clause-none g c =
    let place = c.place_up_to-place.ensures in
    λ none.
    absurd (no-value g.K.Ord.cmp g.met.K.Ord.total g.V.PartialEq.eq g.met.V.Eq.laws (steps_in c.args.steps.now) c.requires.canonical c.args.key.now
    (place_at c.args.steps.now c.place_up_to-place.result) place.within place.up_to place.above
    c.option_before.result c.in-Some.value.now c.option_before.ensures (ap option_copied c.in-Some.is) none)

pub returns-in_err-set_before-clause-none : goal.returns-in_err-set_before-clause-none
returns-in_err-set_before-clause-none g c =
    let place = c.place_up_to-place.ensures in
    λ none.
    absurd (no-value g.K.Ord.cmp g.met.K.Ord.total g.V.PartialEq.eq g.met.V.Eq.laws (steps_in c.args.steps.now) c.requires.canonical c.args.key.now
    (place_at c.args.steps.now c.place_up_to-place.result) place.within place.up_to place.above
    c.option_before.result c.in-Some.value.now c.option_before.ensures (ap option_copied c.in-Some.is) none)

pub returns-clause-found : goal.returns-clause-found
returns-clause-found g c =
    let place = c.place_up_to-place.ensures in
    ap is_some
    (value-read g.K.Ord.cmp g.met.K.Ord.total g.V.PartialEq.eq g.met.V.Eq.laws (steps_in c.args.steps.now) c.requires.canonical c.args.key.now
    (place_at c.args.steps.now c.place_up_to-place.result) place.within place.up_to place.above
    c.option_before.result (Some c.in-Some.value.now) c.option_before.ensures (ap option_copied c.in-Some.is))

pub returns-clause-none : goal.returns-clause-none
returns-clause-none g c =
    let place = c.place_up_to-place.ensures in
    λ none.
    absurd (no-value g.K.Ord.cmp g.met.K.Ord.total g.V.PartialEq.eq g.met.V.Eq.laws (steps_in c.args.steps.now) c.requires.canonical c.args.key.now
    (place_at c.args.steps.now c.place_up_to-place.result) place.within place.up_to place.above
    c.option_before.result c.in-Some.value.now c.option_before.ensures (ap option_copied c.in-Some.is) none)

pub returns-clause-values : goal.returns-clause-values
returns-clause-values g c = λ _.
    let place = c.place_up_to-place.ensures in
    let m = steps_in c.args.steps.now in
    let n = place_at c.args.steps.now c.place_up_to-place.result in
    let here : Some c.in-Some.value.now ≡ get_or (None ∷ m.options) n None = sym (ap option_copied c.in-Some.is) ∙ c.option_before.ensures in
    let some = behind_front c.in-Some.value.now m.options n here in
    let s = item_at m.keys (n - 1) (omega (arith, some, place.within)) in
    let value = value-read g.K.Ord.cmp g.met.K.Ord.total g.V.PartialEq.eq g.met.V.Eq.laws (steps_in c.args.steps.now) c.requires.canonical c.args.key.now
    (place_at c.args.steps.now c.place_up_to-place.result) place.within place.up_to place.above
    c.option_before.result (Some c.in-Some.value.now) c.option_before.ensures (ap option_copied c.in-Some.is) in
    IsModified-set g.K.Ord.cmp g.met.K.Ord.total g.V.PartialEq.eq g.met.V.Eq.laws (steps_in c.args.steps.now) c.requires.canonical c.args.key.now
    (place_at c.args.steps.now c.place_up_to-place.result) place.within place.up_to place.above (g.O.MapUpdate.gives c.args.op.now) c.in_ok-option.option s.0 (steps_in c.set_before.new.steps) some s.1
    (ap (λ p. option_eq g.V.PartialEq.eq c.in_ok-option.option (g.O.MapUpdate.gives c.args.op.now p)) (sym value) ∙ c.in_ok-option.ensures)
    (rw (← s.1) (c.in_ok-set_before.ensures.values s.0))
