use Rattle.std.proofs.Common.{ap, ◌∙◌, get_or, map, pos, refl, rules, take}
use Rattle.std.specs.Int.{w64}
use Rattle.std.specs.Prelude.{FitsSigned}
use Rattle.std.proofs.lemmas.Int.{to_z-of_z}
use Rattle.std.proofs.lemmas.List.{map-append, take_more, take_all}
use Rattle.std.proofs.lemmas.Result.{IfOk-from_err}
use Rattle.serde_json.specs.View.{view}
use Rattle.range_collections.specs.Json.{number_data}
use Rattle.range_collections.proofs.json.values.Goals as goal

pub loop-x-init : goal.loop-x-init
loop-x-init c = rw c.new-list.ensures.items refl

pub bounds-numbers-x-index : goal.bounds-numbers-x-index
bounds-numbers-x-index c = c.loop-x-test.true

pub returns-in_err-push : goal.returns-in_err-push
returns-in_err-push c = IfOk-from_err _ _ c.from_residual.ensures.0

pub loop-x-preserved : goal.loop-x-preserved
loop-x-preserved c =
    let before = take c.loop-x.x-index c.args.numbers.now in
    let x = get_or c.args.numbers.now c.loop-x.x-index (pos 0) in
    let fits : FitsSigned w64 x = search rules in
    rw (c.in_ok-push.ensures.items, take_more c.args.numbers.now c.loop-x.x-index (pos 0) c.loop-x-test.true)
    (rw (map-append view c.loop-x.list.items _, map-append number_data before _, c.loop-x.invariant, c.from.ensures, to_z-of_z w64 x fits) refl)

pub returns : goal.returns
returns c = c.loop-x.invariant ∙ ap (map number_data) (take_all c.loop-x.x-index c.args.numbers.now c.loop-x-test.false)
