use Rattle.std.proofs.Common.{◌≡◌, sym, Some, None, ◌∙◌, ap, ◌++◌, ◌∷◌, [], rules}
use Rattle.std.specs.Prelude.{FitsSigned}
use Rattle.std.specs.Int.{w64}
use Rattle.std.proofs.lemmas.Int.{to_z-of_z}
use Rattle.std.proofs.lemmas.List.{take_all}
use Rattle.serde_json.specs.View.{view}
use Rattle.range_collections.specs.Json.{whole_number}
use Rattle.range_collections.proofs.JsonLemmas.{filter_map-kept, filter_map-left_out}
use Rattle.range_collections.proofs.json.read.Goals as goal
use Rattle.range_collections.proofs.json.read.Goals.{in-Some+in_ok-push, in_default}

pub loop-item-preserved : goal.loop-item-preserved
loop-item-preserved g c =
    elim c.match-as_i64.branch [
      | in-Some+in_ok-push w ↦
          let fits : FitsSigned w64 w.in-Some.x = search rules in
          let pushed : w.push.new.self.items ≡ c.loop-item.list.items ++ w.in-Some.x ∷ [] = rw (to_z-of_z w64 w.in-Some.x fits) at w.in_ok-push.ensures.ok in
          let number : whole_number (view c.item-item.result) ≡ Some w.in-Some.x = sym w.in-Some.ensures in
          filter_map-kept (λ v. whole_number (view v)) c.args.items.now c.loop-item.list.items c.loop-item.item-index c.item-item.result
          c.loop-item-test.true c.item-item.is c.loop-item.invariant w.in-Some.x number c.match-as_i64.list.items (ap (λ v. v.items) w.list-is ∙ pushed)
      | in_default w ↦
          let none : whole_number (view c.item-item.result) ≡ None = sym w.in_default.ensures in
          filter_map-left_out (λ v. whole_number (view v)) c.args.items.now c.loop-item.list.items c.loop-item.item-index c.item-item.result
          c.loop-item-test.true c.item-item.is c.loop-item.invariant none c.match-as_i64.list.items (ap (λ v. v.items) w.list-is)
    ]

pub returns : goal.returns
returns g c =
    let whole = rw (take_all c.loop-item.item-index c.args.items.now c.loop-item-test.false) at c.loop-item.invariant in
    rw (← whole) c.from_unsorted.ensures.distinct
