use Rattle.std.proofs.Common.{◌≡◌, ◌∷◌, ◌++◌, [], ◌+◌, suc, true, List, sym, ap, ap₂, ◌∙◌, option_copied, arith}
use Rattle.std.specs.Borrow.{Bor}
use Rattle.std.proofs.lemmas.List.{map-append, take_more}
use Rattle.range_map.specs.Units.{unit_if, on_off}
use Rattle.range_map.specs.Read.{steps_read}
use Rattle.range_map.specs.declared.step.Step.{Step}
use Rattle.range_map.proofs.Setlike.{even-test, on_off-more}
use Rattle.range_map.proofs.borrowed_steps.units.Goals as goal

pub loop-i-preserved : goal.loop-i-preserved
loop-i-preserved g c =
    let item = c.index-boundaries-i.result in
    let i = c.loop-i.i in
    let more : suc i ≡ i + 1 = omega arith in
    record {
      keys = ap (λ (ss : List (Step (Bor g.row.K.Denot) (Bor (Unit {0})))). (steps_read ss).keys) c.in_ok-push.ensures.items
          ∙ map-append (λ (s : Step (Bor g.row.K.Denot) (Bor (Unit {0}))). s.key.now) c.loop-i.list.items _
          ∙ ap₂ (λ ks k. ks ++ k ∷ []) c.loop-i.invariant.keys c.index-boundaries-i.is
          ∙ sym (take_more c.args.boundaries.now i item (omega arith));
      options = ap (λ (ss : List (Step (Bor g.row.K.Denot) (Bor (Unit {0})))). (steps_read ss).options) c.in_ok-push.ensures.items
          ∙ map-append (λ (s : Step (Bor g.row.K.Denot) (Bor (Unit {0}))). option_copied s.option) c.loop-i.list.items _
          ∙ ap₂ (λ ws p. ws ++ p ∷ []) c.loop-i.invariant.options (c.unit_if.ensures ∙ ap unit_if (even-test i))
          ∙ on_off-more true i
          ∙ ap (on_off true) more;
    }
