use Rattle.std.proofs.Common.{◌≡◌, None, ap, ◌∙◌, sym, cond, false, true, set, get_or, refl, rules}
use Rattle.std.proofs.lemmas.List.{set-get_or}
use Rattle.range_list.specs.Lists.{joined, place_at}
use Rattle.range_map.specs.declared.step.Step.{Step}
use Rattle.range_map.proofs.retaining.drop_unkept.Goals as goal

pub returns-then-not-stays-clause-items : goal.returns-then-not-stays-clause-items
returns-then-not-stays-clause-items g c = λ d.
    let items = joined c.args.steps.now in
    let i = place_at c.args.steps.now c.args.at in
    let s : Step g.row.K.Denot g.row.V.Denot = get_or items i d in
    let off : c.stays.result ≡ false = search rules in
    c.set_key.ensures.items d
    ∙ ap (set items i) (sym (c.stays.ensures d ∙ ap (λ b. record { key = s.key; option = cond b s.option None }) off))

pub returns-else-not-stays-clause-places : goal.returns-else-not-stays-clause-places
returns-else-not-stays-clause-places g c = λ p here. (here, refl)

pub returns-else-not-stays-clause-items : goal.returns-else-not-stays-clause-items
returns-else-not-stays-clause-items g c = λ d.
    let items = joined c.args.steps.now in
    let i = place_at c.args.steps.now c.args.at in
    let s : Step g.row.K.Denot g.row.V.Denot = get_or items i d in
    let on : c.stays.result ≡ true = search rules in
    sym (ap (set items i) (c.stays.ensures d ∙ ap (λ b. record { key = s.key; option = cond b s.option None }) on) ∙ set-get_or items i d)
