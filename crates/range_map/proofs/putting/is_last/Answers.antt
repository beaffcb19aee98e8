use Rattle.std.proofs.Common.{◌≡◌, ◌-◌, ◌<◌, ◌++◌, suc, None, length, sym, ap, ◌∙◌, option_copied, rules, arith}
use Rattle.std.proofs.lemmas.List.{append-nil}
use Rattle.std.specs.Option.{option_eq}
use Rattle.range_map.specs.Combining.{option_before}
use Rattle.range_map.specs.Listed.{steps_of}
use Rattle.range_map.proofs.Listed.{item-past, item-within, step-option, last-behind}
use Rattle.range_map.proofs.Windowed.{nothing-last}
use Rattle.range_map.proofs.putting.is_last.Goals as goal

pub returns-in-Some : goal.returns-in-Some
returns-in-Some g c = λ front before.
    let list = c.args.list.now in
    let within : length list - 1 < length list = item-within list (length list - 1) c.last.result c.last.ensures.value (search rules) in
    let next : suc (length list - 1) ≡ length list = omega (arith, within) in
    c.eq.ensures
    ∙ ap (λ p. option_eq g.U.PartialEq.eq p c.args.option.now)
    (step-option list (length list - 1) c.last.result c.in-Some.step.now c.last.ensures.value (ap option_copied c.in-Some.is)
    ∙ last-behind None front list (length list - 1) next)

pub returns-in-None : goal.returns-in-None
returns-in-None g c = λ front before.
    let list = c.args.list.now in
    let E = g.U.PartialEq.eq in
    c.are_alike.ensures
    ∙ ap (λ p. option_eq E p c.args.option.now) before
    ∙ ap (λ zs. option_eq E (option_before (steps_of zs) (length zs)) c.args.option.now)
    (sym (append-nil front) ∙ ap (λ zs. front ++ zs) (sym (nothing-last list (item-past list (length list - 1) c.last.result c.last.ensures.value (search rules)))))
