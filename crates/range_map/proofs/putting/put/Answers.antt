use Rattle.std.proofs.Common.{◌≡◌, ◌∷◌, ◌++◌, [], true, false, length, refl, subst, sym, ap, ◌∙◌, append_assoc}
use Rattle.std.specs.Option.{option_eq}
use Rattle.range_map.specs.Combining.{option_before}
use Rattle.range_map.specs.Listed.{steps_of}
use Rattle.range_map.proofs.Pushed.{IsPut-left_out, IsPut-behind}
use Rattle.range_map.proofs.putting.put.Goals as goal

pub returns-then-is_last : goal.returns-then-is_last
returns-then-is_last g c = λ front before.
    IsPut-left_out g.K.Ord.cmp g.met.K.Ord.total g.U.PartialEq.eq (front ++ c.args.list.now.items) c.args.key.now c.args.option _ refl
    (subst (λ ls. option_eq g.U.PartialEq.eq (option_before (steps_of (front ++ ls)) (length (front ++ ls))) c.args.option ≡ true) c.as_slice.ensures.value
    (sym (c.is_last.ensures front before) ∙ c.if-is_last.true))

pub returns : goal.returns
returns g c = λ front before.
    IsPut-behind g.K.Ord.cmp g.met.K.Ord.total g.U.PartialEq.eq (front ++ c.args.list.now.items) c.args.key.now c.args.option _ refl
    (subst (λ ls. option_eq g.U.PartialEq.eq (option_before (steps_of (front ++ ls)) (length (front ++ ls))) c.args.option ≡ false) c.as_slice.ensures.value
    (sym (c.is_last.ensures front before) ∙ c.if-is_last.false))
    c.in_ok-key.key (c.requires.copies c.args.key.now c.in_ok-key.key c.in_ok-key.ensures.alike) (front ++ c.push.new.self.items)
    (ap (λ zs. front ++ zs) c.in_ok-push.ensures.items ∙ sym (append_assoc front c.args.list.now.items (record { key = c.in_ok-key.key; option = c.args.option } ∷ [])))
