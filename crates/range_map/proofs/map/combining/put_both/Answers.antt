use Rattle.std.proofs.Common.{Result, Ok, Err, OnOk, [], refl, sym, ap₂, ◌∙◌, arith}
use Rattle.std.specs.Option.{option_eq}
use Rattle.range_map.specs.Listed.{steps_of}
use Rattle.range_map.proofs.MadeUpTo.{IsMadeUpTo-both}
use Rattle.range_map.proofs.map.combining.put_both.Goals as goal

on_ok : {X F P Q : Type 0} (r : Result X F) → (P → Q) → OnOk r P → OnOk r Q
on_ok (Ok x) to h = to h
on_ok (Err e) to h = h

pub returns : goal.returns
returns g c =
    let a = c.args.a.now in
    let b = c.args.b.now in
    let f = g.O.MapOperation.gives c.args.op.now in
    let run = c.requires.run in
    on_ok c.put.result
    (λ put.
    IsMadeUpTo-both g.K.Ord.cmp g.met.K.Ord.total g.O.Output.PartialEq.eq g.met.O.Output.Eq.laws f a b c.requires.a_ascends c.requires.b_ascends c.args.i c.args.j
    (omega (arith, run.0)) (omega (arith, run.1)) (steps_of c.args.list.now.items) (steps_of c.put.new.list.items) c.key.result.now c.in_ok-option.option c.requires.made put run.0 run.1 (c.key.ensures c.key.result.now) run.2
    (sym (ap₂ (λ p q. option_eq g.O.Output.PartialEq.eq c.in_ok-option.option (f p q)) c.option_before.ensures c.option_before-2.ensures) ∙ c.in_ok-option.ensures))
    (c.put.ensures [] refl)
