use Rattle.std.proofs.Common.{◌≡◌, [], refl, subst, sym, ap₂, ◌∙◌, arith}
use Rattle.std.specs.Option.{option_eq}
use Rattle.range_map.specs.Combining.{IsBelowFrom}
use Rattle.range_map.specs.Listed.{steps_of}
use Rattle.range_map.proofs.MadeUpTo.{IsMadeUpTo-left}
use Rattle.range_map.proofs.map.combining.put_left.Goals as goal

pub loop-n-preserved : goal.loop-n-preserved
loop-n-preserved g c =
    let a = c.args.a.now in
    let b = c.args.b.now in
    let f = g.O.MapOperation.gives c.args.op.now in
    let n = c.loop-n.n in
    let key = c.key.result.now in
    IsMadeUpTo-left g.K.Ord.cmp g.met.K.Ord.total g.O.Output.PartialEq.eq g.met.O.Output.Eq.laws f a b c.requires.a_ascends c.requires.b_ascends n c.args.j (omega (arith, c.loop-n-test.true, c.requires.left_within)) c.requires.right_within
    (steps_of c.loop-n.list.items) (steps_of c.put.new.list.items) key c.in_ok-option.option c.loop-n.invariant (c.in_ok-put.ensures [] refl) (omega (arith, c.loop-n-test.true, c.requires.left_within)) (c.key.ensures key)
    (subst (λ k. IsBelowFrom g.K.Ord.cmp b.keys c.args.j k) (sym (c.key.ensures key)) (c.requires.below n key c.loop-n.auto.n c.loop-n-test.true))
    (sym (ap₂ (λ p q. option_eq g.O.Output.PartialEq.eq c.in_ok-option.option (f p q)) c.option_before.ensures c.option_before-in-loop-n.ensures) ∙ c.in_ok-option.ensures)

pub returns : goal.returns
returns g c =
    let e : c.loop-n.n ≡ c.args.to = omega (arith, c.loop-n-test.false, c.loop-n.auto.n-end c.requires.ordered) in
    record { made = rw (sym e) c.loop-n.invariant }
