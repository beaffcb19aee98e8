use Rattle.std.proofs.Common.{ℕ, List, length, ap, subst, arith}
use Rattle.range_merge.proofs.FirstRun.{weight-le}
use Rattle.range_map.specs.Combining.{IsMadeUpTo}
use Rattle.range_map.specs.Listed.{steps_of}
use Rattle.range_map.proofs.MadeUpTo.{IsMadeUpTo-nothing}
use Rattle.range_map.proofs.RunPlaces.{left_len-within, right_len-within}
use Rattle.range_map.proofs.map.combining.combined.Goals as goal

pub loop-i-init : goal.loop-i-init
loop-i-init g c =
    let a = c.args.a.now in
    let b = c.args.b.now in
    record {
      left_within = omega arith;
      right_within = omega arith;
      at_least = omega arith;
      paid = omega arith;
      made = IsMadeUpTo-nothing g.K.Ord.cmp g.met.K.Ord.total g.O.Output.PartialEq.eq g.met.O.Output.Eq.laws (g.O.MapOperation.gives c.args.op.now) a b c.requires.off (steps_of c.new-list.result.items) (ap (λ (ss : List _). (steps_of ss).keys) c.new-list.ensures.items) (ap (λ (ss : List _). (steps_of ss).options) c.new-list.ensures.items);
    }

pub next_run-run-requires-clause-made : goal.next_run-run-requires-clause-made
next_run-run-requires-clause-made g c =
    omega (
      arith,
      c.requires.made,
      c.loop-i.invariant.paid,
      weight-le g.met.K.Ord.total c.args.a.now.keys c.args.b.now.keys c.requires.a_ascends c.requires.b_ascends,
      c.len-a_len.ensures,
      c.len-b_len.ensures,
    )

pub loop-i-preserved : goal.loop-i-preserved
loop-i-preserved g c =
    let ks = c.args.a.now.keys in
    let ls = c.args.b.now.keys in
    let i = c.loop-i.i in
    let j = c.loop-i.j in
    let run = c.next_run-run.ensures in
    record {
      left_within = rw c.left_len-i.ensures (left_len-within g.K.Ord.cmp ks ls i j c.next_run-run.result c.loop-i.invariant.left_within run.run);
      right_within = rw c.right_len-j.ensures (right_len-within g.K.Ord.cmp ks ls i j c.next_run-run.result c.loop-i.invariant.right_within run.run);
      at_least = omega (arith, c.loop-i.invariant.at_least, run.at_least);
      paid = rw (c.left_len-i.ensures, c.right_len-j.ensures) (omega (arith, c.loop-i.invariant.paid, run.paid));
      made = rw (c.left_len-i.ensures, c.right_len-j.ensures) c.in_ok-put_run.ensures;
    }

pub returns-clause-made : goal.returns-clause-made
returns-clause-made g c =
    let order = g.K.Ord.cmp in
    let a = c.args.a.now in
    let b = c.args.b.now in
    let E = g.O.Output.PartialEq.eq in
    let f = g.O.MapOperation.gives c.args.op.now in
    let made = steps_of c.put_right.new.list.items in
    subst (λ (m : ℕ). IsMadeUpTo order E f a b (length a.keys) m made) c.len-b_len.ensures
    (subst (λ (n : ℕ). IsMadeUpTo order E f a b n c.len-b_len.result made) c.len-a_len.ensures c.in_ok-put_right.ensures.made)
