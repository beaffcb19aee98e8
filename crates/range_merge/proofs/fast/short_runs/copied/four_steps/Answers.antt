use Rattle.std.proofs.Common.{take, false}
use Rattle.range_merge.specs.ShortRuns.{place}
use Rattle.range_merge.proofs.EvenSteps.{IsStep-of}
use Rattle.range_merge.proofs.CopySteps.{behind-four}
use Rattle.range_merge.proofs.fast.short_runs.copied.four_steps.Goals as goal

pub returns-clause-steps : goal.returns-clause-steps
returns-clause-steps g c =
    let one = c.step-one in
    let two = c.step-two in
    let three = c.step-three in
    let alike = g.P.Copier.alike in
    let order = g.C.Compare.order in
    let f = g.O.MergeOperation.connective c.args.op.now in
    let a = c.args.a.now in
    let b = c.args.b.now in
    record {
      mid = place one.result.i one.result.j (take one.result.k one.new.out) one.result.next false (g.C.Compare.count one.new.cmp);
      first = IsStep-of alike order f a b c.requires.left_is c.requires.right_is one.ensures.lefts one.ensures.rights one.ensures.put one.ensures.left_is one.ensures.right_is one.ensures.next
          one.ensures.counted;
      rest = record {
        mid = place two.result.i two.result.j (take two.result.k two.new.out) two.result.next false (g.C.Compare.count two.new.cmp);
        first = IsStep-of alike order f a b one.ensures.left_is one.ensures.right_is two.ensures.lefts two.ensures.rights two.ensures.put two.ensures.left_is two.ensures.right_is
            two.ensures.next two.ensures.counted;
        rest = record {
          mid = place three.result.i three.result.j (take three.result.k three.new.out) three.result.next false (g.C.Compare.count three.new.cmp);
          first = IsStep-of alike order f a b two.ensures.left_is two.ensures.right_is three.ensures.lefts three.ensures.rights three.ensures.put three.ensures.left_is
              three.ensures.right_is three.ensures.next three.ensures.counted;
          rest = IsStep-of alike order f a b three.ensures.left_is three.ensures.right_is c.step.ensures.lefts c.step.ensures.rights c.step.ensures.put c.step.ensures.left_is
              c.step.ensures.right_is c.step.ensures.next c.step.ensures.counted;
        };
      };
    }

pub returns-clause-behind : goal.returns-clause-behind
returns-clause-behind g c = λ keep.
    behind-four c.step-one.result.k c.step-two.result.k c.step-three.result.k c.step.result.k c.args.out.now c.step-one.new.out c.step-two.new.out c.step-three.new.out c.step.new.out
    c.step-two.ensures.from c.step-three.ensures.from c.step.ensures.from (c.step-one.ensures.behind keep) (c.step-two.ensures.behind keep) (c.step-three.ensures.behind keep) (c.step.ensures.behind keep)
