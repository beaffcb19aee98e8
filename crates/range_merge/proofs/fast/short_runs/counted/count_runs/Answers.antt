use Rattle.std.proofs.Common.{◌≡◌, ◌+◌, [], ◌-◌, ◌<◌, ◌^◌, ◌%◌, length, drop, refl, ap, sym, ◌∙◌, arith}
use Rattle.std.proofs.lemmas.List.{length-drop, drop-drop, take_rest}
use Rattle.range_merge.proofs.CopySteps.{Reads-start, Reads-cost, Reads-made}
use Rattle.range_merge.proofs.CountSteps.{CameTo-sixteen}
use Rattle.range_merge.proofs.EvenSteps.{before-rest, even-part, even-then, one-few, parted}
use Rattle.range_merge.proofs.fast.short_runs.counted.count_runs.Goals as goal

pub loop-cmp-init : goal.loop-cmp-init
loop-cmp-init g c =
    let from = c.args.from in
    let at = c.from_even-at in
    let a_some : from.i < length c.args.a.now = omega (arith, length-drop from.i c.args.a.now, c.requires.stands.0) in
    let b_some : from.j < length c.args.b.now = omega (arith, length-drop from.j c.args.b.now, c.requires.stands.1) in
    let i_is : from.i - from.i % 2 + at.result.i ≡ from.i = parted from.i at.ensures.lefts in
    let j_is : from.j - from.j % 2 + at.result.j ≡ from.j = parted from.j at.ensures.rights in
    record {
      p = from.i - from.i % 2;
      q = from.j - from.j % 2;
      lefts_are = take_rest c.args.a.now (from.i - from.i % 2);
      rights_are = take_rest c.args.b.now (from.j - from.j % 2);
      p_within = omega (arith, a_some);
      q_within = omega (arith, b_some);
      p_even = even-part from.i;
      q_even = even-part from.j;
      i_few = one-few from.i at.ensures.lefts;
      j_few = one-few from.j at.ensures.rights;
      reached = record {
        out = [];
        len = sym at.ensures.taken;
        reads = rw (i_is, j_is, at.ensures.next) (Reads-start (λ x y. x ≡ y) g.C.Compare.order (g.O.MergeOperation.connective c.args.op.now) c.args.a.now c.args.b.now c.args.from.i c.args.from.j (g.C.Compare.count c.args.cmp.now) from.next c.requires.stands);
      };
      at_most = omega (arith, i_is, j_is, at.ensures.taken);
    }

pub sixteen_steps-read-requires-clause-made : goal.sixteen_steps-read-requires-clause-made
sixteen_steps-read-requires-clause-made g c =
    let short : length (drop c.args.from.i c.args.a.now) + length (drop c.args.from.j c.args.b.now) < 2 ^ 65 = omega (arith, c.requires.fits) in
    omega (arith, Reads-made (λ x y. x ≡ y) g.C.Compare.order (g.O.MergeOperation.connective c.args.op.now) c.args.a.now c.args.b.now c.args.from.i c.args.from.j (omega arith) short c.requires.made c.loop-cmp.invariant.reached.reads)

pub sixteen_steps-read-requires-clause-room : goal.sixteen_steps-read-requires-clause-room
sixteen_steps-read-requires-clause-room g c =
    let inv = c.loop-cmp.invariant in
    let before_a : length c.args.a.now ≡ length c.loop-cmp.lefts.now + inv.p = before-rest inv.p c.args.a.now c.loop-cmp.lefts.now inv.lefts_are inv.p_within in
    let before_b : length c.args.b.now ≡ length c.loop-cmp.rights.now + inv.q = before-rest inv.q c.args.b.now c.loop-cmp.rights.now inv.rights_are inv.q_within in
    omega (
      arith,
      inv.at_most,
      inv.i_few,
      inv.j_few,
      before_a,
      before_b,
      length-drop c.args.from.i c.args.a.now,
      length-drop c.args.from.j c.args.b.now,
      c.requires.stands.0,
      c.requires.stands.1,
      c.requires.fits,
      c.loop-cmp-test.ensures.lefts refl,
      c.loop-cmp-test.ensures.rights refl,
    )

pub overflow_sub-a : goal.overflow_sub-a
overflow_sub-a g c =
    let inv = c.loop-cmp.invariant in
    omega (arith, before-rest inv.p c.args.a.now c.loop-cmp.lefts.now inv.lefts_are inv.p_within)

pub overflow_sub-b : goal.overflow_sub-b
overflow_sub-b g c =
    let inv = c.loop-cmp.invariant in
    omega (arith, before-rest inv.q c.args.b.now c.loop-cmp.rights.now inv.rights_are inv.q_within)

pub overflow_sub-a-2 : goal.overflow_sub-a-2
overflow_sub-a-2 g c =
    let inv = c.loop-cmp.invariant in
    omega (arith, before-rest inv.p c.args.a.now c.loop-cmp.lefts.now inv.lefts_are inv.p_within)

pub overflow_sub-b-2 : goal.overflow_sub-b-2
overflow_sub-b-2 g c =
    let inv = c.loop-cmp.invariant in
    omega (arith, before-rest inv.q c.args.b.now c.loop-cmp.rights.now inv.rights_are inv.q_within)

pub returns-then-read-clause-read : goal.returns-then-read-clause-read
returns-then-read-clause-read g c =
    let inv = c.loop-cmp.invariant in
    let before_a : length c.args.a.now ≡ length c.loop-cmp.lefts.now + inv.p = before-rest inv.p c.args.a.now c.loop-cmp.lefts.now inv.lefts_are inv.p_within in
    let before_b : length c.args.b.now ≡ length c.loop-cmp.rights.now + inv.q = before-rest inv.q c.args.b.now c.loop-cmp.rights.now inv.rights_are inv.q_within in
    let f = g.O.MergeOperation.connective c.args.op.now in
    let steps = c.sixteen_steps-read.ensures in
    let y = c.sixteen_steps-read.result.at in
    let to = CameTo-sixteen g.C.Compare.order f c.args.a.now c.args.b.now c.args.from.i c.args.from.j (g.C.Compare.count c.args.cmp.now) inv.p inv.q
    g.met.C.Compare.total c.requires.left_ascending c.requires.right_ascending inv.p_even inv.q_even inv.reached (rw (inv.lefts_are, inv.rights_are) at steps.steps) in
    let i_is : c.behind.result.i ≡ inv.p + y.i = omega (arith, c.behind.ensures.lefts, before_a) in
    let j_is : c.behind.result.j ≡ inv.q + y.j = omega (arith, c.behind.ensures.rights, before_b) in
    rw (i_is, j_is, c.behind.ensures.taken, c.behind.ensures.next) record { out = to.out; len = to.len; read = to.came.reads.read }

pub returns-then-read-clause-comparisons : goal.returns-then-read-clause-comparisons
returns-then-read-clause-comparisons g c =
    let inv = c.loop-cmp.invariant in
    let before_a : length c.args.a.now ≡ length c.loop-cmp.lefts.now + inv.p = before-rest inv.p c.args.a.now c.loop-cmp.lefts.now inv.lefts_are inv.p_within in
    let before_b : length c.args.b.now ≡ length c.loop-cmp.rights.now + inv.q = before-rest inv.q c.args.b.now c.loop-cmp.rights.now inv.rights_are inv.q_within in
    let f = g.O.MergeOperation.connective c.args.op.now in
    let steps = c.sixteen_steps-read.ensures in
    let y = c.sixteen_steps-read.result.at in
    let to = CameTo-sixteen g.C.Compare.order f c.args.a.now c.args.b.now c.args.from.i c.args.from.j (g.C.Compare.count c.args.cmp.now) inv.p inv.q
    g.met.C.Compare.total c.requires.left_ascending c.requires.right_ascending inv.p_even inv.q_even inv.reached (rw (inv.lefts_are, inv.rights_are) at steps.steps) in
    let i_is : c.behind.result.i ≡ inv.p + y.i = omega (arith, c.behind.ensures.lefts, before_a) in
    let j_is : c.behind.result.j ≡ inv.q + y.j = omega (arith, c.behind.ensures.rights, before_b) in
    rw (i_is, j_is) (Reads-cost (λ x y. x ≡ y) g.C.Compare.order (g.O.MergeOperation.connective c.args.op.now) c.args.a.now c.args.b.now c.args.from.i c.args.from.j to.came.few to.came.reads)

pub returns-then-read-clause-made : goal.returns-then-read-clause-made
returns-then-read-clause-made g c =
    let inv = c.loop-cmp.invariant in
    let f = g.O.MergeOperation.connective c.args.op.now in
    let steps = c.sixteen_steps-read.ensures in
    let y = c.sixteen_steps-read.result.at in
    let to = CameTo-sixteen g.C.Compare.order f c.args.a.now c.args.b.now c.args.from.i c.args.from.j (g.C.Compare.count c.args.cmp.now) inv.p inv.q
    g.met.C.Compare.total c.requires.left_ascending c.requires.right_ascending inv.p_even inv.q_even inv.reached (rw (inv.lefts_are, inv.rights_are) at steps.steps) in
    to.came.reads.at_least

pub returns-then-read-clause-at_most : goal.returns-then-read-clause-at_most
returns-then-read-clause-at_most g c =
    let inv = c.loop-cmp.invariant in
    let before_a : length c.args.a.now ≡ length c.loop-cmp.lefts.now + inv.p = before-rest inv.p c.args.a.now c.loop-cmp.lefts.now inv.lefts_are inv.p_within in
    let before_b : length c.args.b.now ≡ length c.loop-cmp.rights.now + inv.q = before-rest inv.q c.args.b.now c.loop-cmp.rights.now inv.rights_are inv.q_within in
    let y = c.sixteen_steps-read.result.at in
    let i_is : c.behind.result.i ≡ inv.p + y.i = omega (arith, c.behind.ensures.lefts, before_a) in
    let j_is : c.behind.result.j ≡ inv.q + y.j = omega (arith, c.behind.ensures.rights, before_b) in
    omega (arith, i_is, j_is, c.behind.ensures.taken, inv.at_most, c.sixteen_steps-read.ensures.at_most)

pub loop-cmp-preserved : goal.loop-cmp-preserved
loop-cmp-preserved g c =
    let inv = c.loop-cmp.invariant in
    let before_a : length c.args.a.now ≡ length c.loop-cmp.lefts.now + inv.p = before-rest inv.p c.args.a.now c.loop-cmp.lefts.now inv.lefts_are inv.p_within in
    let before_b : length c.args.b.now ≡ length c.loop-cmp.rights.now + inv.q = before-rest inv.q c.args.b.now c.loop-cmp.rights.now inv.rights_are inv.q_within in
    let f = g.O.MergeOperation.connective c.args.op.now in
    let steps = c.sixteen_steps-read.ensures in
    let y = c.sixteen_steps-read.result.at in
    let to = CameTo-sixteen g.C.Compare.order f c.args.a.now c.args.b.now c.args.from.i c.args.from.j (g.C.Compare.count c.args.cmp.now) inv.p inv.q
    g.met.C.Compare.total c.requires.left_ascending c.requires.right_ascending inv.p_even inv.q_even inv.reached (rw (inv.lefts_are, inv.rights_are) at steps.steps) in
    let at = c.from_even-at-in-loop-cmp in
    let i_is : inv.p + (y.i - y.i % 2) + at.result.i ≡ inv.p + y.i = omega (arith, parted y.i at.ensures.lefts) in
    let j_is : inv.q + (y.j - y.j % 2) + at.result.j ≡ inv.q + y.j = omega (arith, parted y.j at.ensures.rights) in
    record {
      p = inv.p + (y.i - y.i % 2);
      q = inv.q + (y.j - y.j % 2);
      lefts_are = take_rest c.loop-cmp.lefts.now (y.i - y.i % 2) ∙ ap (drop (y.i - y.i % 2)) inv.lefts_are ∙ drop-drop (y.i - y.i % 2) inv.p c.args.a.now;
      rights_are = take_rest c.loop-cmp.rights.now (y.j - y.j % 2) ∙ ap (drop (y.j - y.j % 2)) inv.rights_are ∙ drop-drop (y.j - y.j % 2) inv.q c.args.b.now;
      p_within = omega (arith, before_a, steps.left_within);
      q_within = omega (arith, before_b, steps.right_within);
      p_even = even-then inv.p y.i inv.p_even;
      q_even = even-then inv.q y.j inv.q_even;
      i_few = one-few y.i at.ensures.lefts;
      j_few = one-few y.j at.ensures.rights;
      reached = rw (i_is, j_is, at.ensures.taken, at.ensures.next) record { out = to.out; len = to.len; reads = to.came.on c.if-read.false };
      at_most = omega (arith, i_is, j_is, at.ensures.taken, inv.at_most, steps.at_most);
    }

pub returns-clause-read : goal.returns-clause-read
returns-clause-read g c =
    let inv = c.loop-cmp.invariant in
    let before_a : length c.args.a.now ≡ length c.loop-cmp.lefts.now + inv.p = before-rest inv.p c.args.a.now c.loop-cmp.lefts.now inv.lefts_are inv.p_within in
    let before_b : length c.args.b.now ≡ length c.loop-cmp.rights.now + inv.q = before-rest inv.q c.args.b.now c.loop-cmp.rights.now inv.rights_are inv.q_within in
    let i_is : c.behind-2.result.i ≡ inv.p + c.loop-cmp.at.i = omega (arith, c.behind-2.ensures.lefts, before_a) in
    let j_is : c.behind-2.result.j ≡ inv.q + c.loop-cmp.at.j = omega (arith, c.behind-2.ensures.rights, before_b) in
    rw (i_is, j_is, c.behind-2.ensures.taken, c.behind-2.ensures.next) record { out = inv.reached.out; len = inv.reached.len; read = inv.reached.reads.read }

pub returns-clause-comparisons : goal.returns-clause-comparisons
returns-clause-comparisons g c =
    let inv = c.loop-cmp.invariant in
    let before_a : length c.args.a.now ≡ length c.loop-cmp.lefts.now + inv.p = before-rest inv.p c.args.a.now c.loop-cmp.lefts.now inv.lefts_are inv.p_within in
    let before_b : length c.args.b.now ≡ length c.loop-cmp.rights.now + inv.q = before-rest inv.q c.args.b.now c.loop-cmp.rights.now inv.rights_are inv.q_within in
    let i_is : c.behind-2.result.i ≡ inv.p + c.loop-cmp.at.i = omega (arith, c.behind-2.ensures.lefts, before_a) in
    let j_is : c.behind-2.result.j ≡ inv.q + c.loop-cmp.at.j = omega (arith, c.behind-2.ensures.rights, before_b) in
    rw (i_is, j_is) (Reads-cost (λ x y. x ≡ y) g.C.Compare.order (g.O.MergeOperation.connective c.args.op.now) c.args.a.now c.args.b.now c.args.from.i c.args.from.j (omega arith) inv.reached.reads)

pub returns-clause-made : goal.returns-clause-made
returns-clause-made g c = c.loop-cmp.invariant.reached.reads.at_least

pub returns-clause-at_most : goal.returns-clause-at_most
returns-clause-at_most g c =
    let inv = c.loop-cmp.invariant in
    let before_a : length c.args.a.now ≡ length c.loop-cmp.lefts.now + inv.p = before-rest inv.p c.args.a.now c.loop-cmp.lefts.now inv.lefts_are inv.p_within in
    let before_b : length c.args.b.now ≡ length c.loop-cmp.rights.now + inv.q = before-rest inv.q c.args.b.now c.loop-cmp.rights.now inv.rights_are inv.q_within in
    let i_is : c.behind-2.result.i ≡ inv.p + c.loop-cmp.at.i = omega (arith, c.behind-2.ensures.lefts, before_a) in
    let j_is : c.behind-2.result.j ≡ inv.q + c.loop-cmp.at.j = omega (arith, c.behind-2.ensures.rights, before_b) in
    omega (arith, i_is, j_is, c.behind-2.ensures.taken, inv.at_most)
