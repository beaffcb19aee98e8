use Rattle.std.proofs.Common.{◌≡◌, ◌+◌, ◌-◌, ◌≤◌, ◌<◌, ◌%◌, length, take, drop, refl, ap, ◌∙◌, arith}
use Rattle.std.proofs.lemmas.List.{length-drop, drop-drop, take_rest}
use Rattle.std.proofs.lemmas.Option.{slice_get_read, slice_get_within}
use Rattle.range_merge.proofs.EvenSteps.{AreSixteen-reads, Came-sixteen, before-rest, even-part, even-then, item-behind, one-few, parted}
use Rattle.range_merge.proofs.CopySteps.{Reads-start, Reads-cost, Reads-made, behind-more}
use Rattle.range_merge.proofs.fast.short_runs.copied.copy_runs.Goals as goal

pub loop-firsts-init : goal.loop-firsts-init
loop-firsts-init g c =
    let a_some : c.args.from.i < length c.args.a.now = omega (arith, length-drop c.args.from.i c.args.a.now, c.requires.stands.0) in
    let b_some : c.args.from.j < length c.args.b.now = omega (arith, length-drop c.args.from.j c.args.b.now, c.requires.stands.1) in
    let i_is : c.args.from.i - c.args.from.i % 2 + c.from_even-at.result.i ≡ c.args.from.i = parted c.args.from.i c.from_even-at.ensures.lefts in
    let j_is : c.args.from.j - c.args.from.j % 2 + c.from_even-at.result.j ≡ c.args.from.j = parted c.args.from.j c.from_even-at.ensures.rights in
    let p = c.args.from.i - c.args.from.i % 2 in
    let q = c.args.from.j - c.args.from.j % 2 in
    let lefts = take (length c.args.a.now - p) (drop p c.args.a.now) in
    let rights = take (length c.args.b.now - q) (drop q c.args.b.now) in
    let lefts_are : lefts ≡ drop p c.args.a.now = take_rest c.args.a.now p in
    let rights_are : rights ≡ drop q c.args.b.now = take_rest c.args.b.now q in
    record {
      p = p;
      q = q;
      lefts_are = lefts_are;
      rights_are = rights_are;
      p_within = omega (arith, a_some);
      q_within = omega (arith, b_some);
      p_even = even-part c.args.from.i;
      q_even = even-part c.args.from.j;
      i_few = one-few c.args.from.i c.from_even-at.ensures.lefts;
      j_few = one-few c.args.from.j c.from_even-at.ensures.rights;
      reads = rw (i_is, j_is, c.from_even-at.ensures.next, c.from_even-at.ensures.taken)
          (Reads-start g.P.Copier.alike g.C.Compare.order (g.O.MergeOperation.connective c.args.op.now) c.args.a.now c.args.b.now c.args.from.i c.args.from.j (g.C.Compare.count c.args.cmp.now) c.args.from.next c.requires.stands);
      left_is = slice_get_read lefts (length lefts) c.from_even-at.result.i c.copied.result refl (omega (arith, ap length lefts_are, length-drop p c.args.a.now, i_is, a_some)) (rw c.copied.ensures.same c.index-lefts-at.is);
      right_is = slice_get_read rights (length rights) c.from_even-at.result.j c.copied-2.result refl (omega (arith, ap length rights_are, length-drop q c.args.b.now, j_is, b_some)) (rw c.copied-2.ensures.same c.index-rights-at.is);
      within = omega (arith, c.from_even-at.ensures.taken);
      at_most = omega (arith, i_is, j_is, c.from_even-at.ensures.taken);
      behind = λ _. refl;
    }

pub overflow_sub-out : goal.overflow_sub-out
overflow_sub-out g c =
    c.loop-firsts.invariant.within

pub sixteen_steps-read-requires-clause-made : goal.sixteen_steps-read-requires-clause-made
sixteen_steps-read-requires-clause-made g c =
    omega (
      arith,
      Reads-made g.P.Copier.alike g.C.Compare.order (g.O.MergeOperation.connective c.args.op.now) c.args.a.now c.args.b.now c.args.from.i c.args.from.j
          (omega arith) c.requires.fits c.requires.made c.loop-firsts.invariant.reads,
    )

pub overflow_sub-a : goal.overflow_sub-a
overflow_sub-a g c =
    let inv = c.loop-firsts.invariant in
    omega (arith, before-rest inv.p c.args.a.now c.loop-firsts.lefts.now inv.lefts_are inv.p_within)

pub overflow_sub-b : goal.overflow_sub-b
overflow_sub-b g c =
    let inv = c.loop-firsts.invariant in
    omega (arith, before-rest inv.q c.args.b.now c.loop-firsts.rights.now inv.rights_are inv.q_within)

pub overflow_sub-a-2 : goal.overflow_sub-a-2
overflow_sub-a-2 g c =
    let inv = c.loop-firsts.invariant in
    omega (arith, before-rest inv.p c.args.a.now c.loop-firsts.lefts.now inv.lefts_are inv.p_within)

pub overflow_sub-b-2 : goal.overflow_sub-b-2
overflow_sub-b-2 g c =
    let inv = c.loop-firsts.invariant in
    omega (arith, before-rest inv.q c.args.b.now c.loop-firsts.rights.now inv.rights_are inv.q_within)

pub returns-then-read-clause-read : goal.returns-then-read-clause-read
returns-then-read-clause-read g c =
    let inv = c.loop-firsts.invariant in
    let y = c.sixteen_steps-read.result.at in
    let steps = c.sixteen_steps-read.ensures in
    let before_a : length c.args.a.now ≡ length c.loop-firsts.lefts.now + inv.p = before-rest inv.p c.args.a.now c.loop-firsts.lefts.now inv.lefts_are inv.p_within in
    let before_b : length c.args.b.now ≡ length c.loop-firsts.rights.now + inv.q = before-rest inv.q c.args.b.now c.loop-firsts.rights.now inv.rights_are inv.q_within in
    let came = Came-sixteen g.P.Copier.alike g.C.Compare.order (g.O.MergeOperation.connective c.args.op.now) c.args.a.now c.args.b.now c.args.from.i c.args.from.j (g.C.Compare.count c.args.cmp.now)
    inv.p inv.q g.met.C.Compare.total c.requires.left_ascending c.requires.right_ascending inv.p_even inv.q_even _ _ inv.reads (rw (inv.lefts_are, inv.rights_are) at steps.steps) in
    let i_is : c.behind.result.i ≡ inv.p + y.i = omega (arith, c.behind.ensures.lefts, before_a) in
    let j_is : c.behind.result.j ≡ inv.q + y.j = omega (arith, c.behind.ensures.rights, before_b) in
    rw (i_is, j_is, c.behind.ensures.taken, c.behind.ensures.next) came.reads.read

pub returns-then-read-clause-comparisons : goal.returns-then-read-clause-comparisons
returns-then-read-clause-comparisons g c =
    let inv = c.loop-firsts.invariant in
    let y = c.sixteen_steps-read.result.at in
    let steps = c.sixteen_steps-read.ensures in
    let before_a : length c.args.a.now ≡ length c.loop-firsts.lefts.now + inv.p = before-rest inv.p c.args.a.now c.loop-firsts.lefts.now inv.lefts_are inv.p_within in
    let before_b : length c.args.b.now ≡ length c.loop-firsts.rights.now + inv.q = before-rest inv.q c.args.b.now c.loop-firsts.rights.now inv.rights_are inv.q_within in
    let came = Came-sixteen g.P.Copier.alike g.C.Compare.order (g.O.MergeOperation.connective c.args.op.now) c.args.a.now c.args.b.now c.args.from.i c.args.from.j (g.C.Compare.count c.args.cmp.now)
    inv.p inv.q g.met.C.Compare.total c.requires.left_ascending c.requires.right_ascending inv.p_even inv.q_even _ _ inv.reads (rw (inv.lefts_are, inv.rights_are) at steps.steps) in
    let i_is : c.behind.result.i ≡ inv.p + y.i = omega (arith, c.behind.ensures.lefts, before_a) in
    let j_is : c.behind.result.j ≡ inv.q + y.j = omega (arith, c.behind.ensures.rights, before_b) in
    rw (i_is, j_is) (Reads-cost g.P.Copier.alike g.C.Compare.order (g.O.MergeOperation.connective c.args.op.now) c.args.a.now c.args.b.now c.args.from.i c.args.from.j came.few came.reads)

pub returns-then-read-clause-made : goal.returns-then-read-clause-made
returns-then-read-clause-made g c =
    let inv = c.loop-firsts.invariant in
    let y = c.sixteen_steps-read.result.at in
    let steps = c.sixteen_steps-read.ensures in
    let before_a : length c.args.a.now ≡ length c.loop-firsts.lefts.now + inv.p = before-rest inv.p c.args.a.now c.loop-firsts.lefts.now inv.lefts_are inv.p_within in
    let before_b : length c.args.b.now ≡ length c.loop-firsts.rights.now + inv.q = before-rest inv.q c.args.b.now c.loop-firsts.rights.now inv.rights_are inv.q_within in
    let came = Came-sixteen g.P.Copier.alike g.C.Compare.order (g.O.MergeOperation.connective c.args.op.now) c.args.a.now c.args.b.now c.args.from.i c.args.from.j (g.C.Compare.count c.args.cmp.now)
    inv.p inv.q g.met.C.Compare.total c.requires.left_ascending c.requires.right_ascending inv.p_even inv.q_even _ _ inv.reads (rw (inv.lefts_are, inv.rights_are) at steps.steps) in
    came.reads.at_least

pub returns-then-read-clause-within : goal.returns-then-read-clause-within
returns-then-read-clause-within g c =
    rw c.behind.ensures.taken c.sixteen_steps-read.ensures.within

pub returns-then-read-clause-at_most : goal.returns-then-read-clause-at_most
returns-then-read-clause-at_most g c =
    let inv = c.loop-firsts.invariant in
    let y = c.sixteen_steps-read.result.at in
    let steps = c.sixteen_steps-read.ensures in
    let before_a : length c.args.a.now ≡ length c.loop-firsts.lefts.now + inv.p = before-rest inv.p c.args.a.now c.loop-firsts.lefts.now inv.lefts_are inv.p_within in
    let before_b : length c.args.b.now ≡ length c.loop-firsts.rights.now + inv.q = before-rest inv.q c.args.b.now c.loop-firsts.rights.now inv.rights_are inv.q_within in
    let came = Came-sixteen g.P.Copier.alike g.C.Compare.order (g.O.MergeOperation.connective c.args.op.now) c.args.a.now c.args.b.now c.args.from.i c.args.from.j (g.C.Compare.count c.args.cmp.now)
    inv.p inv.q g.met.C.Compare.total c.requires.left_ascending c.requires.right_ascending inv.p_even inv.q_even _ _ inv.reads (rw (inv.lefts_are, inv.rights_are) at steps.steps) in
    let i_is : c.behind.result.i ≡ inv.p + y.i = omega (arith, c.behind.ensures.lefts, before_a) in
    let j_is : c.behind.result.j ≡ inv.q + y.j = omega (arith, c.behind.ensures.rights, before_b) in
    omega (arith, i_is, j_is, c.behind.ensures.taken, inv.at_most, steps.at_most)

pub returns-then-read-clause-behind : goal.returns-then-read-clause-behind
returns-then-read-clause-behind g c =
    let inv = c.loop-firsts.invariant in
    let steps = c.sixteen_steps-read.ensures in
    λ keep. rw c.behind.ensures.taken (steps.behind keep ∙ behind-more c.loop-firsts.at.k c.sixteen_steps-read.result.at.k c.loop-firsts.out c.args.out.now steps.from (inv.behind keep))

pub loop-firsts-preserved : goal.loop-firsts-preserved
loop-firsts-preserved g c =
    let inv = c.loop-firsts.invariant in
    let y = c.sixteen_steps-read.result.at in
    let steps = c.sixteen_steps-read.ensures in
    let before_a : length c.args.a.now ≡ length c.loop-firsts.lefts.now + inv.p = before-rest inv.p c.args.a.now c.loop-firsts.lefts.now inv.lefts_are inv.p_within in
    let before_b : length c.args.b.now ≡ length c.loop-firsts.rights.now + inv.q = before-rest inv.q c.args.b.now c.loop-firsts.rights.now inv.rights_are inv.q_within in
    let came = Came-sixteen g.P.Copier.alike g.C.Compare.order (g.O.MergeOperation.connective c.args.op.now) c.args.a.now c.args.b.now c.args.from.i c.args.from.j (g.C.Compare.count c.args.cmp.now)
    inv.p inv.q g.met.C.Compare.total c.requires.left_ascending c.requires.right_ascending inv.p_even inv.q_even _ _ inv.reads (rw (inv.lefts_are, inv.rights_are) at steps.steps) in
    let rest_a = take_rest c.loop-firsts.lefts.now (y.i - y.i % 2) in
    let rest_b = take_rest c.loop-firsts.rights.now (y.j - y.j % 2) in
    let i_some : y.i < length c.loop-firsts.lefts.now = slice_get_within c.loop-firsts.lefts.now y.i c.sixteen_steps-read.new.firsts.left steps.left_is in
    let j_some : y.j < length c.loop-firsts.rights.now = slice_get_within c.loop-firsts.rights.now y.j c.sixteen_steps-read.new.firsts.right steps.right_is in
    let i_is : inv.p + (y.i - y.i % 2) + c.from_even-at-in-loop-firsts.result.i ≡ inv.p + y.i = omega (arith, parted y.i c.from_even-at-in-loop-firsts.ensures.lefts) in
    let j_is : inv.q + (y.j - y.j % 2) + c.from_even-at-in-loop-firsts.result.j ≡ inv.q + y.j = omega (arith, parted y.j c.from_even-at-in-loop-firsts.ensures.rights) in
    record {
      p = inv.p + (y.i - y.i % 2);
      q = inv.q + (y.j - y.j % 2);
      lefts_are = rest_a ∙ ap (drop (y.i - y.i % 2)) inv.lefts_are ∙ drop-drop (y.i - y.i % 2) inv.p c.args.a.now;
      rights_are = rest_b ∙ ap (drop (y.j - y.j % 2)) inv.rights_are ∙ drop-drop (y.j - y.j % 2) inv.q c.args.b.now;
      p_within = omega (arith, before_a, i_some);
      q_within = omega (arith, before_b, j_some);
      p_even = even-then inv.p y.i inv.p_even;
      q_even = even-then inv.q y.j inv.q_even;
      i_few = one-few y.i c.from_even-at-in-loop-firsts.ensures.lefts;
      j_few = one-few y.j c.from_even-at-in-loop-firsts.ensures.rights;
      reads = rw (i_is, j_is, c.from_even-at-in-loop-firsts.ensures.taken, c.from_even-at-in-loop-firsts.ensures.next) (came.on c.if-read.false);
      left_is = rw rest_a (item-behind (y.i - y.i % 2) c.from_even-at-in-loop-firsts.result.i y.i c.loop-firsts.lefts.now c.sixteen_steps-read.new.firsts.left (parted y.i c.from_even-at-in-loop-firsts.ensures.lefts) steps.left_is);
      right_is = rw rest_b (item-behind (y.j - y.j % 2) c.from_even-at-in-loop-firsts.result.j y.j c.loop-firsts.rights.now c.sixteen_steps-read.new.firsts.right (parted y.j c.from_even-at-in-loop-firsts.ensures.rights) steps.right_is);
      within = rw c.from_even-at-in-loop-firsts.ensures.taken steps.within;
      at_most = omega (arith, i_is, j_is, c.from_even-at-in-loop-firsts.ensures.taken, inv.at_most, steps.at_most);
      behind = λ keep. rw c.from_even-at-in-loop-firsts.ensures.taken (steps.behind keep ∙ behind-more c.loop-firsts.at.k y.k c.loop-firsts.out c.args.out.now steps.from (inv.behind keep));
    }

pub returns-clause-read : goal.returns-clause-read
returns-clause-read g c =
    let inv = c.loop-firsts.invariant in
    let before_a = before-rest inv.p c.args.a.now c.loop-firsts.lefts.now inv.lefts_are inv.p_within in
    let before_b = before-rest inv.q c.args.b.now c.loop-firsts.rights.now inv.rights_are inv.q_within in
    let i_is : c.behind-2.result.i ≡ inv.p + c.loop-firsts.at.i = omega (arith, c.behind-2.ensures.lefts, before_a) in
    let j_is : c.behind-2.result.j ≡ inv.q + c.loop-firsts.at.j = omega (arith, c.behind-2.ensures.rights, before_b) in
    rw (i_is, j_is, c.behind-2.ensures.taken, c.behind-2.ensures.next) inv.reads.read

pub returns-clause-comparisons : goal.returns-clause-comparisons
returns-clause-comparisons g c =
    let inv = c.loop-firsts.invariant in
    let before_a = before-rest inv.p c.args.a.now c.loop-firsts.lefts.now inv.lefts_are inv.p_within in
    let before_b = before-rest inv.q c.args.b.now c.loop-firsts.rights.now inv.rights_are inv.q_within in
    let i_is : c.behind-2.result.i ≡ inv.p + c.loop-firsts.at.i = omega (arith, c.behind-2.ensures.lefts, before_a) in
    let j_is : c.behind-2.result.j ≡ inv.q + c.loop-firsts.at.j = omega (arith, c.behind-2.ensures.rights, before_b) in
    rw (i_is, j_is) (Reads-cost g.P.Copier.alike g.C.Compare.order (g.O.MergeOperation.connective c.args.op.now) c.args.a.now c.args.b.now c.args.from.i c.args.from.j (omega arith) inv.reads)

pub returns-clause-made : goal.returns-clause-made
returns-clause-made g c =
    c.loop-firsts.invariant.reads.at_least

pub returns-clause-within : goal.returns-clause-within
returns-clause-within g c =
    rw c.behind-2.ensures.taken c.loop-firsts.invariant.within

pub returns-clause-at_most : goal.returns-clause-at_most
returns-clause-at_most g c =
    let inv = c.loop-firsts.invariant in
    let before_a = before-rest inv.p c.args.a.now c.loop-firsts.lefts.now inv.lefts_are inv.p_within in
    let before_b = before-rest inv.q c.args.b.now c.loop-firsts.rights.now inv.rights_are inv.q_within in
    let i_is : c.behind-2.result.i ≡ inv.p + c.loop-firsts.at.i = omega (arith, c.behind-2.ensures.lefts, before_a) in
    let j_is : c.behind-2.result.j ≡ inv.q + c.loop-firsts.at.j = omega (arith, c.behind-2.ensures.rights, before_b) in
    omega (arith, i_is, j_is, c.behind-2.ensures.taken, inv.at_most)

pub returns-clause-behind : goal.returns-clause-behind
returns-clause-behind g c =
    λ keep. rw c.behind-2.ensures.taken (c.loop-firsts.invariant.behind keep)

pub loop-firsts-smaller : goal.loop-firsts-smaller
loop-firsts-smaller g c =
    let y = c.sixteen_steps-read.result.at in
    let steps = c.sixteen_steps-read.ensures in
    let lefts = c.loop-firsts.lefts.now in
    let rights = c.loop-firsts.rights.now in
    let reads : c.loop-firsts.at.i + c.loop-firsts.at.j + 4 ≤ y.i + y.j = AreSixteen-reads g.P.Copier.alike g.C.Compare.order (g.O.MergeOperation.connective c.args.op.now) lefts rights _ _ refl steps.steps in
    omega (
      arith,
      reads,
      ap length (take_rest lefts (y.i - y.i % 2)),
      ap length (take_rest rights (y.j - y.j % 2)),
      length-drop (y.i - y.i % 2) lefts,
      length-drop (y.j - y.j % 2) rights,
      slice_get_within lefts y.i c.sixteen_steps-read.new.firsts.left steps.left_is,
      slice_get_within rights y.j c.sixteen_steps-read.new.firsts.right steps.right_is,
    )
