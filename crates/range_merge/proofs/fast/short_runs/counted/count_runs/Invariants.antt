use Rattle.std.proofs.Common.{◌≡◌, ℕ, ◌+◌, ◌≤◌, false, length, drop}
use Rattle.range_merge.specs.Boundaries.{is_odd}
use Rattle.range_merge.proofs.CountSteps.{Reached}
use Rattle.range_merge.proofs.fast.short_runs.counted.count_runs.Given as goal

abbrev pub invariant-loop-cmp : goal.invariant-loop-cmp
invariant-loop-cmp g l = record {
  p : ℕ;
  q : ℕ;
  lefts_are : l.lefts ≡ drop p l.a;
  rights_are : l.rights ≡ drop q l.b;
  p_within : p ≤ length l.a;
  q_within : q ≤ length l.b;
  p_even : is_odd p ≡ false;
  q_even : is_odd q ≡ false;
  i_few : l.at.i ≤ 1;
  j_few : l.at.j ≤ 1;
  reached : Reached g.C.Compare.order (g.O.MergeOperation.connective l.op) l.a l.b l.fn.from.i l.fn.from.j (g.C.Compare.count l.fn.cmp)
      (p + l.at.i) (q + l.at.j) l.at.k (g.C.Compare.count l.cmp) l.at.next;
  at_most : l.at.k + (l.fn.from.i + l.fn.from.j) ≤ (p + l.at.i) + (q + l.at.j);
}

abbrev pub decreases-loop-cmp : goal.decreases-loop-cmp
decreases-loop-cmp g l = length l.lefts + length l.rights
