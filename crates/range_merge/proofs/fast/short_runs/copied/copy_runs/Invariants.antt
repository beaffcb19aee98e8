use Rattle.std.proofs.Common.{◌≡◌, ℕ, ◌+◌, ◌≤◌, true, false, length, take, drop, slice_get, Some}
use Rattle.range_merge.specs.Boundaries.{is_odd}
use Rattle.range_merge.proofs.CopySteps.{Reads}
use Rattle.range_merge.proofs.fast.short_runs.copied.copy_runs.Given as goal

abbrev pub invariant-loop-firsts : goal.invariant-loop-firsts
invariant-loop-firsts g l = record {
  p : ℕ;
  q : ℕ;
  lefts_are : l.lefts ≡ drop p l.a;
  rights_are : l.rights ≡ drop q l.b;
  p_within : p ≤ length l.a;
  q_within : q ≤ length l.b;
  p_even : is_odd p ≡ false;
  q_even : is_odd q ≡ false;
  i_few : l.at.i ≤ 1;
  j_few : l.at.j ≤ 1;
  reads : Reads g.P.Copier.alike g.C.Compare.order (g.O.MergeOperation.connective l.op) l.a l.b l.fn.from.i l.fn.from.j (g.C.Compare.count l.fn.cmp)
      0 (p + l.at.i) (q + l.at.j) (p + l.at.i) (q + l.at.j) (take l.at.k l.out) (g.C.Compare.count l.cmp) l.at.next;
  left_is : slice_get l.lefts l.at.i ≡ Some l.firsts.left;
  right_is : slice_get l.rights l.at.j ≡ Some l.firsts.right;
  within : l.at.k ≤ length l.out;
  at_most : l.at.k + (l.fn.from.i + l.fn.from.j) ≤ (p + l.at.i) + (q + l.at.j);
  behind : l.keeps ≡ true → drop l.at.k l.out ≡ drop l.at.k l.fn.out;
}

abbrev pub decreases-loop-firsts : goal.decreases-loop-firsts
decreases-loop-firsts g l = length l.lefts + length l.rights
