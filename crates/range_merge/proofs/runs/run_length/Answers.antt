use Rattle.std.proofs.Common.{sym, arith}
use Rattle.range_merge.proofs.Digits.{digits-half}
use Rattle.range_merge.proofs.RunsRead.{first_run-left, first_run-right, first_run-both}
use Rattle.range_merge.proofs.runs.run_length.Goals as goal

pub returns-in-Less-clause-first : goal.returns-in-Less-clause-first
returns-in-Less-clause-first g c =
    first_run-left g.met.C.Compare.total _ _ c.requires.left_ascending c.requires.right_ascending
    c.gallop.result.len c.b_at-b.result.now c.b_at-b.ensures c.gallop.ensures.bracket

pub returns-in-Less-clause-comparisons : goal.returns-in-Less-clause-comparisons
returns-in-Less-clause-comparisons g c = record {
  at_least = omega (arith, c.compare.ensures.counted, c.gallop.ensures.comparisons.at_least);
  at_most =
      omega (
        arith,
        c.compare.ensures.counted,
        c.gallop.ensures.comparisons.at_most,
        digits-half 0 c.gallop.result.len (omega (arith, c.gallop.ensures.bracket.some)) (omega arith),
      );
}

pub returns-in-Equal-clause-first : goal.returns-in-Equal-clause-first
returns-in-Equal-clause-first g c =
    first_run-both g.met.C.Compare.total _ _ c.requires.left_ascending c.requires.right_ascending
    c.a_at-a.result.now c.b_at-b.result.now c.a_at-a.ensures c.b_at-b.ensures (sym c.in-Equal.ensures.answer)

pub returns-in-Equal-clause-comparisons : goal.returns-in-Equal-clause-comparisons
returns-in-Equal-clause-comparisons g c = record {
  at_least = omega (arith, c.compare.ensures.counted);
  at_most = omega (arith, c.compare.ensures.counted, digits-half 0 1 (omega arith) (omega arith));
}

pub returns-in-Greater-clause-first : goal.returns-in-Greater-clause-first
returns-in-Greater-clause-first g c =
    first_run-right g.met.C.Compare.total _ _ c.requires.left_ascending c.requires.right_ascending
    c.gallop-in-Greater.result.len c.a_at-a.result.now c.a_at-a.ensures c.gallop-in-Greater.ensures.bracket

pub returns-in-Greater-clause-comparisons : goal.returns-in-Greater-clause-comparisons
returns-in-Greater-clause-comparisons g c = record {
  at_least = omega (arith, c.compare.ensures.counted, c.gallop-in-Greater.ensures.comparisons.at_least);
  at_most =
      omega (
        arith,
        c.compare.ensures.counted,
        c.gallop-in-Greater.ensures.comparisons.at_most,
        digits-half 0 c.gallop-in-Greater.result.len (omega (arith, c.gallop-in-Greater.ensures.bracket.some)) (omega arith),
      );
}
