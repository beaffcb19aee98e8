use Rattle.std.proofs.Common.{sym}
use Rattle.std.proofs.lemmas.Result.{IfOk-weaker}
use Rattle.range_chunks.proofs.Halves.{only_one, union-one, intersection-one, union-halves, intersection-halves}
use Rattle.range_chunks.proofs.set.many_sets.+merged_all.Goals as goal

pub returns-in-1-clause-union : goal.returns-in-1-clause-union
returns-in-1-clause-union g t c = λ e.
    IfOk-weaker c.from_view.result _ _
    (λ set same x. union-one g.met.T.Ord.total (λ part. part.boundaries.now) c.args.sets.now c.index-sets-0.result
    (only_one c.args.sets.now c.index-sets-0.result c.in-1.is (sym c.index-sets-0.is)) set same x)
    c.from_view.ensures.equal

pub returns-in-1-clause-intersection : goal.returns-in-1-clause-intersection
returns-in-1-clause-intersection g t c = λ e.
    IfOk-weaker c.from_view.result _ _
    (λ set same x. intersection-one g.met.T.Ord.total (λ part. part.boundaries.now) c.args.sets.now c.index-sets-0.result
    (only_one c.args.sets.now c.index-sets-0.result c.in-1.is (sym c.index-sets-0.is)) set same x)
    c.from_view.ensures.equal

pub returns-in_ok-that-in_default-clause-union : goal.returns-in_ok-that-in_default-clause-union
returns-in_ok-that-in_default-clause-union g t c = λ e.
    IfOk-weaker c.merged.result _ _
    (λ both m x. union-halves g.met.T.Ord.total (λ part. part.boundaries.now) (g.O.MergeOperation.connective c.args.op.now)
    c.args.sets.now c.split_at.result.0.now c.split_at.result.1.now c.split_at.ensures.by_index.0 c.in_ok-set-in_default.set c.in_ok-that-in_default.that both m x
    e (c.in_ok-set-in_default.ensures.union e x) (c.in_ok-that-in_default.ensures.union e x))
    c.merged.ensures

pub returns-in_ok-that-in_default-clause-intersection : goal.returns-in_ok-that-in_default-clause-intersection
returns-in_ok-that-in_default-clause-intersection g t c = λ e.
    IfOk-weaker c.merged.result _ _
    (λ both m x. intersection-halves g.met.T.Ord.total (λ part. part.boundaries.now) (g.O.MergeOperation.connective c.args.op.now)
    c.args.sets.now c.split_at.result.0.now c.split_at.result.1.now c.split_at.ensures.by_index.0 c.in_ok-set-in_default.set c.in_ok-that-in_default.that both m x
    e (c.in_ok-set-in_default.ensures.intersection e x) (c.in_ok-that-in_default.ensures.intersection e x))
    c.merged.ensures
