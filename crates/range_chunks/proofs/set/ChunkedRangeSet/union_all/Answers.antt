use Rattle.std.proofs.Common.{refl}
use Rattle.std.proofs.lemmas.Result.{IfOk-weaker}
use Rattle.range_collections.proofs.RangeMembers.{in_one_part}
use Rattle.range_chunks.proofs.set.ChunkedRangeSet.union_all.Goals as goal

pub returns : goal.returns
returns g c =
    IfOk-weaker c.merged_all.result _ _
    (λ set m x. in_one_part g.T.Ord.cmp (λ part. part.boundaries.now) c.args.sets.now x _ (m x)) (c.merged_all.ensures.union refl)
