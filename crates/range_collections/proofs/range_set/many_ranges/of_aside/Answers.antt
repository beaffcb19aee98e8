use Rattle.std.proofs.Common.{subst}
use Rattle.std.specs.List.Sorted.{IsPermutation, IsStable}
use Rattle.std.proofs.lemmas.Result.{IfOk-weaker}
use Rattle.range_collections.proofs.Pairs.{GivesOwn-sorted}
use Rattle.range_collections.proofs.range_set.many_ranges.of_aside.Goals as goal

pub returns : goal.returns
returns g c ranges s e =
    let starts = c.in_ok-starts.ensures in
    let ends = c.in_ok-ends.ensures in
    IfOk-weaker c.of_pairs.result _ _
    (λ set u.
    GivesOwn-sorted g.met.T.Ord.total g.row.N ranges c.in_ok-starts.starts.items c.in_ok-ends.ends.items set
    (subst (λ xs. IsPermutation xs c.in_ok-starts.starts.items) s starts.permutation) starts.sorted
    (subst (λ xs. IsStable g.T.Ord.cmp xs c.in_ok-starts.starts.items) s starts.stable)
    (subst (λ xs. IsPermutation xs c.in_ok-ends.ends.items) e ends.permutation) ends.sorted
    (subst (λ xs. IsStable g.T.Ord.cmp xs c.in_ok-ends.ends.items) e ends.stable) u)
    c.of_pairs.ensures
