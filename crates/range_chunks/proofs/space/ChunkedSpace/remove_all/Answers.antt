use Rattle.std.proofs.Common.{◌≡◌, ◌&&◌, not, List, [], ◌∷◌, ◌∙◌, sym, ap, subst, length, false, arith}
use Rattle.std.proofs.lemmas.Result.{on_ok_weaker}
use Rattle.range_merge.specs.Boundaries.{member}
use Rattle.range_merge.specs.Connective.{Means, difference_table}
use Rattle.range_collections.specs.Ranges.{range_items}
use Rattle.range_collections.proofs.ManyRanges.{range_is}
use Rattle.range_chunks.proofs.InTurn.{less_from_read, two_items}
use Rattle.range_chunks.proofs.space.ChunkedSpace.remove_all.Goals as goal

pub returns-then-boundaries-eq2-clause-means : goal.returns-then-boundaries-eq2-clause-means
returns-then-boundaries-eq2-clause-means g c =
    let list = c.boundaries-boundaries.result.now in
    let two : length list ≡ 2 = omega (arith, c.if-boundaries-eq2.true) in
    let less = less_from_read g.met.T.Ord.total false list 0 1 c.index-boundaries-0.result c.index-boundaries-1.result c.index-boundaries-0.is c.index-boundaries-1.is (omega (arith, two)) (omega (arith, two)) c.boundaries-boundaries.ensures.sorted (omega arith) in
    let all : range_items g.T.Ord.cmp c.index-boundaries-0.result c.index-boundaries-1.result ≡ list =
    range_is g.met.T.Ord.total c.index-boundaries-0.result c.index-boundaries-1.result less
    ∙ sym (two_items list c.index-boundaries-0.result c.index-boundaries-1.result two c.index-boundaries-0.is c.index-boundaries-1.is) in
    rw (← c.boundaries-boundaries.ensures.same)
    (on_ok_weaker c.remove.result
    (λ means. subst (λ (l : List g.row.T.Denot). Means g.T.Ord.cmp difference_table c.remove.new.self c.args.self.now l) all means)
    c.remove.ensures.changed.means)

pub returns-then-boundaries-eq2-clause-members : goal.returns-then-boundaries-eq2-clause-members
returns-then-boundaries-eq2-clause-members g c =
    on_ok_weaker c.remove.result (λ means. means.members) (returns-then-boundaries-eq2-clause-means g c)
