use Rattle.std.proofs.Common.{refl, sym, ◌∙◌, true≢false, ⊎_elim}
use Rattle.range_merge.proofs.Members.{member-nil}
use Rattle.range_chunks.proofs.relating.meets.Goals as goal

pub first_meets-requires : goal.first_meets-requires
first_meets-requires g c κs = ((refl, tt), (rw c.in-Some.ensures at c.loop-start.invariant.sorted, c.requires.sorted))

pub returns-clause-none : goal.returns-clause-none
returns-clause-none g c = λ f x m.
    ⊎_elim (λ there. absurd (true≢false (sym (rw c.in_default.ensures.0 at there) ∙ member-nil g.T.Ord.cmp x))) (λ other. other) (c.loop-start.invariant.others x m)
