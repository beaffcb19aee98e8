use Rattle.std.proofs.Common.{refl}
use Rattle.range_merge.proofs.Apart.{AreOwnOrCopies-plain}
use Rattle.range_merge.proofs.fast.in_place_plain.merged_plainly.Goals as goal

pub returns-then-fit_together-clause-taken : goal.returns-then-fit_together-clause-taken
returns-then-fit_together-clause-taken g c = λ went.
    AreOwnOrCopies-plain g.P.Copier.alike (c.if-not-is_plain.ensures.same refl) _ _ (c.merged_within.ensures.taken went)

pub returns-in-Some-clause-taken : goal.returns-in-Some-clause-taken
returns-in-Some-clause-taken g c = λ _.
    AreOwnOrCopies-plain g.P.Copier.alike (c.if-not-is_plain.ensures.same refl) _ _ (rw c.in-Some.is at c.in_ok-merged.ensures.taken)
