use Rattle.std.proofs.Common.{◌∙◌, Ok, ap, refl, sym, true≢false}
use Rattle.range_merge.proofs.Members.{member-nil}
use Rattle.range_collections.proofs.range_set.RangeSet.from_bool.Goals as goal

pub returns-then-everything-clause-members : goal.returns-then-everything-clause-members
returns-then-everything-clause-members g c = rw c.if-everything.true c.all.ensures.members

pub returns-then-everything-clause-boundaries : goal.returns-then-everything-clause-boundaries
returns-then-everything-clause-boundaries g c = λ _. c.all.ensures.boundaries

pub returns-then-everything-clause-nothing : goal.returns-then-everything-clause-nothing
returns-then-everything-clause-nothing g c = λ off. absurd (true≢false (sym c.if-everything.true ∙ off))

pub returns-then-everything-clause-succeeds : goal.returns-then-everything-clause-succeeds
returns-then-everything-clause-succeeds g c = c.all.ensures.succeeds

pub returns-else-everything-clause-members : goal.returns-else-everything-clause-members
returns-else-everything-clause-members g c = λ x v. rw c.empty.ensures.boundaries (member-nil g.T.Ord.cmp x ∙ sym c.if-everything.false)

pub returns-else-everything-clause-boundaries : goal.returns-else-everything-clause-boundaries
returns-else-everything-clause-boundaries g c = λ on. absurd (true≢false (sym on ∙ c.if-everything.false))

pub returns-else-everything-clause-nothing : goal.returns-else-everything-clause-nothing
returns-else-everything-clause-nothing g c = λ _. ap Ok c.empty.ensures.boundaries

pub returns-else-everything-clause-succeeds : goal.returns-else-everything-clause-succeeds
returns-else-everything-clause-succeeds g c = λ _ _. refl
