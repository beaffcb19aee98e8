use Rattle.std.proofs.Common.{◌∙◌, ap, inl, inr, refl, rules, sym, true≢false}
use Rattle.std.specs.Ordering.{is_lt}
use Rattle.std.proofs.lemmas.Result.{IfOk-from_err}
use Rattle.range_merge.proofs.Members.{member-nil}
use Rattle.range_collections.proofs.Values.{IsAscending-two, member-two, nothing_between, not_less-from_none}
use Rattle.range_collections.proofs.range_set.RangeSet.from_range.Goals as goal

pub returns-then-not-has_elements-clause-members : goal.returns-then-not-has_elements-clause-members
returns-then-not-has_elements-clause-members g c =
    λ x.
    rw c.empty.ensures.boundaries
    (member-nil g.T.Ord.cmp x
    ∙ nothing_between g.met.T.Ord.total c.args.range.start c.args.range.end x
    (not_less-from_none c.has_elements.result _ c.has_elements.ensures.answer c.if-not-has_elements.true))

pub returns-then-not-has_elements-clause-boundaries : goal.returns-then-not-has_elements-clause-boundaries
returns-then-not-has_elements-clause-boundaries g c =
    let off = not_less-from_none c.has_elements.result _ c.has_elements.ensures.answer c.if-not-has_elements.true in
    rw c.empty.ensures.boundaries (rw off refl)

pub returns-then-not-has_elements-clause-succeeds : goal.returns-then-not-has_elements-clause-succeeds
returns-then-not-has_elements-clause-succeeds g c = λ _. refl

pub returns-in_err-two_items-clause-boundaries : goal.returns-in_err-two_items-clause-boundaries
returns-in_err-two_items-clause-boundaries g c = IfOk-from_err c.from_residual.result _ c.from_residual.ensures.0

pub returns-in_err-two_items-clause-members : goal.returns-in_err-two_items-clause-members
returns-in_err-two_items-clause-members g c = IfOk-from_err c.from_residual.result _ c.from_residual.ensures.0

pub returns-in_err-two_items-clause-succeeds : goal.returns-in_err-two_items-clause-succeeds
returns-in_err-two_items-clause-succeeds g c =
    λ room.
    absurd
    (elim room as (λ _. ⊥) [
      | inl few ↦ true≢false (sym (c.in_err-two_items.ensures.succeeds few))
      | inr off ↦ true≢false (sym (ap is_lt (c.has_elements.ensures.answer.0 c.if-not-has_elements.false)) ∙ off)
    ])

pub new_unchecked-requires : goal.new_unchecked-requires
new_unchecked-requires g c = (
  search rules,
  (
    search rules,
    rw c.in_ok-two_items.ensures.items
        (IsAscending-two g.met.T.Ord.total c.args.range.start c.args.range.end
        (c.has_elements.ensures.answer.0 c.if-not-has_elements.false)),
  ),
)

pub returns-clause-boundaries : goal.returns-clause-boundaries
returns-clause-boundaries g c =
    rw (c.new_unchecked.ensures ∙ c.in_ok-two_items.ensures.items)
    (rw (c.has_elements.ensures.answer.0 c.if-not-has_elements.false) refl)

pub returns-clause-members : goal.returns-clause-members
returns-clause-members g c =
    λ x.
    rw (c.new_unchecked.ensures ∙ c.in_ok-two_items.ensures.items)
    (member-two g.met.T.Ord.total c.args.range.start c.args.range.end x
    (c.has_elements.ensures.answer.0 c.if-not-has_elements.false))

pub returns-clause-succeeds : goal.returns-clause-succeeds
returns-clause-succeeds g c = λ _. refl
