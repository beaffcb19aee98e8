use Rattle.std.proofs.Common.{◌∙◌, refl, rules, sym, true≢false}
use Rattle.std.proofs.lemmas.Result.{IfOk-from_err}
use Rattle.range_collections.proofs.Values.{IsAscending-one, member-one}
use Rattle.range_collections.proofs.range_set.RangeSet.from_range_from.Goals as goal

pub returns-in_err-one_item-clause-boundaries : goal.returns-in_err-one_item-clause-boundaries
returns-in_err-one_item-clause-boundaries g c = IfOk-from_err c.from_residual.result _ c.from_residual.ensures.0

pub returns-in_err-one_item-clause-members : goal.returns-in_err-one_item-clause-members
returns-in_err-one_item-clause-members g c = IfOk-from_err c.from_residual.result _ c.from_residual.ensures.0

pub returns-in_err-one_item-clause-succeeds : goal.returns-in_err-one_item-clause-succeeds
returns-in_err-one_item-clause-succeeds g c = λ room. absurd (true≢false (sym (c.in_err-one_item.ensures.succeeds room)))

pub new_unchecked-requires : goal.new_unchecked-requires
new_unchecked-requires g c =
    (search rules, (search rules, rw c.in_ok-one_item.ensures.items (IsAscending-one g.met.T.Ord.total c.args.range.start)))

pub returns-clause-boundaries : goal.returns-clause-boundaries
returns-clause-boundaries g c = c.new_unchecked.ensures ∙ c.in_ok-one_item.ensures.items

pub returns-clause-members : goal.returns-clause-members
returns-clause-members g c =
    λ x. rw (c.new_unchecked.ensures ∙ c.in_ok-one_item.ensures.items) (member-one g.met.T.Ord.total c.args.range.start x)

pub returns-clause-succeeds : goal.returns-clause-succeeds
returns-clause-succeeds g c = λ _. refl
