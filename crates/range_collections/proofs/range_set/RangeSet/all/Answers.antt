use Rattle.std.proofs.Common.{◌∙◌, refl, rules, sym, true≢false}
use Rattle.std.proofs.lemmas.Result.{IfOk-from_err}
use Rattle.range_collections.proofs.Values.{IsAscending-one, IsEverything-one}
use Rattle.range_collections.proofs.range_set.RangeSet.all.Goals as goal

pub returns-in_err-least-clause-boundaries : goal.returns-in_err-least-clause-boundaries
returns-in_err-least-clause-boundaries g c = IfOk-from_err c.from_residual.result _ c.from_residual.ensures.0

pub returns-in_err-least-clause-members : goal.returns-in_err-least-clause-members
returns-in_err-least-clause-members g c = IfOk-from_err c.from_residual.result _ c.from_residual.ensures.0

pub returns-in_err-least-clause-succeeds : goal.returns-in_err-least-clause-succeeds
returns-in_err-least-clause-succeeds g c = λ _ infallible. absurd (true≢false (sym (c.in_err-least.ensures.succeeds infallible)))

pub returns-in_err-one_item-clause-boundaries : goal.returns-in_err-one_item-clause-boundaries
returns-in_err-one_item-clause-boundaries g c = IfOk-from_err c.from_residual-in_err-one_item.result _ c.from_residual-in_err-one_item.ensures.0

pub returns-in_err-one_item-clause-members : goal.returns-in_err-one_item-clause-members
returns-in_err-one_item-clause-members g c = IfOk-from_err c.from_residual-in_err-one_item.result _ c.from_residual-in_err-one_item.ensures.0

pub returns-in_err-one_item-clause-succeeds : goal.returns-in_err-one_item-clause-succeeds
returns-in_err-one_item-clause-succeeds g c = λ room _. absurd (true≢false (sym (c.in_err-one_item.ensures.succeeds room)))

pub new_unchecked-requires : goal.new_unchecked-requires
new_unchecked-requires g c =
    (search rules, (search rules, rw c.in_ok-one_item.ensures.items (IsAscending-one g.met.T.Ord.total c.in_ok-least.least)))

pub returns-clause-boundaries : goal.returns-clause-boundaries
returns-clause-boundaries g c =
    rw (c.new_unchecked.ensures ∙ c.in_ok-one_item.ensures.items) (c.in_ok-least.ensures.least, tt)

pub returns-clause-members : goal.returns-clause-members
returns-clause-members g c =
    rw (c.new_unchecked.ensures ∙ c.in_ok-one_item.ensures.items)
    (IsEverything-one g.met.T.Ord.total g.T.RangeSetEntry.is_value g.T.RangeSetEntry.least g.met.T.RangeSetEntry.least_is_value
    g.met.T.RangeSetEntry.least_is_least c.in_ok-least.least c.in_ok-least.ensures.least)

pub returns-clause-succeeds : goal.returns-clause-succeeds
returns-clause-succeeds g c = λ _ _. refl
