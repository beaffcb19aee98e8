use Rattle.std.proofs.Common.{◌∙◌, Ok, ap, refl, rules, sym, true≢false}
use Rattle.std.proofs.lemmas.Result.{IfOk-from_err}
use Rattle.range_collections.proofs.Values.{member-until, nothing_below, Less-least, IsAscending-two}
use Rattle.range_collections.proofs.range_set.RangeSet.from_range_until.Goals as goal

pub returns-then-is_min_value-clause-members : goal.returns-then-is_min_value-clause-members
returns-then-is_min_value-clause-members g c =
    λ x v.
    rw c.empty.ensures.boundaries
    (nothing_below g.met.T.Ord.total g.T.RangeSetEntry.is_value g.T.RangeSetEntry.least g.met.T.RangeSetEntry.least_is_value
    g.met.T.RangeSetEntry.least_is_least c.args.range.end x (c.is_min_value.ensures.0 c.if-is_min_value.true) v)

pub returns-then-is_min_value-clause-nothing : goal.returns-then-is_min_value-clause-nothing
returns-then-is_min_value-clause-nothing g c = λ _. ap Ok c.empty.ensures.boundaries

pub returns-then-is_min_value-clause-boundaries : goal.returns-then-is_min_value-clause-boundaries
returns-then-is_min_value-clause-boundaries g c = λ other. absurd (other (c.is_min_value.ensures.0 c.if-is_min_value.true))

pub returns-then-is_min_value-clause-succeeds : goal.returns-then-is_min_value-clause-succeeds
returns-then-is_min_value-clause-succeeds g c = λ _ _. refl

pub returns-in_err-least-clause-members : goal.returns-in_err-least-clause-members
returns-in_err-least-clause-members g c = IfOk-from_err c.from_residual.result _ c.from_residual.ensures.0

pub returns-in_err-least-clause-nothing : goal.returns-in_err-least-clause-nothing
returns-in_err-least-clause-nothing g c = λ e. absurd (true≢false (sym (c.is_min_value.ensures.1 e) ∙ c.if-is_min_value.false))

pub returns-in_err-least-clause-boundaries : goal.returns-in_err-least-clause-boundaries
returns-in_err-least-clause-boundaries g c = λ _. IfOk-from_err c.from_residual.result _ c.from_residual.ensures.0

pub returns-in_err-least-clause-succeeds : goal.returns-in_err-least-clause-succeeds
returns-in_err-least-clause-succeeds g c = λ _ infallible. absurd (true≢false (sym (c.in_err-least.ensures.succeeds infallible)))

pub returns-in_err-two_items-clause-members : goal.returns-in_err-two_items-clause-members
returns-in_err-two_items-clause-members g c =
    IfOk-from_err c.from_residual-in_err-two_items.result _ c.from_residual-in_err-two_items.ensures.0

pub returns-in_err-two_items-clause-nothing : goal.returns-in_err-two_items-clause-nothing
returns-in_err-two_items-clause-nothing g c = λ e. absurd (true≢false (sym (c.is_min_value.ensures.1 e) ∙ c.if-is_min_value.false))

pub returns-in_err-two_items-clause-boundaries : goal.returns-in_err-two_items-clause-boundaries
returns-in_err-two_items-clause-boundaries g c =
    λ _. IfOk-from_err c.from_residual-in_err-two_items.result _ c.from_residual-in_err-two_items.ensures.0

pub returns-in_err-two_items-clause-succeeds : goal.returns-in_err-two_items-clause-succeeds
returns-in_err-two_items-clause-succeeds g c = λ room _. absurd (true≢false (sym (c.in_err-two_items.ensures.succeeds room)))

pub new_unchecked-requires : goal.new_unchecked-requires
new_unchecked-requires g c =
    let entry = g.T.RangeSetEntry in (
      search rules,
      (
        search rules,
        rw c.in_ok-two_items.ensures.items
            (IsAscending-two g.met.T.Ord.total c.in_ok-least.least c.args.range.end
            (Less-least g.met.T.Ord.total entry.is_value entry.least g.met.T.RangeSetEntry.least_is_value g.met.T.RangeSetEntry.least_is_least
            c.in_ok-least.least c.args.range.end c.in_ok-least.ensures.least c.known.ensures
            (λ e. true≢false (sym (c.is_min_value.ensures.1 e) ∙ c.if-is_min_value.false)))),
      ),
    )

pub returns-clause-members : goal.returns-clause-members
returns-clause-members g c =
    let entry = g.T.RangeSetEntry in
    λ x v.
    rw (c.new_unchecked.ensures, c.in_ok-two_items.ensures.items)
    (member-until g.met.T.Ord.total entry.is_value entry.least g.met.T.RangeSetEntry.least_is_value g.met.T.RangeSetEntry.least_is_least
    c.in_ok-least.least c.args.range.end x c.in_ok-least.ensures.least c.known.ensures
    (λ e. true≢false (sym (c.is_min_value.ensures.1 e) ∙ c.if-is_min_value.false)) v)

pub returns-clause-nothing : goal.returns-clause-nothing
returns-clause-nothing g c = λ e. absurd (true≢false (sym (c.is_min_value.ensures.1 e) ∙ c.if-is_min_value.false))

pub returns-clause-boundaries : goal.returns-clause-boundaries
returns-clause-boundaries g c =
    λ _. (c.in_ok-least.least, c.in_ok-least.ensures.least, c.new_unchecked.ensures ∙ c.in_ok-two_items.ensures.items)

pub returns-clause-succeeds : goal.returns-clause-succeeds
returns-clause-succeeds g c = λ _ _. refl
