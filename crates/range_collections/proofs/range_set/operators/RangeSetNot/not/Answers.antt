use Rattle.std.proofs.Common.{Ok, ◌∙◌, inl, inr, arith, rules, sym, true≢false}
use Rattle.std.proofs.lemmas.Result.{IfOk-from_err}
use Rattle.range_collections.specs.Values.{BeginsAt}
use Rattle.range_collections.proofs.Values.{Negates-removed, GivesOwnNegation-removed, GivesOwnNegation-inserted, IsAscending-inserted}
use Rattle.range_collections.proofs.Headline.{IsTheNegation-negates}
use Rattle.range_collections.proofs.range_set.operators.RangeSetNot.not.Goals as goal

pub new_unchecked-requires : goal.new_unchecked-requires
new_unchecked-requires g c =
    let entry = g.T.RangeSetEntry in (
      search rules,
      (
        search rules,
        rw (c.give_back_room.ensures, c.remove-least.ensures.items)
            (Negates-removed g.met.T.Ord.total entry.is_value entry.least g.met.T.RangeSetEntry.least_is_value
            g.met.T.RangeSetEntry.least_is_least c.into_inner-list.result.items
            (rw c.as_slice.ensures at (c.begins_at_least.ensures.begins.0 c.if-begins_at_least.true)) c.into_inner-list.ensures.sorted).sorted,
      ),
    )

pub returns-then-begins_at_least-clause-gives : goal.returns-then-begins_at_least-clause-gives
returns-then-begins_at_least-clause-gives g c =
    let entry = g.T.RangeSetEntry in
    GivesOwnNegation-removed g.met.T.Ord.total entry.is_value entry.least g.met.T.RangeSetEntry.least_is_value
    g.met.T.RangeSetEntry.least_is_least _ c.args.self c.into_inner-list.result.items c.as_slice.result.now c.new_unchecked.result
    c.begins_at_least.result c.into_inner-list.ensures.items c.as_slice.ensures c.into_inner-list.ensures.sorted c.begins_at_least.ensures.begins
    c.if-begins_at_least.true (rw (c.new_unchecked.ensures, c.give_back_room.ensures) c.remove-least.ensures.items)

pub returns-then-begins_at_least-clause-headline : goal.returns-then-begins_at_least-clause-headline
returns-then-begins_at_least-clause-headline g c =
    IsTheNegation-negates g.met.T.Ord.total g.T.RangeSetEntry.is_value c.args.self (Ok c.new_unchecked.result) (returns-then-begins_at_least-clause-gives g c).negates

pub returns-in_err-least-clause-gives : goal.returns-in_err-least-clause-gives
returns-in_err-least-clause-gives g c =
    let r = c.from_residual.result in
    let refused = c.from_residual.ensures.0 in
    let elsewhere : BeginsAt g.T.Ord.cmp g.T.RangeSetEntry.least c.args.self → ⊥ =
    λ h. true≢false (sym (c.begins_at_least.ensures.begins.1 (rw (c.as_slice.ensures, c.into_inner-list.ensures.items) h)) ∙ c.if-begins_at_least.false) in
    record {
      negates = IfOk-from_err r _ refused;
      flipped = IfOk-from_err r _ refused;
      values = λ _ _. IfOk-from_err r _ refused;
      succeeds = λ infallible.
          absurd
          (elim infallible as (λ _. ⊥) [
            | inl h ↦ elsewhere h
            | inr s ↦ true≢false (sym (c.in_err-least.ensures.succeeds s.1))
          ]);
    }

pub returns-in_err-insert-clause-gives : goal.returns-in_err-insert-clause-gives
returns-in_err-insert-clause-gives g c =
    let r = c.from_residual-in_err-insert.result in
    let refused = c.from_residual-in_err-insert.ensures.0 in
    let elsewhere : BeginsAt g.T.Ord.cmp g.T.RangeSetEntry.least c.args.self → ⊥ =
    λ h. true≢false (sym (c.begins_at_least.ensures.begins.1 (rw (c.as_slice.ensures, c.into_inner-list.ensures.items) h)) ∙ c.if-begins_at_least.false) in
    record {
      negates = IfOk-from_err r _ refused;
      flipped = IfOk-from_err r _ refused;
      values = λ _ _. IfOk-from_err r _ refused;
      succeeds = λ infallible.
          absurd
          (elim infallible as (λ _. ⊥) [
            | inl h ↦ elsewhere h
            | inr s ↦
                true≢false (sym (c.in_err-insert.ensures.succeeds
                (rw (c.into_inner-list.ensures.items, ← c.capacity-inline.ensures.value) (omega (arith, s.0, c.capacity-inline.ensures.at_least_inline)))))
          ]);
    }

pub new_unchecked-requires-2 : goal.new_unchecked-requires-2
new_unchecked-requires-2 g c =
    let entry = g.T.RangeSetEntry in (
      search rules,
      (
        search rules,
        rw c.in_ok-insert.ensures.ok
            (IsAscending-inserted g.met.T.Ord.total entry.is_value entry.least g.met.T.RangeSetEntry.least_is_value
            g.met.T.RangeSetEntry.least_is_least c.into_inner-list.result.items c.as_slice.result.now c.begins_at_least.result
            c.in_ok-least.least c.as_slice.ensures c.into_inner-list.ensures.sorted c.begins_at_least.ensures.begins c.begins_at_least.ensures.value
            c.if-begins_at_least.false c.in_ok-least.ensures.least),
      ),
    )

pub returns-clause-gives : goal.returns-clause-gives
returns-clause-gives g c =
    let entry = g.T.RangeSetEntry in
    GivesOwnNegation-inserted g.met.T.Ord.total entry.is_value entry.least g.met.T.RangeSetEntry.least_is_value
    g.met.T.RangeSetEntry.least_is_least _ c.args.self c.into_inner-list.result.items c.as_slice.result.now c.new_unchecked-2.result
    c.begins_at_least.result c.in_ok-least.least c.into_inner-list.ensures.items c.as_slice.ensures c.into_inner-list.ensures.sorted
    c.begins_at_least.ensures.begins c.begins_at_least.ensures.value c.if-begins_at_least.false c.in_ok-least.ensures.least
    (rw c.new_unchecked-2.ensures c.in_ok-insert.ensures.ok)

pub returns-clause-headline : goal.returns-clause-headline
returns-clause-headline g c =
    IsTheNegation-negates g.met.T.Ord.total g.T.RangeSetEntry.is_value c.args.self (Ok c.new_unchecked-2.result) (returns-clause-gives g c).negates
