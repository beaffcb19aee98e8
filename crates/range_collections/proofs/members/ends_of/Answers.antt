use Rattle.std.proofs.Common.{◌≡◌, [], ◌∷◌, ◌-◌, suc, sym, ap, ◌∙◌, subst, length, arith, length-append}
use Rattle.range_merge.specs.Boundaries.{IsAscending, count_up_to, member}
use Rattle.range_collections.specs.Members.{members_of, AreEnds}
use Rattle.range_collections.proofs.Ends.{AreEnds-all, members_of-ends}
use Rattle.range_collections.proofs.members.ends_of.Goals as goal

pub last_place-requires : goal.last_place-requires
last_place-requires g c = subst (IsAscending g.T.Ord.cmp) c.in_ok-end.ensures.cases.0 c.requires

pub returns-clause-ends : goal.returns-clause-ends
returns-clause-ends g c =
    let law = g.met.T.Countable in
    subst (λ first. AreEnds g.T.Ord.cmp g.T.Countable.value g.T.Countable.count c.args.items.now first c.last_place.result) (sym c.place.ensures)
    (AreEnds-all g.met.T.Ord.total g.T.RangeSetEntry.is_value g.T.Countable.value g.T.Countable.place g.T.Countable.count
    law.value_is_value law.place_of_value law.place_fits law.in_order
    c.args.items.now c.requires c.in_ok-start.start.now c.in_ok-start.field-0-1.now c.in_ok-start.ensures.cases.0 c.known.ensures
    c.last_place.result c.last_place.ensures.fits
    (ap (λ items. member g.T.Ord.cmp items (g.T.Countable.value c.last_place.result)) c.in_ok-end.ensures.cases.0 ∙ c.last_place.ensures.is_member)
    (omega (
      arith,
      c.last_place.ensures.in_last,
      ap length c.in_ok-end.ensures.cases.0,
      length-append c.in_ok-end.before.now (c.in_ok-end.end.now ∷ []),
      ap (λ items. count_up_to g.T.Ord.cmp items (g.T.Countable.value c.last_place.result)) c.in_ok-end.ensures.cases.0,
    ))
    (λ n past less. ap (λ items. member g.T.Ord.cmp items (g.T.Countable.value n)) c.in_ok-end.ensures.cases.0 ∙ c.last_place.ensures.highest n past less))

pub returns-clause-all : goal.returns-clause-all
returns-clause-all g c =
    let law = g.met.T.Countable in
    subst (λ first. members_of g.T.Ord.cmp g.T.Countable.value c.args.items.now 0 g.T.Countable.count
    ≡ members_of g.T.Ord.cmp g.T.Countable.value c.args.items.now first (suc c.last_place.result - first)) (sym c.place.ensures)
    (members_of-ends g.met.T.Ord.total g.T.RangeSetEntry.is_value g.T.Countable.value g.T.Countable.place g.T.Countable.count
    law.value_is_value law.place_of_value law.place_fits law.in_order
    c.args.items.now c.requires c.in_ok-start.start.now c.in_ok-start.field-0-1.now c.in_ok-start.ensures.cases.0 c.known.ensures
    c.last_place.result c.last_place.ensures.fits
    (ap (λ items. member g.T.Ord.cmp items (g.T.Countable.value c.last_place.result)) c.in_ok-end.ensures.cases.0 ∙ c.last_place.ensures.is_member)
    (omega (
      arith,
      c.last_place.ensures.in_last,
      ap length c.in_ok-end.ensures.cases.0,
      length-append c.in_ok-end.before.now (c.in_ok-end.end.now ∷ []),
      ap (λ items. count_up_to g.T.Ord.cmp items (g.T.Countable.value c.last_place.result)) c.in_ok-end.ensures.cases.0,
    ))
    (λ n past less. ap (λ items. member g.T.Ord.cmp items (g.T.Countable.value n)) c.in_ok-end.ensures.cases.0 ∙ c.last_place.ensures.highest n past less))
