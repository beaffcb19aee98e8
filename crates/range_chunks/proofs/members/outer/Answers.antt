use Rattle.std.proofs.Common.{◌≡◌, ap, sym, ◌∙◌, None, rules}
use Rattle.range_chunks.specs.Members.{members_between}
use Rattle.range_chunks.proofs.OneByOne.{all-none, some-highest, outer-all, all-between}
use Rattle.range_chunks.proofs.members.outer.Goals as goal

pub returns-in_err-lowest-clause-all : goal.returns-in_err-lowest-clause-all
returns-in_err-lowest-clause-all g c =
    let law = g.met.T.Countable in
    let none : c.from_residual-in_err-lowest.result ≡ None = search rules in
    all-none g.met.T.Ord.total g.T.RangeSetEntry.is_value g.T.Countable.value g.T.Countable.place g.T.Countable.count
    law.value_is_value law.place_of_value law.place_fits law.in_order
    c.args.set.now c.in_ok-least.least c.in_ok-least.ensures.1 c.in_ok-least.ensures.0 c.in_err-lowest.ensures.none
    ∙ ap (λ ends. members_between g.T.Ord.cmp g.T.Countable.value c.args.set.now ends) (sym none)

pub returns-in_err-highest-clause-all : goal.returns-in_err-highest-clause-all
returns-in_err-highest-clause-all g c =
    let law = g.met.T.Countable in
    absurd (some-highest g.met.T.Ord.total g.T.RangeSetEntry.is_value g.T.Countable.value g.T.Countable.place g.T.Countable.count
    law.value_is_value law.place_of_value law.place_fits law.in_order
    c.args.set.now c.in_ok-least.least c.in_ok-least.ensures.1 c.in_ok-least.ensures.0 c.greatest.result c.greatest.ensures.value c.greatest.ensures.place
    c.in_ok-lowest.lowest.now c.known.ensures c.in_ok-lowest.ensures.next c.in_err-highest.ensures.none)

pub returns-clause-ends : goal.returns-clause-ends
returns-clause-ends g c =
    let law = g.met.T.Countable in
    rw (c.place.ensures, c.place-2.ensures)
    (outer-all g.met.T.Ord.total g.T.RangeSetEntry.is_value g.T.Countable.value g.T.Countable.place g.T.Countable.count
    law.value_is_value law.place_of_value law.place_fits law.in_order
    c.args.set.now c.in_ok-least.least c.in_ok-least.ensures.1 c.in_ok-least.ensures.0 c.greatest.result c.greatest.ensures.value c.greatest.ensures.place
    c.in_ok-lowest.lowest.now c.known.ensures c.in_ok-lowest.ensures.next c.in_ok-highest.highest c.in_ok-highest.ensures.previous)

pub returns-clause-all : goal.returns-clause-all
returns-clause-all g c =
    let law = g.met.T.Countable in
    rw (c.place.ensures, c.place-2.ensures)
    (all-between g.met.T.Ord.total g.T.RangeSetEntry.is_value g.T.Countable.value g.T.Countable.place g.T.Countable.count
    law.value_is_value law.place_of_value law.place_fits law.in_order
    c.args.set.now c.in_ok-least.least c.in_ok-least.ensures.1 c.in_ok-least.ensures.0 c.greatest.result c.greatest.ensures.value c.greatest.ensures.place
    c.in_ok-lowest.lowest.now c.known.ensures c.in_ok-lowest.ensures.next c.in_ok-highest.highest c.in_ok-highest.ensures.previous)
