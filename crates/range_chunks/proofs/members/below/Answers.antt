use Rattle.std.proofs.Common.{refl}
use Rattle.range_chunks.proofs.OneByOne.{one_member-last, none-below, outer-below, others-below}
use Rattle.range_chunks.proofs.members.below.Goals as goal

pub returns-then-first-last-clause-others : goal.returns-then-first-last-clause-others
returns-then-first-last-clause-others g c =
    one_member-last g.T.Ord.cmp g.T.Countable.value c.args.set.now c.args.first c.args.last c.requires.ordered c.if-first-last.true c.requires.last_in

pub returns-in_err-highest-clause-others : goal.returns-in_err-highest-clause-others
returns-in_err-highest-clause-others g c =
    let law = g.met.T.Countable in
    absurd (none-below g.met.T.Ord.total g.T.RangeSetEntry.is_value g.T.Countable.value g.T.Countable.place g.T.Countable.count
    law.value_is_value law.place_of_value law.place_fits law.in_order
    c.args.set.now c.args.first c.args.last c.requires c.if-first-last.false c.in_ok-before.before c.in_ok-before.before _ refl
    c.in_ok-before.ensures.1 c.in_err-highest.ensures.none)

pub returns-clause-ends : goal.returns-clause-ends
returns-clause-ends g c =
    let law = g.met.T.Countable in
    outer-below g.met.T.Ord.total g.T.RangeSetEntry.is_value g.T.Countable.value g.T.Countable.place g.T.Countable.count
    law.value_is_value law.place_of_value law.place_fits law.in_order
    c.args.set.now c.args.first c.args.last c.requires c.if-first-last.false c.in_ok-before.before c.in_ok-highest.highest c.place.result c.place.ensures
    c.in_ok-before.ensures.1 c.in_ok-highest.ensures.previous

pub returns-clause-others : goal.returns-clause-others
returns-clause-others g c =
    let law = g.met.T.Countable in
    others-below g.met.T.Ord.total g.T.RangeSetEntry.is_value g.T.Countable.value g.T.Countable.place g.T.Countable.count
    law.value_is_value law.place_of_value law.place_fits law.in_order
    c.args.set.now c.args.first c.args.last c.requires c.if-first-last.false c.in_ok-before.before c.in_ok-highest.highest c.place.result c.place.ensures
    c.in_ok-before.ensures.1 c.in_ok-highest.ensures.previous
