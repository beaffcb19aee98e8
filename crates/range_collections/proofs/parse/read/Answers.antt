use Rattle.std.proofs.Common.{◌==◌, ◌∙◌, sym, ap, length, true≢false}
use Rattle.range_collections.proofs.ReadParts.{IsReadInto-start, IsReadInto-range, IsReadInto-blank, are_ranges-none, are_ranges-whole, members-whole, room-one, succeeds-whole}
use Rattle.range_collections.proofs.parse.read.Goals as goal

pub loop-part-init : goal.loop-part-init
loop-part-init g c =
    rw (c.into_iter-part-iterator.ensures.into_iter_gives, c.empty-set.ensures.boundaries, c.new-aside.ensures.starts, c.new-aside.ensures.ends)
    (IsReadInto-start g.met.T.Ord.total g.T.WholeNumber.number g.row.N c.args.text.now c.split-part-items.result
    c.split-part-items.ensures.text c.split-part-items.ensures.has_more c.split-part-items.ensures.pattern)

pub loop-part-preserved-in_ok-add-in-Some-range_in : goal.loop-part-preserved-in_ok-add-in-Some-range_in
loop-part-preserved-in_ok-add-in-Some-range_in g c =
    let at = c.loop-part.invariant in
    IsReadInto-range g.met.T.Ord.total g.T.WholeNumber.number g.row.N c.args.text.now c.loop-part.part-iterator
    c.loop-part.set c.loop-part.aside.starts.items c.loop-part.aside.ends.items at c.next.new.self c.in-Some.part c.in-Some.ensures.steps
    c.in-Some-range_in.range c.add.new.set c.add.new.aside.starts.items c.add.new.aside.ends.items
    (sym c.range_in.ensures ∙ c.in-Some-range_in.is) (c.in_ok-add-in-Some-range_in.ensures.underway at.done at.underway)

pub returns-in_err-add-in-Some-range_in-clause-succeeds : goal.returns-in_err-add-in-Some-range_in-clause-succeeds
returns-in_err-add-in-Some-range_in-clause-succeeds g c =
    let at = c.loop-part.invariant in
    λ one two. absurd (true≢false (sym (c.in_err-add-in-Some-range_in.ensures.succeeds at.done at.underway
    (room-one g.met.T.Ord.total g.T.WholeNumber.number g.row.N c.args.text.now c.loop-part.part-iterator
    c.loop-part.set c.loop-part.aside.starts.items c.loop-part.aside.ends.items at c.next.new.self c.in-Some.part c.in-Some.ensures.steps
    c.in-Some-range_in.range one two))))

pub returns-then-not-is_empty-clause-ok : goal.returns-then-not-is_empty-clause-ok
returns-then-not-is_empty-clause-ok g c =
    sym (are_ranges-none g.met.T.Ord.total g.T.WholeNumber.number g.row.N c.args.text.now c.loop-part.part-iterator
    c.loop-part.set c.loop-part.aside.starts.items c.loop-part.aside.ends.items c.loop-part.invariant c.next.new.self c.in-Some.part c.in-Some.ensures.steps
    (sym c.range_in.ensures ∙ c.in-None-range_in.is)
    (sym (c.is_empty.ensures ∙ ap (λ bs. length bs == 0) c.trim.ensures.trim) ∙ c.if-not-is_empty.true))

pub loop-part-preserved : goal.loop-part-preserved
loop-part-preserved g c =
    IsReadInto-blank g.met.T.Ord.total g.T.WholeNumber.number g.row.N c.args.text.now c.loop-part.part-iterator
    c.loop-part.set c.loop-part.aside.starts.items c.loop-part.aside.ends.items c.loop-part.invariant c.next.new.self c.in-Some.part c.in-Some.ensures.steps
    (sym c.range_in.ensures ∙ c.in-None-range_in.is)
    (sym (c.is_empty.ensures ∙ ap (λ bs. length bs == 0) c.trim.ensures.trim) ∙ c.if-not-is_empty.false)

pub returns-in_err-finished-clause-succeeds : goal.returns-in_err-finished-clause-succeeds
returns-in_err-finished-clause-succeeds g c =
    let at = c.loop-part.invariant in
    λ one two. absurd (true≢false (sym (succeeds-whole g.met.T.Ord.total g.T.WholeNumber.number g.row.N c.args.text.now c.loop-part.part-iterator
    c.loop-part.set c.loop-part.aside.starts.items c.loop-part.aside.ends.items at c.next.new.self c.in-None.ensures.steps
    _ (c.in_err-finished.ensures at.done at.underway) one two)))

pub returns-clause-ok : goal.returns-clause-ok
returns-clause-ok g c =
    sym (are_ranges-whole g.met.T.Ord.total g.T.WholeNumber.number g.row.N c.args.text.now c.loop-part.part-iterator
    c.loop-part.set c.loop-part.aside.starts.items c.loop-part.aside.ends.items c.loop-part.invariant c.next.new.self c.in-None.ensures.steps)

pub returns-clause-members : goal.returns-clause-members
returns-clause-members g c =
    let at = c.loop-part.invariant in
    members-whole g.met.T.Ord.total g.T.WholeNumber.number g.row.N c.args.text.now c.loop-part.part-iterator
    c.loop-part.set c.loop-part.aside.starts.items c.loop-part.aside.ends.items at c.next.new.self c.in-None.ensures.steps
    _ (c.in_ok-finished.ensures at.done at.underway)
