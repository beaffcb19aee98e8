use Rattle.std.proofs.Common.{◌∙◌, sym}
use Rattle.range_chunks.proofs.ReadInto.{IsInserted-start, IsInserted-range, IsInserted-none, members-inserted}
use Rattle.range_chunks.proofs.set.reading.read.Goals as goal

pub loop-part-init : goal.loop-part-init
loop-part-init g c =
    rw c.into_iter-part-iterator.ensures.into_iter_gives
    (IsInserted-start g.met.T.Ord.total g.T.WholeNumber.number c.args.text.now c.split-part-items.result c.new-set.result c.new-set.ensures.members
    c.split-part-items.ensures.text c.split-part-items.ensures.has_more c.split-part-items.ensures.pattern)

pub loop-part-preserved-in-Continue-1 : goal.loop-part-preserved-in-Continue-1
loop-part-preserved-in-Continue-1 g c =
    IsInserted-range g.met.T.Ord.total g.T.WholeNumber.number c.args.text.now c.loop-part.part-iterator c.loop-part.set c.loop-part.invariant
    c.next.new.self c.in-Some.part c.in-Some.ensures.steps c.in-Some-parse.range c.put.new.set
    (sym c.parse.ensures ∙ c.in-Some-parse.is) c.in_ok-put.ensures

pub loop-part-preserved : goal.loop-part-preserved
loop-part-preserved g c =
    IsInserted-none g.met.T.Ord.total g.T.WholeNumber.number c.args.text.now c.loop-part.part-iterator c.loop-part.set c.loop-part.invariant
    c.next.new.self c.in-Some.part c.in-Some.ensures.steps (sym c.parse.ensures ∙ c.in_default.is)

pub returns : goal.returns
returns g c =
    members-inserted g.met.T.Ord.total g.T.WholeNumber.number c.args.text.now c.loop-part.part-iterator c.loop-part.set c.loop-part.invariant
    c.next.new.self c.in-None.ensures.steps
