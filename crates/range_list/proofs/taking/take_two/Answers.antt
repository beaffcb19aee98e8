use Rattle.range_list.proofs.Popped.{KnowMarks-flat_nil, AreChunks-two_less}
use Rattle.range_list.proofs.taking.take_two.Goals as goal

pub invariant_of-chunks : goal.invariant_of-chunks
invariant_of-chunks g c = record {
  short = c.in_err-first.ensures.short;
  marks = KnowMarks-flat_nil g.M.Mark.of c.take_first.new.chunks.items c.in_err-first.ensures.item.1 0;
}

pub invariant_of-chunks-2 : goal.invariant_of-chunks-2
invariant_of-chunks-2 g c =
    AreChunks-two_less g.M.Mark.of g.M.Mark.moved g.met.M.Mark.adds c.take_first-second.new.chunks.items c.requires c.take_first-second.ensures.short
    (c.take_first-second.ensures.marks 1 (c.in_ok-first.ensures.marks 0 c.chunks.invariant.marks))
