use Rattle.std.proofs.Common.{get_or}
use Rattle.range_list.proofs.Swapped.{exchanged-items, exchanged-places, exchanged-AreChunks}
use Rattle.range_list.proofs.swapping.swap_across.Goals as goal

pub returns-clause-items : goal.returns-clause-items
returns-clause-items g c =
    let done = rw c.chunks.view_is at c.exchange.ensures in
    exchanged-items c.args.chunks.now c.args.a c.args.b c.requires.a c.requires.a_item c.requires.b c.requires.b_item c.requires.ordered c.exchange.new.chunks.items (get_or c.args.chunks.now c.args.a.chunk done.low) done

pub returns-clause-places : goal.returns-clause-places
returns-clause-places g c =
    let done = rw c.chunks.view_is at c.exchange.ensures in
    exchanged-places c.args.chunks.now c.args.a c.args.b c.requires.a c.requires.a_item c.requires.b c.requires.b_item c.requires.ordered c.exchange.new.chunks.items (get_or c.args.chunks.now c.args.a.chunk done.low) done

pub invariant_of-chunks : goal.invariant_of-chunks
invariant_of-chunks g c =
    let done = rw c.chunks.view_is at c.exchange.ensures in
    exchanged-AreChunks c.args.chunks.now c.args.a c.args.b c.requires.a c.requires.a_item c.requires.b c.requires.b_item c.requires.ordered c.exchange.new.chunks.items (get_or c.args.chunks.now c.args.a.chunk done.low) done
    g.M.Mark.of g.M.Mark.moved g.met.M.Mark.adds (rw c.chunks.view_is at c.chunks.invariant)
