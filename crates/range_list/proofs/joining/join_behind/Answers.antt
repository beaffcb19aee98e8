use Rattle.range_list.proofs.Rejoined.{joined_behind-flat, joined_behind-AreChunks}
use Rattle.range_list.proofs.joining.join_behind.Goals as goal

pub returns-clause-same : goal.returns-clause-same
returns-clause-same g c =
    joined_behind-flat c.args.chunks.now c.remove-behind.new.self.items c.args.at c.index_mut.result.now c.remove-behind.result c.append.new.self c.requires.within
    c.append.ensures.items c.requires.few (rw c.chunks.view_is at c.remove-behind.ensures.by_index.2) c.index_mut.ensures.value (rw c.chunks.view_is at c.remove-behind.ensures.value)

pub invariant_of-chunks : goal.invariant_of-chunks
invariant_of-chunks g c =
    joined_behind-AreChunks g.M.Mark.of g.M.Mark.moved g.met.M.Mark.adds c.args.chunks.now c.remove-behind.new.self.items c.args.at c.index_mut.result.now c.remove-behind.result c.append.new.self c.requires.within
    c.append.ensures.items c.requires.few (rw c.chunks.view_is at c.remove-behind.ensures.by_index.2) c.index_mut.ensures.value (rw c.chunks.view_is at c.remove-behind.ensures.value)
    (rw c.chunks.view_is at c.chunks.invariant) c.append.ensures.mark
