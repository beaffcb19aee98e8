use Rattle.range_list.proofs.Rejoined.{joined_before-flat, joined_before-AreChunks}
use Rattle.range_list.proofs.joining.join_before.Goals as goal

pub returns-clause-same : goal.returns-clause-same
returns-clause-same g c =
    joined_before-flat c.args.chunks.now c.remove-before.new.self.items c.args.at c.remove-before.result c.index_mut.result.now c.prepend.new.self c.requires.within
    c.prepend.ensures.items c.requires.few (rw c.chunks.view_is at c.remove-before.ensures.by_index.2) (rw c.chunks.view_is at c.remove-before.ensures.value) c.index_mut.ensures.value

pub invariant_of-chunks : goal.invariant_of-chunks
invariant_of-chunks g c =
    joined_before-AreChunks g.M.Mark.of g.M.Mark.moved g.met.M.Mark.adds c.args.chunks.now c.remove-before.new.self.items c.args.at c.remove-before.result c.index_mut.result.now c.prepend.new.self c.requires.within
    c.prepend.ensures.items c.requires.few (rw c.chunks.view_is at c.remove-before.ensures.by_index.2) (rw c.chunks.view_is at c.remove-before.ensures.value) c.index_mut.ensures.value
    (rw c.chunks.view_is at c.chunks.invariant) c.prepend.ensures.mark
