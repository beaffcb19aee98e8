use Rattle.std.proofs.Common.{◌∙◌, ap}
use Rattle.range_list.specs.Chunks.{flat}
use Rattle.range_list.proofs.Removed.{removed-across, AreChunks-across, place-after_cut, drop-after_cut, low-near}
use Rattle.range_list.proofs.removing.cut_across.Goals as goal

pub cut_before-high-requires-clause-place : goal.cut_before-high-requires-clause-place
cut_before-high-requires-clause-place g c =
    let cut = rw c.chunks.view_is at c.cut_behind-low.ensures in
    place-after_cut c.args.chunks.now c.cut_behind-low.new.chunks.items c.args.from c.args.to c.requires.ordered c.requires.whole cut.same cut.others c.requires.to cut.len

pub returns : goal.returns
returns g c =
    let cut = rw c.chunks.view_is at c.cut_behind-low.ensures in
    let same = drop-after_cut c.args.chunks.now c.cut_behind-low.new.chunks.items c.args.from c.args.to c.requires.ordered c.requires.whole cut.same cut.others in
    let near = low-near c.args.chunks.now c.cut_behind-low.new.chunks.items c.args.from c.args.to c.requires.ordered c.requires.whole
    cut.same cut.others c.cut_behind-low.result cut.within cut.start in
    ap flat c.remove_chunks.ensures
    ∙ removed-across c.args.chunks.now c.cut_behind-low.new.chunks.items c.cut_before-high.new.chunks.items c.args.from c.args.to c.cut_behind-low.result c.cut_before-high.result
    c.requires.from near c.cut_before-high.ensures.others same cut.items c.cut_before-high.ensures.items

pub invariant_of-chunks : goal.invariant_of-chunks
invariant_of-chunks g c =
    let cut = rw c.chunks.view_is at c.cut_behind-low.ensures in
    let same = drop-after_cut c.args.chunks.now c.cut_behind-low.new.chunks.items c.args.from c.args.to c.requires.ordered c.requires.whole cut.same cut.others in
    let near = low-near c.args.chunks.now c.cut_behind-low.new.chunks.items c.args.from c.args.to c.requires.ordered c.requires.whole
    cut.same cut.others c.cut_behind-low.result cut.within cut.start in
    rw c.remove_chunks.ensures
    (AreChunks-across g.M.Mark.of g.M.Mark.moved g.met.M.Mark.adds c.args.chunks.now c.cut_behind-low.new.chunks.items c.cut_before-high.new.chunks.items c.args.from c.args.to c.cut_behind-low.result c.cut_before-high.result
    c.requires.from near c.cut_before-high.ensures.others same cut.items c.cut_before-high.ensures.items
    (rw c.chunks.view_is at c.chunks.invariant).marks c.requires.alike cut.short cut.marks c.cut_before-high.ensures.short c.cut_before-high.ensures.marks)
