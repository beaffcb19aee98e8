use Rattle.std.proofs.Common.{◌∙◌, ap}
use Rattle.std.specs.List.{remove_range}
use Rattle.range_list.proofs.Replaced.{flat-put, AreChunks-put}
use Rattle.range_list.proofs.replacing.put_between.Goals as goal

pub returns-clause-items : goal.returns-clause-items
returns-clause-items g c =
    flat-put g.M.Mark.of g.M.Mark.moved g.met.M.Mark.adds c.args.chunks.now.items c.cut_behind-low.new.chunks.items c.args.made.items c.remove_chunks.new.chunks.items c.args.from c.cut_behind-low.result c.args.high
    c.requires.from c.requires.chunks c.requires.within c.requires.ordered c.requires.front c.cut_behind-low.ensures.len c.cut_behind-low.ensures.items c.cut_behind-low.ensures.within c.cut_behind-low.ensures.start
    c.cut_behind-low.ensures.same c.cut_behind-low.ensures.others (c.remove_chunks.ensures ∙ ap (λ ws. remove_range ws c.cut_behind-low.result c.args.high) c.insert_list_reserved.ensures)

pub returns-clause-chunks : goal.returns-clause-chunks
returns-clause-chunks g c =
    AreChunks-put g.M.Mark.of g.M.Mark.moved g.met.M.Mark.adds c.args.chunks.now.items c.cut_behind-low.new.chunks.items c.args.made.items c.remove_chunks.new.chunks.items c.args.from c.cut_behind-low.result c.args.high
    c.requires.from c.requires.chunks c.requires.within c.requires.ordered c.requires.front c.cut_behind-low.ensures.len c.cut_behind-low.ensures.items c.cut_behind-low.ensures.within c.cut_behind-low.ensures.start
    c.cut_behind-low.ensures.same c.cut_behind-low.ensures.others (c.remove_chunks.ensures ∙ ap (λ ws. remove_range ws c.cut_behind-low.result c.args.high) c.insert_list_reserved.ensures)
    c.requires.alike c.cut_behind-low.ensures.short c.cut_behind-low.ensures.marks c.requires.made_short c.requires.made_marks
