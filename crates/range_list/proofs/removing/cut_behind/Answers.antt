use Rattle.range_list.proofs.Removed.{none-behind, cut-behind, short-behind, marks-none_behind, marks-behind}
use Rattle.range_list.proofs.removing.cut_behind.Goals as goal

pub returns-then-at-eq0-clause-items : goal.returns-then-at-eq0-clause-items
returns-then-at-eq0-clause-items g c = none-behind c.args.chunks.now.items c.args.at c.requires.place c.if-at-eq0.true

pub returns-then-at-eq0-clause-marks : goal.returns-then-at-eq0-clause-marks
returns-then-at-eq0-clause-marks g c = marks-none_behind g.M.Mark.of g.M.Mark.moved g.met.M.Mark.adds c.args.chunks.now.items c.args.at.chunk c.requires.marks

pub returns-clause-items : goal.returns-clause-items
returns-clause-items g c =
    cut-behind c.args.chunks.now.items c.args.at c.requires.place c.index_mut.result.now c.keep_front.new.self c.index_mut.ensures.value c.keep_front.ensures.items

pub returns-clause-short : goal.returns-clause-short
returns-clause-short g c =
    short-behind c.args.chunks.now.items c.args.at c.requires.place c.index_mut.result.now c.keep_front.new.self c.index_mut.ensures.value c.keep_front.ensures.items c.requires.short

pub returns-clause-marks : goal.returns-clause-marks
returns-clause-marks g c =
    marks-behind g.M.Mark.of g.M.Mark.moved g.met.M.Mark.adds c.args.chunks.now.items c.args.at.chunk c.requires.place.chunk c.index_mut.result.now c.keep_front.new.self c.index_mut.ensures.value c.requires.marks c.keep_front.ensures.mark
