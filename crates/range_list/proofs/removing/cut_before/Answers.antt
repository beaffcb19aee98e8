use Rattle.std.proofs.Common.{arith}
use Rattle.range_list.proofs.Removed.{short-none_before, cut-before, short-before, marks-none_before, marks-before}
use Rattle.range_list.proofs.removing.cut_before.Goals as goal

pub returns-then-at-len-clause-short : goal.returns-then-at-len-clause-short
returns-then-at-len-clause-short g c =
    short-none_before c.args.chunks.now.items c.args.at c.index.result.now c.requires.place c.index.ensures (omega arith) c.requires.short

pub returns-then-at-len-clause-marks : goal.returns-then-at-len-clause-marks
returns-then-at-len-clause-marks g c =
    marks-none_before g.M.Mark.of g.M.Mark.moved g.met.M.Mark.adds c.args.chunks.now.items c.args.at c.index.result.now c.requires.place c.index.ensures (omega arith)

pub returns-clause-items : goal.returns-clause-items
returns-clause-items g c =
    cut-before c.args.chunks.now.items c.args.at c.index_mut.result.now c.requires.place c.index_mut.ensures.value c.remove_front.new.self c.remove_front.ensures.items

pub returns-clause-short : goal.returns-clause-short
returns-clause-short g c =
    short-before c.args.chunks.now.items c.args.at c.index_mut.result.now c.requires.place c.index_mut.ensures.value c.remove_front.new.self c.remove_front.ensures.items c.requires.short

pub returns-clause-marks : goal.returns-clause-marks
returns-clause-marks g c = λ n h.
    marks-before g.M.Mark.of g.M.Mark.moved g.met.M.Mark.adds c.args.chunks.now.items c.args.at c.index_mut.result.now c.requires.place c.index_mut.ensures.value c.remove_front.new.self c.remove_front.ensures.items n c.remove_front.ensures.mark h
