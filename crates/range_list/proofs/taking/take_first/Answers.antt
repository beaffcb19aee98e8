use Rattle.std.proofs.Common.{◌≡◌, ◌∙◌, ◌<◌, ap, sym, length, get_or, rules}
use Rattle.std.proofs.lemmas.List.{get_or_default}
use Rattle.range_list.specs.declared.chunk.Chunk.{Chunk}
use Rattle.range_list.proofs.Popped.{KnowMarks-none, first_alone-marks, first_out-marks}
use Rattle.range_list.proofs.taking.take_first.Goals as goal

pub returns-then-is_empty-clause-marks : goal.returns-then-is_empty-clause-marks
returns-then-is_empty-clause-marks g c = λ n h.
    let none : length c.args.chunks.now.items ≡ 0 = search rules in
    KnowMarks-none g.M.Mark.of c.args.chunks.now.items none _

pub returns-then-is_empty-2-clause-marks : goal.returns-then-is_empty-2-clause-marks
returns-then-is_empty-2-clause-marks g c = λ n h.
    let some : 0 < length c.args.chunks.now.items = search rules in
    let read : c.index.result.now ≡ get_or c.args.chunks.now.items 0 c.index.result.now = search rules in
    let alone : length c.index.result.now.rest.items ≡ 0 = search rules in
    let same : c.remove-first.result ≡ c.index.result.now =
    c.remove-first.ensures.value ∙ get_or_default c.args.chunks.now.items 0 c.remove-first.result c.index.result.now some ∙ sym read in
    first_alone-marks g.M.Mark.of g.M.Mark.moved g.met.M.Mark.adds c.args.chunks.now.items c.remove-first.new.self.items c.remove-first.result
    (ap (λ (d : Chunk _ _). length d.rest.items) same ∙ alone) some c.remove-first.ensures.value c.remove-first.ensures.by_index.2 n h

pub returns-clause-marks : goal.returns-clause-marks
returns-clause-marks g c = λ n h.
    let some : 0 < length c.args.chunks.now.items = search rules in
    first_out-marks g.M.Mark.of g.M.Mark.moved g.met.M.Mark.adds c.args.chunks.now.items c.index_mut.result.now c.take_first.new.self c.take_first.result
    c.take_first.ensures.items some c.index_mut.ensures.value c.take_first.ensures.mark n h
