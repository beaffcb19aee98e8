use Rattle.std.proofs.Common.{arith}
use Rattle.range_list.proofs.Inserted.{last-place}
use Rattle.range_list.proofs.inserting.split_index.Goals.{else-at-len-via-then-at-len+else-at-len-2, else-at-len-via-else-at-len}
use Rattle.range_list.proofs.inserting.split_index.Goals as goal

pub returns-else-at-len-clause-appended : goal.returns-else-at-len-clause-appended
returns-else-at-len-clause-appended g c = λ end d.
    let last = last-place c.args.chunks.now c.args.at c.index.result.now c.requires.place (rw c.chunks.view_is at c.index.ensures) end in
    absurd (elim c.else-at-len.branch as (λ _. ⊥) [
      | else-at-len-via-then-at-len+else-at-len-2 w ↦ omega (arith, last.1, w.if-at-len-2.false, c.len-len.ensures)
      | else-at-len-via-else-at-len w ↦ omega (arith, last.0, w.if-at-len.false, c.len.ensures)
    ])
