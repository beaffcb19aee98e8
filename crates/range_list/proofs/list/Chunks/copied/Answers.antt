use Rattle.std.proofs.Common.{◌∙◌, sym, true≢false}
use Rattle.range_list.proofs.InOrder.{chunks-from_flat}
use Rattle.range_list.proofs.Listed.{joined-lists}
use Rattle.range_list.proofs.list.Chunks.copied.Goals as goal

pub returns-clause-copies : goal.returns-clause-copies
returns-clause-copies g c =
    rw (← c.self.view_is, joined-lists c.self.inside.chunks, joined-lists c.in_ok-copies.field-0) c.in_ok-copies.ensures.copies

pub returns-in_err-copies-clause-succeeds : goal.returns-in_err-copies-clause-succeeds
returns-in_err-copies-clause-succeeds g c =
    rw (← c.self.view_is)
    (λ none. absurd (true≢false (sym (c.in_err-copies.ensures.succeeds
    (chunks-from_flat c.self.inside.chunks (sym (joined-lists c.self.inside.chunks) ∙ none))))))
