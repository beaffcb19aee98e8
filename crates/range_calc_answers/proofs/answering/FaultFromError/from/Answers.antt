use Rattle.std.proofs.Common.{true≢false, refl, sym, ◌∙◌}
use Rattle.range_calc_answers.proofs.answering.FaultFromError.from.Goals as goal

pub returns-then-is_memory : goal.returns-then-is_memory
returns-then-is_memory c = (λ memory. refl, λ other. absurd (other (c.is_memory.ensures.0 c.if-is_memory.true)))

pub returns-else-is_memory : goal.returns-else-is_memory
returns-else-is_memory c = (λ memory. absurd (true≢false (sym (c.is_memory.ensures.1 memory) ∙ c.if-is_memory.false)), λ other. refl)
