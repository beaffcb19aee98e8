use Rattle.std.proofs.Common.{rules}
use Rattle.std.proofs.lemmas.Fn.{filter_same}
use Rattle.range_chunks.specs.Bounds.{is_apart}
use Rattle.range_chunks.proofs.gap_bound.forget.Goals as goal

pub returns : goal.returns
returns g c =
    rw (← c.place-from.ensures)
    (rw (← c.place-to.ensures)
    (filter_same _ (is_apart g.T.Countable.place c.place-from.result c.place-to.result) _ (λ x b f' k. search rules) _ _ c.retain.ensures.filtered))
