use Rattle.std.proofs.Common.{◌≡◌, sym, subst, All}
use Rattle.std.proofs.lemmas.List.Elements.{All-set}
use Rattle.range_chunks.specs.Bounds.{IsBound}
use Rattle.range_chunks.proofs.Bounded.{All-kept_or_inserted}
use Rattle.range_chunks.proofs.space.ChunkedSpace.put_bound.Goals.{in_default-via-in-Some-2+else-place-2, in_default-via-in_default}
use Rattle.range_chunks.proofs.space.ChunkedSpace.put_bound.Goals as goal

pub invariant_of-self : goal.invariant_of-self
invariant_of-self g c =
    let Holds = IsBound g.T.Ord.cmp g.T.Countable.value g.T.Countable.place g.T.Countable.count in
    All-set (Holds c.self.inside.taken) c.self.inside.bounds.items c.args.at c.args.bound (subst (λ items. Holds items c.args.bound) (sym c.self.view_is) c.requires)
    c.self.invariant

pub invariant_of-self-in_default : goal.invariant_of-self-in_default
invariant_of-self-in_default g c =
    let Holds = IsBound g.T.Ord.cmp g.T.Countable.value g.T.Countable.place g.T.Countable.count in
    let same : c.in_default.self-inside ≡ c.self.inside =
    elim c.in_default.branch as (λ _. c.in_default.self-inside ≡ c.self.inside) [
      | in_default-via-in-Some-2+else-place-2 w ↦ w.self-inside-is
      | in_default-via-in_default w ↦ w.self-inside-is
    ] in
    All-kept_or_inserted (Holds c.in_default.self-inside.taken) c.in_default.self-inside.bounds.items c.insert-inserted.new.self.items _ c.args.at c.args.bound c.insert-inserted.ensures.items
    (subst (λ it. Holds it.taken c.args.bound) (sym same) (subst (λ items. Holds items c.args.bound) (sym c.self.view_is) c.requires))
    (subst (λ it. All (Holds it.taken) it.bounds.items) (sym same) c.self.invariant)
