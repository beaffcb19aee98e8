use Rattle.std.proofs.Common.{refl, sym, ap, ◌∙◌}
use Rattle.range_merge.specs.Boundaries.{member}
use Rattle.range_map.proofs.Setlike.{member-is_some}
use Rattle.range_map.proofs.map.sets.RangeMap+K+unit.into_set.Goals as goal

pub returns-in-Ok : goal.returns-in-Ok
returns-in-Ok g c = λ x.
    rw (← c.self.view_is)
    (ap (λ ks. member g.K.Ord.cmp ks x) (c.new_unchecked.ensures ∙ c.from_vec.ensures.items ∙ c.in-Ok.ensures.keys)
    ∙ sym (member-is_some g.K.Ord.cmp g.met.K.Ord.total _ (λ v w. refl) _ c.self.invariant x))
