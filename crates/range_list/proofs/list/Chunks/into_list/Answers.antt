use Rattle.std.proofs.Common.{◌∙◌, ◌++◌, map, ap, sym, arith}
use Rattle.range_list.specs.Chunks.{flat}
use Rattle.range_list.proofs.Listed.{joined-lists}
use Rattle.range_list.proofs.list.Chunks.into_list.Goals as goal

pub join_up-requires : goal.join_up-requires
join_up-requires g c = rw c.into_inner.ensures (omega (arith, c.in-Ok.ensures.len, c.in-Ok.ensures.capacity, c.self.invariant))

pub returns-in-Ok-clause-keys : goal.returns-in-Ok-clause-keys
returns-in-Ok-clause-keys g c =
    let joined = rw c.into_inner.ensures at c.join_up.ensures in
    rw (← c.self.view_is)
    (joined ∙ ap (λ zs. zs ++ map g.L.KeyOf.key_of (flat c.self.inside.chunks)) c.in-Ok.ensures.items ∙ ap (map g.L.KeyOf.key_of) (sym (joined-lists c.self.inside.chunks)))
