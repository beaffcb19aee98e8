use Rattle.std.proofs.Common.{◌≡◌, ◌<◌, false, length, rules}
use Rattle.range_list.proofs.Listed.{some-items}
use Rattle.range_list.proofs.list.Chunks.is_empty.Goals as goal

pub returns-clause-some : goal.returns-clause-some
returns-clause-some g c =
    let some : c.is_empty.result ≡ false → 0 < length c.self.inside.chunks = search rules in
    rw (← c.self.view_is) (λ has. some-items c.self.inside.chunks (some has))
