use Rattle.std.proofs.Common.{◌∙◌, ◌+◌, ◌-◌, ◌++◌, length, take, drop, ap, rules}
use Rattle.range_list.specs.Chunks.{flat}
use Rattle.range_list.proofs.Between.{from-chunk, from-index, rest-of}
use Rattle.range_list.proofs.items.behind.Goals as goal

pub returns-then-at-eq0 : goal.returns-then-at-eq0
returns-then-at-eq0 g c =
    ap flat (rest-of c.args.chunks.now c.args.at.chunk) ∙ from-chunk c.args.chunks.now c.args.at (search rules)

pub returns : goal.returns
returns g c =
    let chunks = c.args.chunks.now in
    let rest = c.as_slice-rest.result.now in
    let behind = c.args.at.chunk + 1 in
    let from = c.args.at.index - 1 in
    ap (λ zs. zs ++ flat (take (length chunks - behind) (drop behind chunks))) (rest-of rest from)
    ∙ ap (λ zs. drop from rest ++ zs) (ap flat (rest-of chunks behind))
    ∙ from-index chunks c.args.at c.index-chunks-at.result rest c.requires c.index-chunks-at.is c.as_slice-rest.ensures.value (search rules)
