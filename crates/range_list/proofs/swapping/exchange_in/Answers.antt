use Rattle.std.proofs.Common.{ap, get_or}
use Rattle.range_list.specs.declared.chunk.Chunk.{Chunk}
use Rattle.range_list.proofs.Swapped.{IsExchanged-parts}
use Rattle.range_list.proofs.swapping.exchange_in.Goals as goal

pub returns-clause-exchanged : goal.returns-clause-exchanged
returns-clause-exchanged g c =
    let front = c.split_at_mut-front.result.0.now in
    let back = c.split_at_mut-front.result.1.now in
    IsExchanged-parts c.args.chunks.now front back c.args.a c.args.b (get_or front c.args.a.chunk c.index-front-a.result) (get_or back 0 c.index-back-0.result)
    c.exchange.new.self c.exchange.new.other c.requires.ordered c.requires.b.chunk c.split_at_mut-front.ensures.front c.split_at_mut-front.ensures.back
    (ap (λ (z : Chunk _ _). get_or front c.args.a.chunk z) c.index-front-a.is) (ap (λ (z : Chunk _ _). get_or back 0 z) c.index-back-0.is)
    c.exchange.ensures.items c.exchange.ensures.other_items c.exchange.ensures.mark c.exchange.ensures.other_mark
