use Rattle.std.proofs.Common.{sym, subst, length, drop, vec_len, List, arith}
use Rattle.std.proofs.lemmas.List.{take_at}
use Rattle.range_list.specs.declared.chunk.Chunk.{Chunk}
use Rattle.range_list.specs.Places.{IsExchanged}
use Rattle.range_list.proofs.swapping.exchange.Goals as goal

pub returns : goal.returns
returns g c =
    let new = c.exchange_in.new.chunks in
    let old = c.args.chunks.now in
    subst (λ (zs : List (Chunk _ _)). IsExchanged old.items zs c.args.a c.args.b)
    (sym (take_at new (drop (length new) old.items) (vec_len old) (omega (arith, c.exchange_in.ensures.len, c.as_mut_slice.ensures.len))))
    (rw c.as_mut_slice.ensures.value at c.exchange_in.ensures.exchanged)
