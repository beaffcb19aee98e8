use Rattle.std.proofs.Common.{length, arith}
use Rattle.range_merge.proofs.Digits.{digits-le}
use Rattle.range_list.proofs.Found.{IsAscending-firsts, found-first, from-chunk, start-less_end}
use Rattle.range_list.proofs.searching.find.Goals as goal

pub search_keys-requires-clause-ascending : goal.search_keys-requires-clause-ascending
search_keys-requires-clause-ascending g c = rw c.as_slice.ensures (IsAscending-firsts g.L.KeyOf.key_of g.C.Compare.order c.args.chunks.now c.requires.ascending)

pub find_behind-requires-clause-made : goal.find_behind-requires-clause-made
find_behind-requires-clause-made g c = omega (arith, digits-le (length c.as_slice.result.now), c.search_keys.ensures.comparisons.at_most, c.requires.made)

pub returns-in-Ok-clause-found_within : goal.returns-in-Ok-clause-found_within
returns-in-Ok-clause-found_within g c = omega (arith, start-less_end c.args.chunks.now c.in-Ok.chunk (rw c.as_slice.ensures at c.in-Ok.ensures.found_within))

pub returns-in-Ok-clause-found : goal.returns-in-Ok-clause-found
returns-in-Ok-clause-found g c =
    found-first g.L.KeyOf.key_of g.C.Compare.order g.met.C.Compare.total c.args.chunks.now c.args.key.now c.requires.ascending c.in-Ok.chunk (rw c.as_slice.ensures at c.in-Ok.ensures.found_within) (rw c.as_slice.ensures at c.in-Ok.ensures.found)

pub returns-in-Err-eq0-clause-missing_from : goal.returns-in-Err-eq0-clause-missing_from
returns-in-Err-eq0-clause-missing_from g c =
    from-chunk g.L.KeyOf.key_of g.C.Compare.order g.met.C.Compare.total c.args.chunks.now c.args.key.now c.requires.ascending 0 c.requires.some
    (λ k d low high. (rw c.as_slice.ensures at c.in-Err-eq0.ensures.missing_from) k d (omega arith) high)
