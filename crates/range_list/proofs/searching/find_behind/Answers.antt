use Rattle.std.proofs.Common.{◌≤◌, ◌-◌, ap, length, arith}
use Rattle.range_merge.proofs.Digits.{digits-mono}
use Rattle.range_list.proofs.Flat.{start-within}
use Rattle.range_list.proofs.Removed.{short-at}
use Rattle.range_list.proofs.Found.{IsAscending-rest, found-rest, before-rest, from-rest}
use Rattle.range_list.proofs.searching.find_behind.Goals as goal

pub search-requires-clause-ascending : goal.search-requires-clause-ascending
search-requires-clause-ascending g c =
    rw c.as_slice.ensures.value
    (IsAscending-rest g.L.KeyOf.key_of g.C.Compare.order c.args.chunks.now c.requires.ascending c.args.chunk c.index.result.now c.requires.within (rw c.chunks.view_is at c.index.ensures))

pub returns-in-Ok-clause-found_within : goal.returns-in-Ok-clause-found_within
returns-in-Ok-clause-found_within g c =
    omega (
      arith,
      start-within c.args.chunks.now c.args.chunk c.index.result.now c.requires.within (rw c.chunks.view_is at c.index.ensures),
      c.in-Ok.ensures.found_within,
      ap length c.as_slice.ensures.value,
    )

pub returns-in-Ok-clause-found : goal.returns-in-Ok-clause-found
returns-in-Ok-clause-found g c =
    found-rest g.L.KeyOf.key_of g.C.Compare.order g.met.C.Compare.total c.args.chunks.now c.args.key.now c.requires.ascending c.args.chunk c.index.result.now c.requires.within (rw c.chunks.view_is at c.index.ensures)
    c.in-Ok.i (rw c.as_slice.ensures.value at c.in-Ok.ensures.found_within) (rw c.as_slice.ensures.value at c.in-Ok.ensures.found)

pub returns-in-Ok-clause-comparisons : goal.returns-in-Ok-clause-comparisons
returns-in-Ok-clause-comparisons g c =
    let short = short-at c.args.chunks.now c.args.chunk c.index.result.now (rw c.chunks.view_is at c.chunks.invariant).short c.requires.within (rw c.chunks.view_is at c.index.ensures) in
    let n : length c.as_slice.result.now ≤ (g.M.Mark.FULL - 1) = omega (arith, short, ap length c.as_slice.ensures.value) in
    record {
      at_least = c.in-Ok.ensures.comparisons.at_least;
      at_most = omega (arith, c.in-Ok.ensures.comparisons.at_most, digits-mono (length c.as_slice.result.now) (g.M.Mark.FULL - 1) n);
    }

pub returns-in-Err-clause-missing_before : goal.returns-in-Err-clause-missing_before
returns-in-Err-clause-missing_before g c =
    before-rest g.L.KeyOf.key_of g.C.Compare.order g.met.C.Compare.total c.args.chunks.now c.args.key.now c.requires.ascending c.args.chunk c.index.result.now c.requires.within (rw c.chunks.view_is at c.index.ensures)
    c.in-Err.i (rw c.as_slice.ensures.value at c.in-Err.ensures.missing_within) c.requires.before (rw c.as_slice.ensures.value at c.in-Err.ensures.missing_before)

pub returns-in-Err-clause-missing_from : goal.returns-in-Err-clause-missing_from
returns-in-Err-clause-missing_from g c =
    from-rest g.L.KeyOf.key_of g.C.Compare.order g.met.C.Compare.total c.args.chunks.now c.args.key.now c.requires.ascending c.args.chunk c.index.result.now c.requires.within (rw c.chunks.view_is at c.index.ensures)
    c.in-Err.i c.requires.from (rw c.as_slice.ensures.value at c.in-Err.ensures.missing_from)

pub returns-in-Err-clause-comparisons : goal.returns-in-Err-clause-comparisons
returns-in-Err-clause-comparisons g c =
    let short = short-at c.args.chunks.now c.args.chunk c.index.result.now (rw c.chunks.view_is at c.chunks.invariant).short c.requires.within (rw c.chunks.view_is at c.index.ensures) in
    let n : length c.as_slice.result.now ≤ (g.M.Mark.FULL - 1) = omega (arith, short, ap length c.as_slice.ensures.value) in
    record {
      at_least = c.in-Err.ensures.comparisons.at_least;
      at_most = omega (arith, c.in-Err.ensures.comparisons.at_most, digits-mono (length c.as_slice.result.now) (g.M.Mark.FULL - 1) n);
    }
