use Rattle.std.proofs.Common.{◌≡◌, ◌≤◌, ◌+◌, suc, length, inl, inr, arith}
use Rattle.std.proofs.lemmas.Bool.{cases_lt}
use Rattle.range_list.specs.Chunks.{items_of}
use Rattle.range_list.specs.Places.{IsPlace}
use Rattle.range_list.proofs.InOrder.{index-at}
use Rattle.range_list.proofs.Behind.{length-last}
use Rattle.range_list.proofs.overwriting.item_place.Goals as goal

pub returns-else-at-len-clause-place : goal.returns-else-at-len-clause-place
returns-else-at-len-clause-place g c =
    let xs = c.args.chunks.now in
    let x = c.index.result.now in
    let read = rw c.chunks.view_is at c.index.ensures in
    let end : length (items_of x) ≤ c.args.at.index = omega (arith, c.len.ensures, c.if-at-len.false) in
    elim (cases_lt (suc c.args.at.chunk) (length xs)) as (λ _. IsPlace xs (record { chunk = c.args.at.chunk + 1; index = 0 })) [
      | inl more ↦ record { chunk = omega (arith, more); index = λ d. omega arith }
      | inr none ↦
          let last : suc c.args.at.chunk ≡ length xs = omega (arith, none, c.requires.place.chunk) in
          absurd (omega (arith, length-last xs c.args.at.chunk x last read, index-at xs c.args.at x c.requires.place read, end, c.requires.item))
    ]
