use Rattle.std.proofs.Common.{◌≡◌, ◌<◌, ◌≤◌, ◌+◌, ◌-◌, ap, length, rules, arith}
use Rattle.std.proofs.lemmas.Bool.Decides.{nat_tests}
use Rattle.range_list.proofs.Flat.{start-mono}
use Rattle.range_list.proofs.Found.{start-less}
use Rattle.range_list.proofs.InOrder.{earlier, before-later, at-end}
use Rattle.range_list.specs.Chunks.{items_of, start_of}
use Rattle.range_list.proofs.splicing.is_before.Goals as goal

pub returns-then-from-to-2-clause-none : goal.returns-then-from-to-2-clause-none
returns-then-from-to-2-clause-none g c = λ same. omega (arith, c.requires.ordered, earlier c.args.chunks.now c.args.from c.args.to c.requires.to (omega arith))

pub returns-then-from-len-clause-some : goal.returns-then-from-len-clause-some
returns-then-from-len-clause-some g c = λ same.
    let fits : c.args.from.index < length (items_of c.index.result.now) = search rules in
    before-later c.args.chunks.now c.args.from c.args.to c.index.result.now c.requires.from (rw c.chunks.view_is at c.index.ensures) fits (omega arith)

pub returns-then-to-gt0-clause-some : goal.returns-then-to-gt0-clause-some
returns-then-to-gt0-clause-some g c = λ same.
    let end : length (items_of c.index.result.now) ≤ c.args.from.index = search rules in
    omega (
      arith,
      at-end c.args.chunks.now c.args.from c.index.result.now c.requires.from (rw c.chunks.view_is at c.index.ensures) end,
      start-mono c.args.chunks.now (c.args.from.chunk + 1) c.args.to.chunk (omega arith),
    )

pub returns-else-to-gt0-clause-some : goal.returns-else-to-gt0-clause-some
returns-else-to-gt0-clause-some g c = λ same.
    let end : length (items_of c.index.result.now) ≤ c.args.from.index = search rules in
    let far : 1 < c.args.to.chunk - c.args.from.chunk = grind (arith, nat_tests, same) in
    omega (
      arith,
      at-end c.args.chunks.now c.args.from c.index.result.now c.requires.from (rw c.chunks.view_is at c.index.ensures) end,
      start-less c.args.chunks.now (c.args.from.chunk + 1) c.args.to.chunk (omega (arith, far)) (omega (arith, c.requires.to.chunk)),
    )

pub returns-else-to-gt0-clause-none : goal.returns-else-to-gt0-clause-none
returns-else-to-gt0-clause-none g c = λ same.
    let end : length (items_of c.index.result.now) ≤ c.args.from.index = search rules in
    let near : c.args.to.chunk - c.args.from.chunk ≤ 1 = grind (arith, nat_tests, same) in
    let next : c.args.from.chunk + 1 ≡ c.args.to.chunk = omega (arith, near) in
    omega (
      arith,
      at-end c.args.chunks.now c.args.from c.index.result.now c.requires.from (rw c.chunks.view_is at c.index.ensures) end,
      ap (λ n. start_of c.args.chunks.now n) next,
    )
