use Rattle.std.proofs.Common.{rules, ◌≤◌, ◌<◌, ap, sym, length, true≢false, arith}
use Rattle.range_list.specs.Chunks.{flat}
use Rattle.range_list.specs.Places.{place_in}
use Rattle.range_list.proofs.Listed.{joined-lists, place-lists, place-none, IsPlace-from, listed-last, same-lists}
use Rattle.range_list.proofs.Counted.{length-spliced_last, kept-on_err}
use Rattle.range_list.proofs.list.Chunks.splice_last.Goals as goal

pub returns-then-is_empty-clause-items : goal.returns-then-is_empty-clause-items
returns-then-is_empty-clause-items g c =
    let some = rw (← c.self.view_is) at c.requires.some in
    absurd (omega (arith, some, place-none c.self.inside.chunks c.args.to (search rules) (rw (← c.self.view_is) at c.requires.to)))

pub splice_last-requires-clause-from : goal.splice_last-requires-clause-from
splice_last-requires-clause-from g c = IsPlace-from c.self.inside.chunks c.args.from (search rules) (rw (← c.self.view_is) at c.requires.from)

pub splice_last-requires-clause-to : goal.splice_last-requires-clause-to
splice_last-requires-clause-to g c = IsPlace-from c.self.inside.chunks c.args.to (search rules) (rw (← c.self.view_is) at c.requires.to)

pub splice_last-requires-clause-some : goal.splice_last-requires-clause-some
splice_last-requires-clause-some g c = omega (arith, place-lists c.self.inside.chunks c.args.from, place-lists c.self.inside.chunks c.args.to, rw (← c.self.view_is) at c.requires.some)

pub splice_last-requires-clause-alike : goal.splice_last-requires-clause-alike
splice_last-requires-clause-alike g c = rw (← place-lists c.self.inside.chunks c.args.from, ← place-lists c.self.inside.chunks c.args.to) (rw (← c.self.view_is) at c.requires.alike)

pub returns-clause-items : goal.returns-clause-items
returns-clause-items g c =
    rw (← c.self.view_is)
    (λ d. listed-last (λ x. g.L.SetKey.with_key x c.args.key) c.self.inside.chunks c.args.from c.args.to c.args.start c.splice_last.new.chunks d (c.in_ok-splice_last.ensures.items d))

pub returns-in_err-splice_last-clause-unchanged : goal.returns-in_err-splice_last-clause-unchanged
returns-in_err-splice_last-clause-unchanged g c =
    rw (← c.self.view_is) (kept-on_err _ (same-lists c.self.inside.chunks c.splice_last.new.chunks c.in_err-splice_last.ensures.unchanged))

pub returns-in_err-splice_last-clause-succeeds : goal.returns-in_err-splice_last-clause-succeeds
returns-in_err-splice_last-clause-succeeds g c =
    rw (← c.self.view_is)
    (λ fits. absurd (true≢false (sym (c.in_err-splice_last.ensures.succeeds
    (omega (arith, fits, place-lists c.self.inside.chunks c.args.from, place-lists c.self.inside.chunks c.args.to))))))

pub invariant_of-self-2 : goal.invariant_of-self-2
invariant_of-self-2 g c =
    let xs = c.self.inside.chunks in
    let within : place_in xs c.args.to ≤ length (flat xs) = omega (arith, place-lists xs c.args.to, ap length (joined-lists xs), rw (← c.self.view_is) at c.len_without.ensures.within) in
    let some : place_in xs c.args.from < place_in xs c.args.to = omega (arith, place-lists xs c.args.from, place-lists xs c.args.to, rw (← c.self.view_is) at c.requires.some) in
    omega (
      arith,
      c.in-Some.ensures,
      rw (← c.self.view_is) at c.len_without.ensures.len,
      place-lists xs c.args.from,
      place-lists xs c.args.to,
      ap length (joined-lists xs),
      c.option_len-put.ensures.len,
      length-spliced_last (λ x. g.L.SetKey.with_key x c.args.key) xs (flat c.splice_last.new.chunks) (place_in xs c.args.from) (place_in xs c.args.to) c.args.start some within c.in_ok-splice_last.ensures.items,
    )
