use Rattle.std.proofs.Common.{rules, ◌≤◌, ◌∙◌, ap, sym, length, true≢false, arith}
use Rattle.range_list.specs.Chunks.{flat}
use Rattle.range_list.specs.Places.{place_in}
use Rattle.range_list.proofs.Listed.{joined-lists, joined-none, place-lists, IsPlace-from, listed-splice, listed-fill, same-lists}
use Rattle.range_list.proofs.Counted.{length-spliced, kept-on_err}
use Rattle.range_list.proofs.list.Chunks.splice.Goals as goal

pub returns-then-is_empty-clause-items : goal.returns-then-is_empty-clause-items
returns-then-is_empty-clause-items g c =
    rw (← c.self.view_is)
    (listed-fill c.self.inside.chunks c.args.from c.args.to c.args.start c.args.end c.fill.new.chunks (search rules) (rw (← c.self.view_is) at c.requires.from) (rw (← c.self.view_is) at c.requires.to)
    c.in_ok-fill.ensures.items)

pub splice-requires-clause-from : goal.splice-requires-clause-from
splice-requires-clause-from g c = IsPlace-from c.self.inside.chunks c.args.from (search rules) (rw (← c.self.view_is) at c.requires.from)

pub splice-requires-clause-to : goal.splice-requires-clause-to
splice-requires-clause-to g c = IsPlace-from c.self.inside.chunks c.args.to (search rules) (rw (← c.self.view_is) at c.requires.to)

pub splice-requires-clause-ordered : goal.splice-requires-clause-ordered
splice-requires-clause-ordered g c =
    omega (arith, place-lists c.self.inside.chunks c.args.from, place-lists c.self.inside.chunks c.args.to, rw (← c.self.view_is) at c.requires.ordered)

pub splice-requires-clause-alike : goal.splice-requires-clause-alike
splice-requires-clause-alike g c =
    rw (← place-lists c.self.inside.chunks c.args.from, ← place-lists c.self.inside.chunks c.args.to) (rw (← c.self.view_is) at c.requires.alike)

pub splice-requires-clause-alike_next : goal.splice-requires-clause-alike_next
splice-requires-clause-alike_next g c =
    rw (← place-lists c.self.inside.chunks c.args.from, ← place-lists c.self.inside.chunks c.args.to) (rw (← c.self.view_is) at c.requires.alike_next)

pub returns-clause-items : goal.returns-clause-items
returns-clause-items g c =
    rw (← c.self.view_is)
    (listed-splice c.self.inside.chunks c.args.from c.args.to c.args.start c.args.end c.splice.new.chunks c.in_ok-splice.ensures.items)

pub returns-in_err-fill-clause-unchanged : goal.returns-in_err-fill-clause-unchanged
returns-in_err-fill-clause-unchanged g c =
    rw (← c.self.view_is)
    (kept-on_err _ (joined-lists c.fill.new.chunks ∙ c.in_err-fill.ensures.unchanged ∙ sym (joined-none c.self.inside.chunks (search rules))))

pub returns-in_err-splice-clause-unchanged : goal.returns-in_err-splice-clause-unchanged
returns-in_err-splice-clause-unchanged g c =
    rw (← c.self.view_is) (kept-on_err _ (same-lists c.self.inside.chunks c.splice.new.chunks c.in_err-splice.ensures.unchanged))

pub returns-in_err-splice-clause-succeeds : goal.returns-in_err-splice-clause-succeeds
returns-in_err-splice-clause-succeeds g c =
    rw (← c.self.view_is)
    (λ fits. absurd (true≢false (sym (c.in_err-splice.ensures.succeeds
    (omega (arith, fits, place-lists c.self.inside.chunks c.args.from, place-lists c.self.inside.chunks c.args.to))))))

pub invariant_of-self-2 : goal.invariant_of-self-2
invariant_of-self-2 g c =
    let xs = c.self.inside.chunks in
    let within : place_in xs c.args.to ≤ length (flat xs) = omega (arith, place-lists xs c.args.to, ap length (joined-lists xs), rw (← c.self.view_is) at c.len_without.ensures.within) in
    let ordered : place_in xs c.args.from ≤ place_in xs c.args.to = omega (arith, place-lists xs c.args.from, place-lists xs c.args.to, rw (← c.self.view_is) at c.requires.ordered) in
    omega (
      arith,
      c.in-Some.ensures,
      rw (← c.self.view_is) at c.len_without.ensures.len,
      place-lists xs c.args.from,
      place-lists xs c.args.to,
      ap length (joined-lists xs),
      c.option_len.ensures.len,
      c.option_len-2.ensures.len,
      ap length c.in_ok-splice.ensures.items,
      length-spliced (flat xs) (place_in xs c.args.from) (place_in xs c.args.to) c.args.start c.args.end ordered within,
    )
