use Rattle.std.proofs.Common.{rules, ◌≡◌, ◌≤◌, ◌+◌, ◌++◌, ◌∙◌, ap, sym, length, take, drop, arith}
use Rattle.std.proofs.lemmas.List.{length-append, length-take-le, length-drop}
use Rattle.range_list.specs.Chunks.{flat}
use Rattle.range_list.specs.Places.{place_in}
use Rattle.range_list.proofs.Listed.{joined-lists, joined-none, place-lists, IsPlace-from, same-lists, listed-replaced, replaced-none}
use Rattle.range_list.proofs.Counted.{kept-on_err}
use Rattle.range_list.proofs.list.Chunks.replace_between.Goals as goal

pub replace_between-requires-clause-from : goal.replace_between-requires-clause-from
replace_between-requires-clause-from g c = IsPlace-from c.self.inside.chunks c.args.from (search rules) (rw (← c.self.view_is) at c.requires.from)

pub replace_between-requires-clause-to : goal.replace_between-requires-clause-to
replace_between-requires-clause-to g c = IsPlace-from c.self.inside.chunks c.args.to (search rules) (rw (← c.self.view_is) at c.requires.to)

pub replace_between-requires-clause-ordered : goal.replace_between-requires-clause-ordered
replace_between-requires-clause-ordered g c =
    omega (arith, place-lists c.self.inside.chunks c.args.from, place-lists c.self.inside.chunks c.args.to, rw (← c.self.view_is) at c.requires.ordered)

pub replace_between-requires-clause-alike : goal.replace_between-requires-clause-alike
replace_between-requires-clause-alike g c = λ more.
    rw (← place-lists c.self.inside.chunks c.args.from, ← place-lists c.self.inside.chunks c.args.to)
    ((rw (← c.self.view_is) at c.requires.alike) (omega (arith, more, place-lists c.self.inside.chunks c.args.to, ap length (joined-lists c.self.inside.chunks))))

pub returns-then-is_empty-clause-items : goal.returns-then-is_empty-clause-items
returns-then-is_empty-clause-items g c =
    rw (← c.self.view_is)
    (joined-lists c.fill_from.new.chunks ∙ c.in_ok-fill_from.ensures.items ∙ replaced-none c.self.inside.chunks c.args.from c.args.to c.args.list.items (search rules))

pub returns-in_err-fill_from-clause-unchanged : goal.returns-in_err-fill_from-clause-unchanged
returns-in_err-fill_from-clause-unchanged g c =
    rw (← c.self.view_is)
    (kept-on_err _ (joined-lists c.fill_from.new.chunks ∙ c.in_err-fill_from.ensures.unchanged ∙ sym (joined-none c.self.inside.chunks (search rules))))

pub returns-clause-items : goal.returns-clause-items
returns-clause-items g c =
    rw (← c.self.view_is) (listed-replaced c.self.inside.chunks c.replace_between.new.chunks c.args.from c.args.to c.args.list.items c.in_ok-replace_between.ensures.items)

pub returns-in_err-replace_between-clause-unchanged : goal.returns-in_err-replace_between-clause-unchanged
returns-in_err-replace_between-clause-unchanged g c =
    rw (← c.self.view_is) (kept-on_err _ (same-lists c.self.inside.chunks c.replace_between.new.chunks c.in_err-replace_between.ensures.unchanged))

pub invariant_of-self-2 : goal.invariant_of-self-2
invariant_of-self-2 g c =
    let xs = c.self.inside.chunks in
    let sum : c.in_ok-len.len ≡ c.len_without.result + c.len-put.result = search rules in
    let within : place_in xs c.args.to ≤ length (flat xs) = omega (arith, place-lists xs c.args.to, ap length (joined-lists xs), rw (← c.self.view_is) at c.len_without.ensures.within) in
    let ordered : place_in xs c.args.from ≤ place_in xs c.args.to = omega (arith, place-lists xs c.args.from, place-lists xs c.args.to, rw (← c.self.view_is) at c.requires.ordered) in
    omega (
      arith,
      sum,
      rw (← c.self.view_is) at c.len_without.ensures.len,
      place-lists xs c.args.from,
      place-lists xs c.args.to,
      ap length (joined-lists xs),
      within,
      ordered,
      c.len-put.ensures,
      ap length c.in_ok-replace_between.ensures.items,
      length-append (take (place_in xs c.args.from) (flat xs)) (c.args.list.items ++ drop (place_in xs c.args.to) (flat xs)),
      length-append c.args.list.items (drop (place_in xs c.args.to) (flat xs)),
      length-take-le (place_in xs c.args.from) (flat xs) (omega (arith, within, ordered)),
      length-drop (place_in xs c.args.to) (flat xs),
    )
