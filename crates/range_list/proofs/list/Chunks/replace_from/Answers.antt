use Rattle.std.proofs.Common.{rules, ◌≡◌, ◌∙◌, ◌+◌, ◌≤◌, ◌++◌, ap, sym, length, take, true≢false, arith}
use Rattle.std.specs.Option.{option_to_list}
use Rattle.std.proofs.lemmas.List.{length-append, length-take-le}
use Rattle.range_list.specs.Chunks.{flat}
use Rattle.range_list.specs.Lists.{lists_of}
use Rattle.range_list.specs.Places.{place_in}
use Rattle.range_list.proofs.Listed.{joined-lists, place-lists, IsPlace-from, same-lists, taken-lists}
use Rattle.range_list.proofs.Placed.{place_at-within}
use Rattle.range_list.proofs.Counted.{kept-on_err}
use Rattle.range_list.proofs.list.Chunks.replace_from.Goals as goal

pub len_without-requires-clause-ordered : goal.len_without-requires-clause-ordered
len_without-requires-clause-ordered g c = omega (arith, c.end.ensures.all, place_at-within _ c.args.at c.requires)

pub replace_from-requires : goal.replace_from-requires
replace_from-requires g c = record { place = IsPlace-from c.self.inside.chunks c.args.at (search rules) (rw (← c.self.view_is) at c.requires) }

pub returns-clause-items : goal.returns-clause-items
returns-clause-items g c =
    rw (← c.self.view_is)
    (joined-lists c.replace_from.new.chunks ∙ c.in_ok-replace_from.ensures.items ∙ ap (λ zs. zs ++ option_to_list c.args.item) (sym (taken-lists c.self.inside.chunks c.args.at)))

pub returns-in_err-replace_from-clause-unchanged : goal.returns-in_err-replace_from-clause-unchanged
returns-in_err-replace_from-clause-unchanged g c =
    rw (← c.self.view_is) (kept-on_err _ (same-lists c.self.inside.chunks c.replace_from.new.chunks c.in_err-replace_from.ensures.unchanged))

pub returns-in_err-replace_from-clause-succeeds : goal.returns-in_err-replace_from-clause-succeeds
returns-in_err-replace_from-clause-succeeds g c =
    let xs = c.self.inside.chunks in
    rw (← c.self.view_is)
    (λ fits. absurd (true≢false (sym (c.in_err-replace_from.ensures.succeeds (omega (arith, fits, place-lists xs c.args.at, ap length (joined-lists xs)))))))

pub invariant_of-self-2 : goal.invariant_of-self-2
invariant_of-self-2 g c =
    let xs = c.self.inside.chunks in
    let sum : c.in_ok-len.len ≡ c.len_without.result + c.option_len-put.result = search rules in
    let within : place_in xs c.args.at ≤ length (flat xs) = omega (arith, place-lists xs c.args.at, ap length (joined-lists xs), place_at-within (lists_of xs) c.args.at (rw (← c.self.view_is) at c.requires)) in
    omega (
      arith,
      sum,
      rw (← c.self.view_is) at c.len_without.ensures.len,
      rw (← c.self.view_is) at c.end.ensures.all,
      place-lists xs c.args.at,
      ap length (joined-lists xs),
      within,
      c.option_len-put.ensures.len,
      ap length c.in_ok-replace_from.ensures.items,
      length-append (take (place_in xs c.args.at) (flat xs)) (option_to_list c.args.item),
      length-take-le (place_in xs c.args.at) (flat xs) within,
    )
