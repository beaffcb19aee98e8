use Rattle.std.proofs.Common.{rules, ◌≡◌, ◌∙◌, ap, sym, length, arith}
use Rattle.std.proofs.lemmas.List.{length-take-le}
use Rattle.range_list.specs.Chunks.{flat}
use Rattle.range_list.specs.Lists.{joined, place_at}
use Rattle.range_list.specs.Places.{place_in}
use Rattle.range_list.proofs.Listed.{joined-lists, place-lists, IsPlace-from, taken-lists, taken-none}
use Rattle.range_list.proofs.Placed.{place_at-within}
use Rattle.range_list.proofs.list.Chunks.truncate.Goals as goal

pub truncate-requires : goal.truncate-requires
truncate-requires g c = record { place = IsPlace-from c.self.inside.chunks c.args.at (search rules) (rw (← c.self.view_is) at c.requires) }

pub returns-then-not-is_empty : goal.returns-then-not-is_empty
returns-then-not-is_empty g c = rw (← c.self.view_is) (joined-lists c.truncate.new.chunks ∙ c.truncate.ensures ∙ sym (taken-lists c.self.inside.chunks c.args.at))

pub returns-else-not-is_empty : goal.returns-else-not-is_empty
returns-else-not-is_empty g c = rw (← c.self.view_is) (sym (taken-none c.self.inside.chunks c.args.at (search rules)))

pub len_without-self-inside-requires-clause-ordered : goal.len_without-self-inside-requires-clause-ordered
len_without-self-inside-requires-clause-ordered g c = omega (arith, c.end.ensures.all, place_at-within _ c.args.at c.requires)

pub invariant_of-self : goal.invariant_of-self
invariant_of-self g c =
    let xs = c.self.inside.chunks in
    let most = place_at-within _ c.args.at c.requires in
    let left : c.len_without-self-inside.result ≡ place_in xs c.args.at =
    omega (arith, c.len_without-self-inside.ensures.len, c.end.ensures.all, most, ap (λ ls. place_at ls c.args.at) c.self.view_is, place-lists xs c.args.at) in
    left
    ∙ sym (length-take-le (place_in xs c.args.at) (flat xs) (omega (arith, most, ap (λ ls. place_at ls c.args.at) c.self.view_is, ap (λ ls. length (joined ls)) c.self.view_is, place-lists xs c.args.at, ap length (joined-lists xs))))
    ∙ ap length (sym c.truncate.ensures)
