use Rattle.std.proofs.Common.{◌≡◌, take, rules}
use Rattle.std.proofs.lemmas.List.Sorted.{answers_always}
use Rattle.range_c.proofs.Joined.{IsUnionOf-permutation}
use Rattle.range_c.proofs.ranges.from_ranges.Goals as goal

pub returns-clause-union : goal.returns-clause-union
returns-clause-union g c =
    IsUnionOf-permutation g.met.E.Number.Ord.total g.E.Ends.first g.E.Ends.last c.args.ranges.now c.sort_unstable_by_key.new.self (take c.join.result c.join.new.ranges)
    c.sort_unstable_by_key.ensures.permutation c.join.ensures.union

pub join-requires : goal.join-requires
join-requires g c =
    c.sort_unstable_by_key.ensures.sorted g.E.Ends.first (answers_always _ (λ a r. r ≡ g.E.Ends.first a.0.now) _ (λ f a r q k. search rules))
