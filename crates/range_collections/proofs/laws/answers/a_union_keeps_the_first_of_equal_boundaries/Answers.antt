use Rattle.std.proofs.Common.{◌≡◌, Some, filter, slice_get}
use Rattle.std.proofs.lemmas.List.Elements.{All-contains}
use Rattle.std.specs.List.{flat_map}
use Rattle.std.specs.Ordering.{is_eq}
use Rattle.range_collections.proofs.Answered.{is_copy-found}
use Rattle.range_collections.proofs.laws.answers.a_union_keeps_the_first_of_equal_boundaries.Goals as goal

pub returns-clause-first : goal.returns-clause-first
returns-clause-first g c = λ room parts items x y gives there first.
    let all = flat_map (λ part. part) parts in
    is_copy-found g.T.EntryClone.is_copy (slice_get (filter (λ z. is_eq (g.T.Ord.cmp y z)) all) 0) x y
    (All-contains
    (λ y. (z : _) × (slice_get (filter (λ w. is_eq (g.T.Ord.cmp y w)) all) 0 ≡ Some z) × g.T.EntryClone.is_copy z y)
    items y gives.first_own_item there)
    first
