use Rattle.std.proofs.Common.{◌≡◌, Any, Contains}
use Rattle.std.proofs.lemmas.List.Elements.{All-contains}
use Rattle.std.specs.declared.cmp.Ordering.TheVariants.{Equal}
use Rattle.range_merge.proofs.Marks.{IsMarkedTruly-changes}
use Rattle.range_merge.specs.Changes.{changes}
use Rattle.range_collections.specs.Ranges.{range_items}
use Rattle.range_collections.specs.Unions.{IsAscending-range}
use Rattle.range_collections.specs.declared.range_set_range.RangeSetRange.TheVariants.{Range}
use Rattle.range_collections.proofs.Kept.{are_copies-own, same-own}
use Rattle.range_collections.proofs.laws.kept.the_left_boundary_stays.Goals as goal

pub returns-clause-new_set : goal.returns-clause-new_set
returns-clause-new_set g c = λ f room a b items x y up up_b gives own there.
    let order = g.T.Ord.cmp in
    let is_copy = g.T.EntryClone.is_copy in
    All-contains (λ y. order x y ≡ Equal → is_copy x y) items y
    (are_copies-own g.met.T.Ord.total a x up own g.met.T.EntryClone.copy_is_equal b (changes order f a b) items
    (IsMarkedTruly-changes g.met.T.Ord.total f a b up up_b) gives.left_own_item)
    there

pub returns-clause-by_view : goal.returns-clause-by_view
returns-clause-by_view g c = λ f room a b new done x y up changed own.
    same-own g.met.T.Ord.total a x up own (λ y. Any (λ z. g.T.EntryClone.is_copy z y) b) new y changed.left_own_item

pub returns-clause-by_owned : goal.returns-clause-by_owned
returns-clause-by_owned g c = λ f room a b new done x y up changed own.
    same-own g.met.T.Ord.total a x up own (Contains b) new y changed.left_own_item

pub returns-clause-by_range : goal.returns-clause-by_range
returns-clause-by_range g c = λ f room a b new done x y up changed own.
    same-own g.met.T.Ord.total a x up own (Contains b) new y changed.left_own_item

pub returns-clause-parts : goal.returns-clause-parts
returns-clause-parts g c = λ f range items parts x y gives own.
    let order = g.T.Ord.cmp in
    same-own g.met.T.Ord.total (range_items order range.start.now range.end.now) x
    (IsAscending-range order (Range (record { start = range.start.now; end = range.end.now })))
    own (Contains items) parts y gives.own_ends
