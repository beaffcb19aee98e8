use Rattle.std.proofs.Common.{◌≡◌, ◌∙◌, ap, length}
use Rattle.std.specs.List.{dedup}
use Rattle.std.specs.List.Sorted.{IsPermutation, IsStable}
use Rattle.range_collections.proofs.Distinct.{IsAscending-dedup, AreDistinctOf-dedup, refill_all}
use Rattle.range_collections.proofs.FirstOf.{AreFirstOf-dedup, AreFirstOf-stable}
use Rattle.range_collections.proofs.range_set.RangeSet.from_unsorted.Goals as goal

pub invariant_of-result : goal.invariant_of-result
invariant_of-result g c =
    let whole : length c.sort.new.self ≡ length c.args.list.items =
    c.in_ok-sort.ensures.len ∙ ap length c.as_mut_slice.ensures.value in
    let left : c.dedup.new.self.items ≡ dedup g.T.PartialEq.eq c.sort.new.self =
    c.dedup.ensures.items ∙ ap (dedup g.T.PartialEq.eq) (refill_all c.args.list.items c.sort.new.self whole) in
    rw left (IsAscending-dedup g.met.T.Ord.total g.met.T.Eq.laws g.met.T.Ord.matches_eq c.sort.new.self c.in_ok-sort.ensures.sorted)

pub returns-clause-distinct : goal.returns-clause-distinct
returns-clause-distinct g c =
    let whole : length c.sort.new.self ≡ length c.args.list.items =
    c.in_ok-sort.ensures.len ∙ ap length c.as_mut_slice.ensures.value in
    let left : c.dedup.new.self.items ≡ dedup g.T.PartialEq.eq c.sort.new.self =
    c.dedup.ensures.items ∙ ap (dedup g.T.PartialEq.eq) (refill_all c.args.list.items c.sort.new.self whole) in
    let moved : IsPermutation c.args.list.items c.sort.new.self =
    rw c.as_mut_slice.ensures.value at c.in_ok-sort.ensures.permutation in
    rw left
    (AreDistinctOf-dedup g.met.T.Ord.total g.met.T.Eq.laws g.met.T.Ord.matches_eq c.args.list.items c.sort.new.self moved c.in_ok-sort.ensures.sorted)

pub returns-clause-first : goal.returns-clause-first
returns-clause-first g c =
    let whole : length c.sort.new.self ≡ length c.args.list.items =
    c.in_ok-sort.ensures.len ∙ ap length c.as_mut_slice.ensures.value in
    let left : c.dedup.new.self.items ≡ dedup g.T.PartialEq.eq c.sort.new.self =
    c.dedup.ensures.items ∙ ap (dedup g.T.PartialEq.eq) (refill_all c.args.list.items c.sort.new.self whole) in
    let stable : IsStable g.T.Ord.cmp c.args.list.items c.sort.new.self =
    rw c.as_mut_slice.ensures.value at c.in_ok-sort.ensures.stable in
    rw left
    (AreFirstOf-stable g.met.T.Ord.total c.args.list.items c.sort.new.self (dedup g.T.PartialEq.eq c.sort.new.self) stable
    (AreFirstOf-dedup g.met.T.Ord.total g.met.T.Ord.matches_eq c.sort.new.self
    (IsAscending-dedup g.met.T.Ord.total g.met.T.Eq.laws g.met.T.Ord.matches_eq c.sort.new.self c.in_ok-sort.ensures.sorted)))
