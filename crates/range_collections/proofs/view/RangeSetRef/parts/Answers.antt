use Rattle.std.proofs.Common.{◌≡◌, refl, sym}
use Rattle.std.proofs.lemmas.List.{length-take-le, take_rest}
use Rattle.std.specs.declared.cmp.Ordering.TheVariants.{Less}
use Rattle.range_merge.proofs.Pairs.{AllPairs-drop}
use Rattle.range_collections.proofs.Cut.{IsAscending-take}
use Rattle.range_collections.proofs.view.RangeSetRef.parts.Goals as goal

pub slice_bounds-left-end : goal.slice_bounds-left-end
slice_bounds-left-end g c = sym (length-take-le c.args.end c.args.self.now.boundaries.now c.requires.end)

pub offset_bounds-items-start : goal.offset_bounds-items-start
offset_bounds-items-start g c = c.requires.start

pub slice_bounds-right-count : goal.slice_bounds-right-count
slice_bounds-right-count g c = c.requires.start

pub invariant_of-left : goal.invariant_of-left
invariant_of-left g c = record {
  sorted = IsAscending-take g.T.Ord.cmp c.args.end c.args.self.now.boundaries.now c.args.self.now.sorted;
}

pub invariant_of-right : goal.invariant_of-right
invariant_of-right g c =
    let items = c.args.self.now.boundaries.now in
    record {
      sorted = rw (take_rest items c.args.start) (AllPairs-drop (λ x y. g.T.Ord.cmp x y ≡ Less) c.args.start items c.args.self.now.sorted);
    }

pub returns-clause-left : goal.returns-clause-left
returns-clause-left g c = refl

pub returns-clause-right : goal.returns-clause-right
returns-clause-right g c = take_rest c.args.self.now.boundaries.now c.args.start
