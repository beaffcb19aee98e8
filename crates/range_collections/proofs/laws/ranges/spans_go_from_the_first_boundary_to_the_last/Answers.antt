use Rattle.std.proofs.Common.{◌≡◌, sym, ap, ◌∙◌, true, false, List, [], ◌∷◌, Option, Some, None, length, arith}
use Rattle.std.specs.Prelude.{slice_get}
use Rattle.std.specs.List.{last_or}
use Rattle.std.specs.declared.ops.Bound.TheVariants.{Excluded, Unbounded}
use Rattle.std.proofs.lemmas.Bool.Decides.{nat_tests}
use Rattle.range_merge.specs.Boundaries.{is_odd}
use Rattle.range_collections.specs.Extent.{IsSpan}
use Rattle.range_collections.specs.Ranges.{ranges_of, range_start, range_end}
use Rattle.range_collections.specs.declared.range_set_range.RangeSetRange.{RangeSetRange}
use Rattle.range_collections.specs.declared.range_set_range.RangeSetRange.TheVariants.{Range, RangeFrom}
use Rattle.range_collections.proofs.laws.ranges.spans_go_from_the_first_boundary_to_the_last.Goals as goal

-- the first range starts at the first boundary
start_of-first : {K : Type 0} (items : List K) (r : RangeSetRange K) → slice_get (ranges_of items) 0 ≡ Some r →
    slice_get items 0 ≡ Some (range_start r)
start_of-first [] r h = cc
start_of-first (x ∷ []) r h = (let is : RangeFrom (record { start = x }) ≡ r = cc in ap (λ s. Some (range_start s)) is)
start_of-first (x ∷ y ∷ rest) r h =
    (let is : Range (record { start = x; end = y }) ≡ r = cc in ap (λ s. Some (range_start s)) is)

-- the last range of an even number of boundaries ends before the last of them
end_of-last : {K : Type 0} (o : Option (RangeSetRange K)) (p : Option K) (x : K) (items : List K) (r : RangeSetRange K) (last : K) →
    is_odd (length (x ∷ items)) ≡ false → last_or o (ranges_of (x ∷ items)) ≡ Some r → last_or p (x ∷ items) ≡ Some last →
    range_end r ≡ Excluded last
end_of-last o p x [] r last even h k = cc
end_of-last o p x (y ∷ []) r last even h k =
    let is : Range (record { start = x; end = y }) ≡ r = cc in
    let same : y ≡ last = cc in
    sym (ap range_end is) ∙ ap Excluded same
end_of-last o p x (y ∷ z ∷ rest) r last even h k =
    end_of-last (Some (Range (record { start = x; end = y }))) (Some y) z rest r last (grind (arith, nat_tests)) h k

-- that of an odd number has no end
no_end_of-last : {K : Type 0} (o : Option (RangeSetRange K)) (x : K) (items : List K) (r : RangeSetRange K) →
    is_odd (length (x ∷ items)) ≡ true → last_or o (ranges_of (x ∷ items)) ≡ Some r → range_end r ≡ Unbounded
no_end_of-last o x [] r odd h =
    let is : RangeFrom (record { start = x }) ≡ r = cc in
    sym (ap range_end is)
no_end_of-last o x (y ∷ []) r odd h = cc
no_end_of-last o x (y ∷ z ∷ rest) r odd h =
    no_end_of-last (Some (Range (record { start = x; end = y }))) z rest r (grind (arith, nat_tests)) h

by_end : {K : Type 0} (items : List K) (s : RangeSetRange K) (last : K) → IsSpan (ranges_of items) s →
    is_odd (length items) ≡ false → last_or None items ≡ Some last → range_end s ≡ Excluded last
by_end [] s last span even k = cc
by_end (x ∷ items) s last span even k = span.end ∙ end_of-last None None x items span.last last even span.is_last k

by_no_end : {K : Type 0} (items : List K) (s : RangeSetRange K) → IsSpan (ranges_of items) s →
    is_odd (length items) ≡ true → range_end s ≡ Unbounded
by_no_end [] s span odd = cc
by_no_end (x ∷ items) s span odd = span.end ∙ no_end_of-last None x items span.last odd span.is_last

pub returns-clause-start : goal.returns-clause-start
returns-clause-start g c = λ items s span.
    start_of-first items span.first span.is_first ∙ ap Some (sym span.start)

pub returns-clause-end : goal.returns-clause-end
returns-clause-end g c = by_end

pub returns-clause-no_end : goal.returns-clause-no_end
returns-clause-no_end g c = by_no_end
