use Rattle.std.proofs.Common.{◌≡◌, ◌∙◌, ◌∷◌, ◌++◌, ◌%◌, [], ap, subst, List, length, length-append, arith}
use Rattle.std.proofs.Math.Seq.{take-append_seam}
use Rattle.std.specs.declared.cmp.Ordering.{Ordering}
use Rattle.range_merge.specs.Boundaries.{IsAscending, is_odd}
use Rattle.range_collections.proofs.Cut.{IsAscending-take}
use Rattle.range_collections.proofs.Points.{even-from_test, odd-from_test}
use Rattle.range_collections.proofs.RangesAtEnds.{ranges_of-last_one, ranges_of-last_two}
use Rattle.range_collections.proofs.changes.taking.take_last_range.Goals as goal

-- the items before the last one
IsAscending-before : {K : Type 0} (order : K → K → Ordering) (items before : List K) (last : K) → items ≡ before ++ last ∷ [] → IsAscending order items →
    IsAscending order before
IsAscending-before order items before last is up =
    subst (IsAscending order) (take-append_seam before (last ∷ [])) (IsAscending-take order (length before) (before ++ last ∷ []) (subst (IsAscending order) is up))

pub returns-then-endless-clause-range : goal.returns-then-endless-clause-range
returns-then-endless-clause-range g c =
    let all = g.L.Splice.items c.args.list.now in
    let test : c.is_endless-endless.result ≡ is_odd (length all) = c.is_endless-endless.ensures in
    let odd : length all % 2 ≡ 1 = omega (arith, odd-from_test c.is_endless-endless.result (length all) test c.if-endless.true) in
    let even : length (g.L.Splice.items c.take_last.new.self) % 2 ≡ 0 =
    omega (arith, odd, ap length c.in_ok-last.ensures, length-append (g.L.Splice.items c.take_last.new.self) (c.in_ok-last.last ∷ [])) in
    ranges_of-last_one all (g.L.Splice.items c.take_last.new.self) c.in_ok-last.last c.in_ok-last.ensures even

pub returns-clause-sorted : goal.returns-clause-sorted
returns-clause-sorted g c =
    IsAscending-before g.T.Ord.cmp (g.L.Splice.items c.take_last.new.self) (g.L.Splice.items c.take_last-2.new.self) c.in_ok-start.start c.in_ok-start.ensures
    (IsAscending-before g.T.Ord.cmp (g.L.Splice.items c.args.list.now) (g.L.Splice.items c.take_last.new.self) c.in_ok-last.last c.in_ok-last.ensures c.requires)

pub returns-clause-range : goal.returns-clause-range
returns-clause-range g c =
    let all = g.L.Splice.items c.args.list.now in
    let test : c.is_endless-endless.result ≡ is_odd (length all) = c.is_endless-endless.ensures in
    let whole : length all % 2 ≡ 0 = even-from_test c.is_endless-endless.result (length all) test c.if-endless.false in
    let even : length (g.L.Splice.items c.take_last-2.new.self) % 2 ≡ 0 =
    omega (
      arith,
      whole,
      ap length c.in_ok-last.ensures,
      length-append (g.L.Splice.items c.take_last.new.self) (c.in_ok-last.last ∷ []),
      ap length c.in_ok-start.ensures,
      length-append (g.L.Splice.items c.take_last-2.new.self) (c.in_ok-start.start ∷ []),
    ) in
    ranges_of-last_two all (g.L.Splice.items c.take_last.new.self) (g.L.Splice.items c.take_last-2.new.self) c.in_ok-start.start c.in_ok-last.last c.in_ok-last.ensures c.in_ok-start.ensures even
