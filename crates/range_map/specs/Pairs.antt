-- Ranges with values, of which a later one goes before an earlier one.
--     last_at order pairs before x    the value of the last pair whose range holds x, or else before
use Rattle.std.specs.Prelude.{cond, List, [], ◌∷◌, Option, Some}
use Rattle.std.specs.declared.cmp.Ordering.{Ordering}
use Rattle.std.specs.declared.ops.Range.{Range}
use Rattle.range_map.specs.Changed.{is_in_range}

-- the value of the last pair whose range holds x, or else the option before
abbrev pub last_at : {K V : Type 0} → (K → K → Ordering) → List (Range K × V) → Option V → K →
    Option V
last_at order [] before x = before
last_at order (q ∷ qs) before x =
    last_at order qs (cond (is_in_range order q.0.start (Some q.0.end) x) (Some q.1) before) x
