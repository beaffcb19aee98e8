-- Maps to the unit, which are sets.
--     unit_if b       the unit if b is true
--     on_off b n      n options, by turns the unit and none; the first is the unit if b is true
use Rattle.std.specs.Prelude.{ℕ, zero, suc, Bool, not, cond, List, [], ◌∷◌, Option, Some, None}

-- the unit if b is true
abbrev pub unit_if : Bool → Option (Unit {0})
unit_if b = cond b (Some tt) None

-- n options, by turns the unit and none
abbrev pub on_off : Bool → ℕ → List (Option (Unit {0}))
on_off b zero = []
on_off b (suc n) = unit_if b ∷ on_off (not b) n
