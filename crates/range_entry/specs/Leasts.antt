-- The least values of lists and texts, and that nothing is below them.
use Rattle.std.specs.Prelude.{◌≢◌, List, [], ◌∷◌, Option, Some, None, refl, String, Vec}
use Rattle.std.specs.Cmp.Lexicographic.{slice_cmp}
use Rattle.std.specs.Option.{option_cmp}
use Rattle.std.specs.declared.alloc.Global.{Global}
use Rattle.std.specs.declared.cmp.Ordering.{Ordering}
use Rattle.std.specs.declared.cmp.Ordering.TheVariants.{Less}
use Rattle.std.proofs.Common.{lit≤, lit<}
use denote.Bor.{Bor}
use denote.RawPtr.{null_ptr}

-- a reference to the empty list or text
abbrev pub empty_reference : {T : Type 0} → Bor (List T)
empty_reference = record { ref_ptr = (0, 0); now = [] }

-- a list with no items and no memory
abbrev pub empty_list : {T : Type 0} → Vec T Global
empty_list = record { ptr = null_ptr; len = 0; cap = 0; alloc = record { memory = record { seal = tt } }; items = []; ok = (refl, lit≤ tt); small = lit< tt }

-- a text with no characters and no memory
abbrev pub empty_text : String Global
empty_text = record { bytes = empty_list; ok = ∣ ([], (refl, refl)) ∣₁ }

-- nothing is below `None`
pub None-lowest : {T : Type 0} (order : T → T → Ordering) (x : Option T) → option_cmp order x None ≢ Less
None-lowest order None = λ h. cc
None-lowest order (Some x) = λ h. cc

-- nothing is below the empty list
pub empty_list-lowest : {T : Type 0} (order : T → T → Ordering) (xs : List T) → slice_cmp order xs [] ≢ Less
empty_list-lowest order [] = λ h. cc
empty_list-lowest order (x ∷ xs) = λ h. cc
