-- Why a range was not put in.
--     IsRefusal free value error    the error has the value, and says whether the range was free
use Rattle.std.specs.Prelude.{◌≡◌}
use Rattle.range_map.specs.declared.insert_error.InsertError.{InsertError}
use Rattle.range_map.specs.declared.insert_error.InsertError.TheVariants.{NotFree, OutOfMemory}

-- the error has the value; it is `NotFree` exactly if the range wasn't free
abbrev pub IsRefusal : {V : Type 0} → Type 0 → V → InsertError V → Type 0
IsRefusal free value (NotFree v) = (v ≡ value) × ¬ free
IsRefusal free value (OutOfMemory v) = (v ≡ value) × free
