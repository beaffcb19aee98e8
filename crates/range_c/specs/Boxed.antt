-- What C's address of a set owns.
--     owns_if R made alloc at x    what a box of made x at this address owns, or nothing where there is no x
use base.Fml.{Fml, ftrue}
use denote.RattleType.{RattleType}
use denote.RawPtr.{Ptr}
use Rattle.std.specs.Prelude.{Option, Some, None}
use Rattle.std.specs.Box.Ownership.{box_owns}
use Rattle.std.specs.Global.{Global}
use Rattle.std_heap.specs.contracts.GlobalAllocator.TheImpl.{ghosts}

-- what a box of made x at this address owns, or nothing where there is no x
abbrev pub owns_if : (R : RattleType) {X : Type 0} → (X → R.Denot) → Global → Ptr → Option X → Fml
owns_if R made alloc at x =
    elim x as (λ _. Fml) [
      | None ↦ ftrue
      | Some y ↦ box_owns (ghosts.dealloc_token alloc) R at (made y)
    ]
