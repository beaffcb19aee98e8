-- A chain that is collected into any collection of items.
use Rattle.std.proofs.Common.{◌≡◌, List, Option, Result, Ok, Err, sym, ◌∙◌, IfOk}
use Rattle.std.specs.Iterator.{DrainsIf}
use Rattle.std.proofs.lemmas.Iterator.{YieldsList, items_from_drains}
use mathlib.Core.List.{map-id}

-- the collection holds all items of the chain
pub items_from_collected : {S A C E : Type 0} {steps : S → Option A → S → Type 0} {s : S} {all : List A} (items : C → List A) (r : Result C E)
    → IfOk r (λ v. (xs : List A) × DrainsIf steps (Unit {0}) s xs × (items v ≡ xs)) → YieldsList steps (λ x. x) s all → IfOk r (λ v. items v ≡ all)
items_from_collected items (Ok v) h y = h.2 ∙ sym (map-id h.0) ∙ items_from_drains h.0 h.1 y
items_from_collected items (Err e) h y = tt
