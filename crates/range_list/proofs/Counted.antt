-- How long a list in chunks is after a change.
use Rattle.std.proofs.Common.{◌≡◌, sym, ap, ◌∙◌, ℕ, ◌+◌, ◌-◌, ◌≤◌, ◌<◌, List, [], ◌∷◌, length, drop, set, get_or, Option, Some, Result, Ok, Err, OnErr, arith}
use Rattle.std.proofs.lemmas.List.{length-append, length-drop, length-set}
use Rattle.std.specs.Option.{option_to_list}
use Rattle.range_collections.specs.Splicing.{spliced}
use Rattle.range_collections.proofs.Splices.{spliced_front, spliced-front, length-spliced_front}
use Rattle.range_list.specs.declared.chunk.Chunk.{Chunk}
use Rattle.range_list.specs.Chunks.{flat}

module _ {T : Type 0} where
  pub length-spliced : (xs : List T) (from to : ℕ) (start end : Option T) → from ≤ to → to ≤ length xs →
      length (spliced xs from to start end) ≡ length xs - (to - from) + (length (option_to_list start) + length (option_to_list end))
  length-spliced xs from to start end ordered within =
      omega (
        arith,
        ap length (spliced-front xs from to start end),
        length-append (spliced_front xs from start end) (drop to xs),
        length-spliced_front xs from start end (omega (arith, ordered, within)),
        length-drop to xs,
        ordered,
        within,
      )

module _ {T M : Type 0} where
  -- an item replaced by what f makes of it
  pub length-keyed : (f : T → T) (xs : List (Chunk T M)) (ys : List T) (n : ℕ) → n < length (flat xs) → ((d : T) → ys ≡ set (flat xs) n (f (get_or (flat xs) n d))) → length (flat xs) ≡ length ys
  length-keyed f [] ys n within e = absurd (omega (arith, within))
  length-keyed f (x ∷ xs) ys n within e = sym (ap length (e x.first) ∙ length-set (flat (x ∷ xs)) n (f (get_or (flat (x ∷ xs)) n x.first)))

  -- items replaced by the start and by what f makes of the last of them
  pub length-spliced_last : (f : T → T) (xs : List (Chunk T M)) (ys : List T) (from to : ℕ) (start : Option T) → from < to → to ≤ length (flat xs) →
      ((d : T) → ys ≡ spliced (flat xs) from to start (Some (f (get_or (flat xs) (to - 1) d)))) → length ys ≡ length (flat xs) - (to - from) + (length (option_to_list start) + 1)
  length-spliced_last f [] ys from to start some within e = absurd (omega (arith, some, within))
  length-spliced_last f (x ∷ xs) ys from to start some within e =
      ap length (e x.first) ∙ length-spliced (flat (x ∷ xs)) from to start (Some (f (get_or (flat (x ∷ xs)) (to - 1) x.first))) (omega (arith, some)) within

-- what holds anyway holds on an error
pub kept-on_err : {T E P : Type 0} (result : Result T E) → P → OnErr result P
kept-on_err (Ok x) p = tt
kept-on_err (Err e) p = p
