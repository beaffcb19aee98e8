-- Lists with items between two places replaced, by what stands before and behind.
use Rattle.std.proofs.Common.{◌≡◌, ℕ, ◌+◌, ◌-◌, ◌≤◌, Option, List, ◌++◌, length, take, drop, arith}
use Rattle.std.specs.Option.{option_to_list}
use Rattle.std.proofs.lemmas.List.{length-append, length-drop, length-take-le}
use Rattle.range_collections.specs.Splicing.{spliced}

module _ {X : Type 0} where
  pub length-spliced : (xs : List X) (from to : ℕ) (first second : Option X) → from ≤ to → to ≤ length xs →
      length (spliced xs from to first second) + (to - from) ≡ length xs + length (option_to_list first) + length (option_to_list second)
  length-spliced xs from to first second ordered within =
      omega (
        arith,
        ordered,
        within,
        length-append (take from xs) (option_to_list first ++ (option_to_list second ++ drop to xs)),
        length-append (option_to_list first) (option_to_list second ++ drop to xs),
        length-append (option_to_list second) (drop to xs),
        length-take-le from xs (omega (arith, ordered, within)),
        length-drop to xs,
      )
