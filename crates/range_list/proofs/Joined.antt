-- Two boundaries put in the place of others, and what is left in the way removed.
use Rattle.std.proofs.Common.{◌≡◌, ap, ◌∙◌, ℕ, ◌+◌, ◌≤◌, Option, List, ◌++◌, length, take, drop, arith}
use Rattle.std.specs.List.{remove_range}
use Rattle.std.specs.Option.{option_to_list}
use Rattle.range_collections.specs.Splicing.{spliced}
use Rattle.range_collections.proofs.Splices.{spliced-twice, remove_range-spliced}
use Rattle.range_list.specs.declared.chunk.Chunk.{Chunk}
use Rattle.range_list.specs.declared.place.Place.{Place}
use Rattle.range_list.specs.Chunks.{flat}
use Rattle.range_list.specs.Places.{place_in, IsPlace, HasPlacesOf}
use Rattle.range_list.proofs.InOrder.{place-within}

module _ {T : Type 0} where
  splices-joined : (xs ys zs : List T) (n m k to : ℕ) (start end : Option T) → m ≡ n + length (option_to_list start) → k ≡ m + length (option_to_list end) → k ≤ to → to ≤ length xs →
      ys ≡ take n xs ++ (option_to_list start ++ drop m xs) → zs ≡ take m ys ++ (option_to_list end ++ drop k ys) →
      remove_range zs k to ≡ spliced xs n to start end
  splices-joined xs ys zs n m k to start end em ek le within ey ez =
      ap (λ ws. remove_range ws k to) (ez ∙ spliced-twice xs ys n m k start end (omega arith) em ek ey)
      ∙ remove_range-spliced xs n to k start end (omega arith) (omega arith) le

module _ {T M : Type 0} where
  -- the chunks as they were, after the start is put, and after the end is
  module _ (xs ys zs : List (Chunk T M)) (from mid after to : Place) (start end : Option T) (there : IsPlace xs to)
      (first : HasPlacesOf xs ys) (second : HasPlacesOf ys zs)
      (room : place_in xs from + length (option_to_list start) + length (option_to_list end) ≤ place_in xs to)
      (em : place_in ys mid ≡ place_in xs from + length (option_to_list start)) where
    pub place-kept : place_in zs to ≡ place_in xs to
    place-kept = (second to (first to there).0).1 ∙ (first to there).1

    pub room-mid : place_in ys mid + length (option_to_list end) ≤ length (flat ys)
    room-mid = let e = first to there in omega (arith, room, em, e.1, place-within ys to e.0)

    pub joined : (rest : List T) → place_in zs after ≡ place_in ys mid + length (option_to_list end) →
        flat ys ≡ take (place_in xs from) (flat xs) ++ (option_to_list start ++ drop (place_in xs from + length (option_to_list start)) (flat xs)) →
        flat zs ≡ take (place_in ys mid) (flat ys) ++ (option_to_list end ++ drop (place_in ys mid + length (option_to_list end)) (flat ys)) →
        rest ≡ remove_range (flat zs) (place_in zs after) (place_in zs to) →
        rest ≡ spliced (flat xs) (place_in xs from) (place_in xs to) start end
    joined rest ea ey ez er =
        er ∙ ap (λ n. remove_range (flat zs) (place_in zs after) n) place-kept
        ∙ splices-joined (flat xs) (flat ys) (flat zs) (place_in xs from) (place_in ys mid) (place_in zs after) (place_in xs to) start end em ea
        (omega (arith, room, em, ea)) (place-within xs to there)
        (ey ∙ ap (λ n. take (place_in xs from) (flat xs) ++ (option_to_list start ++ drop n (flat xs))) (omega (arith, em)))
        (ez ∙ ap (λ n. take (place_in ys mid) (flat ys) ++ (option_to_list end ++ drop n (flat ys))) (omega (arith, ea)))
