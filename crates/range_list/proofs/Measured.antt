-- How many items lie between two places.
use Rattle.std.proofs.Common.{◌≡◌, refl, ap, ℕ, zero, suc, ◌+◌, ◌-◌, ◌≤◌, List, [], ◌∷◌, length, take, drop, arith}
use Rattle.std.proofs.lemmas.List.{length-append}
use Rattle.range_list.specs.declared.chunk.Chunk.{Chunk}
use Rattle.range_list.specs.Chunks.{items_of, flat, start_of}

module _ {T M : Type 0} where
  take-nil : (n : ℕ) → take {A = Chunk T M} n [] ≡ []
  take-nil zero = refl
  take-nil (suc n) = refl

  pub length-chunks_between : (xs : List (Chunk T M)) (p q : ℕ) → p ≤ q → start_of xs p + length (flat (take (q - p) (drop p xs))) ≡ start_of xs q
  length-chunks_between xs zero q le =
      let e : q - 0 ≡ q = omega arith in
      omega (arith, ap (λ n. length (flat (take n xs))) e)
  length-chunks_between xs (suc p) zero le = absurd (omega (arith, le))
  length-chunks_between [] (suc p) (suc q) le = omega (arith, ap (λ (ws : List (Chunk T M)). length (flat ws)) (take-nil (suc q - suc p)))
  length-chunks_between (z ∷ zs) (suc p) (suc q) le =
      let e : suc q - suc p ≡ q - p = omega arith in
      rw e (
      omega (
        arith,
        length-append (items_of z) (flat (take p zs)),
        length-append (items_of z) (flat (take q zs)),
        length-chunks_between zs p q (omega (arith, le)),
      )
      )
