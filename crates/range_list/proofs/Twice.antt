-- Two items put in the place of one, one after the other.
use Rattle.std.proofs.Common.{◌≡◌, ap, ◌∙◌, refl, ℕ, zero, suc, ◌+◌, ◌-◌, ◌≤◌, ◌<◌, Option, Some, None, List, [], ◌∷◌, ◌++◌, length, take, drop, set, get_or, arith}
use Rattle.std.proofs.lemmas.List.{length-append, length-drop, length-take-le, take-set-le, drop-set}
use Rattle.std.specs.Option.{option_to_list}
use Rattle.range_collections.specs.Splicing.{spliced}

module _ {T : Type 0} where
  puts : (xs : List T) (n : ℕ) (a b : T) → n < length xs →
      take (suc n) (take n xs ++ (a ∷ drop n xs)) ++ (b ∷ drop (suc (suc n)) (take n xs ++ (a ∷ drop n xs))) ≡ take n xs ++ (a ∷ b ∷ drop (suc n) xs)
  puts [] n a b within = absurd (omega arith)
  puts (x ∷ xs) zero a b within = refl
  puts (x ∷ xs) (suc n) a b within = ap (λ ys. x ∷ ys) (puts xs n a b (omega arith))

  -- the first put before an item, and the second in its place
  pub spliced-two : (xs ys zs : List T) (n m to : ℕ) (a b : T) → n < length xs → to ≡ n + 1 → m ≡ n + 1 →
      ys ≡ take n xs ++ ((a ∷ option_to_list None) ++ drop n xs) →
      zs ≡ take m ys ++ (option_to_list (Some b) ++ drop (m + length (option_to_list (Some b))) ys) →
      zs ≡ spliced xs n to (Some a) (Some b)
  spliced-two xs ys zs n m to a b within et em ey ez =
      let one : m ≡ suc n = omega (arith, em) in
      let two : m + 1 ≡ suc (suc n) = omega (arith, em) in
      let end : suc n ≡ to = omega (arith, et) in
      ez
      ∙ ap (λ k. take k ys ++ (b ∷ drop (m + 1) ys)) one
      ∙ ap (λ k. take (suc n) ys ++ (b ∷ drop k ys)) two
      ∙ ap (λ ws. take (suc n) ws ++ (b ∷ drop (suc (suc n)) ws)) ey
      ∙ puts xs n a b within
      ∙ ap (λ k. take n xs ++ (a ∷ b ∷ drop k xs)) end

  pub length-put : (xs ys : List T) (n : ℕ) (a : T) → n ≤ length xs → ys ≡ take n xs ++ ((a ∷ option_to_list None) ++ drop n xs) → length ys ≡ length xs + 1
  length-put xs ys n a within e = omega (arith, within, ap length e, length-append (take n xs) (a ∷ drop n xs), length-take-le n xs within, length-drop n xs)

  -- an item replaced, and what stands between a place and it by what is put
  pub kept-replaced : (xs ys zs : List T) (n m : ℕ) (start : Option T) (v : T) → n ≤ m → m < length xs → ys ≡ set xs m v → zs ≡ spliced ys n m start None → zs ≡ spliced xs n (m + 1) start (Some v)
  kept-replaced xs ys zs n m start v le within ey ez =
      ez ∙ ap (λ ws. spliced ws n m start None) ey
      ∙ ap (λ ws. ws ++ (option_to_list start ++ drop m (set xs m v))) (take-set-le n xs m v le)
      ∙ ap (λ ws. take n xs ++ (option_to_list start ++ ws)) (drop-set xs m v within)

  sets : (xs : List T) (n : ℕ) (a v : T) → n < length xs → set (take n xs ++ (a ∷ drop n xs)) (suc n) v ≡ take n xs ++ (a ∷ v ∷ drop (suc n) xs)
  sets [] n a v within = absurd (omega arith)
  sets (x ∷ xs) zero a v within = refl
  sets (x ∷ xs) (suc n) a v within = ap (λ ys. x ∷ ys) (sets xs n a v (omega arith))

  reads : (xs : List T) (n : ℕ) (a d : T) → n < length xs → get_or (take n xs ++ (a ∷ drop n xs)) (suc n) d ≡ get_or xs n d
  reads [] n a d within = absurd (omega arith)
  reads (x ∷ xs) zero a d within = refl
  reads (x ∷ xs) (suc n) a d within = reads xs n a d (omega arith)

  -- an item put before another, which is replaced by what f makes of it
  pub kept-inserted : (f : T → T) (xs ys zs : List T) (n m : ℕ) (a d : T) → n < length xs → m ≡ n + 1 → ys ≡ take n xs ++ ((a ∷ option_to_list None) ++ drop n xs) →
      zs ≡ set ys m (f (get_or ys m d)) → zs ≡ spliced xs n (n + 1) (Some a) (Some (f (get_or xs n d)))
  kept-inserted f xs ys zs n m a d within em ey ez =
      let one : m ≡ suc n = omega (arith, em) in
      let two : suc n ≡ n + 1 = omega arith in
      ez
      ∙ ap (λ k. set ys k (f (get_or ys k d))) one
      ∙ ap (λ ws. set ws (suc n) (f (get_or ws (suc n) d))) ey
      ∙ ap (λ v. set (take n xs ++ (a ∷ drop n xs)) (suc n) (f v)) (reads xs n a d within)
      ∙ sets xs n a (f (get_or xs n d)) within
      ∙ ap (λ k. take n xs ++ (a ∷ f (get_or xs n d) ∷ drop k xs)) two

  -- up to the place after the last item
  pub at-last : (f : T → T) (xs zs : List T) (n last to : ℕ) (start : Option T) → last + 1 ≡ to →
      ((d : T) → zs ≡ spliced xs n (last + 1) start (Some (f (get_or xs last d)))) → (d : T) → zs ≡ spliced xs n to start (Some (f (get_or xs (to - 1) d)))
  at-last f xs zs n last to start e h d =
      let before : last ≡ to - 1 = omega (arith, e) in
      h d ∙ ap (λ k. spliced xs n k start (Some (f (get_or xs last d)))) e ∙ ap (λ k. spliced xs n to start (Some (f (get_or xs k d)))) before
