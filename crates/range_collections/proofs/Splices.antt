-- A list with the items between two places replaced.
use Rattle.std.proofs.Common.{◌≡◌, sym, ap, ◌∙◌, ℕ, ◌+◌, ◌-◌, ◌≤◌, ◌<◌, Option, List, [], ◌∷◌, ◌++◌, length, take, drop, set, arith, append_assoc}
use Rattle.std.specs.List.{remove_range}
use Rattle.std.specs.Option.{option_to_list}
use Rattle.std.proofs.lemmas.List.{take-append-drop, take_at, length-append, length-drop, length-take-le, take_more_set, drop-set-lt}
use Rattle.std.proofs.lemmas.Slice.{drop-append-drop}
use Rattle.range_collections.specs.Splicing.{spliced}

module _ {K : Type 0} where
  -- an item replaced, by what stands before it and after it
  pub set-parts : (xs : List K) (i : ℕ) (x : K) → i < length xs → set xs i x ≡ take i xs ++ (x ∷ drop (i + 1) xs)
  set-parts xs i x within =
      sym (take-append-drop (i + 1) (set xs i x))
      ∙ ap (λ ys. ys ++ drop (i + 1) (set xs i x)) (take_more_set xs i x within)
      ∙ ap (λ ys. (take i xs ++ x ∷ []) ++ ys) (drop-set-lt (i + 1) xs i x (omega arith))
      ∙ append_assoc (take i xs) (x ∷ []) (drop (i + 1) xs)

  -- what stands before the later items of a spliced list
  abbrev pub spliced_front : List K → ℕ → Option K → Option K → List K
  spliced_front xs from start end = take from xs ++ (option_to_list start ++ option_to_list end)

  pub length-spliced_front : (xs : List K) (from : ℕ) (start end : Option K) → from ≤ length xs →
      length (spliced_front xs from start end) ≡ from + length (option_to_list start) + length (option_to_list end)
  length-spliced_front xs from start end within =
      omega (
        arith,
        length-append (take from xs) (option_to_list start ++ option_to_list end),
        length-append (option_to_list start) (option_to_list end),
        length-take-le from xs within,
      )

  pub spliced-front : (xs : List K) (from to : ℕ) (start end : Option K) → spliced xs from to start end ≡ spliced_front xs from start end ++ drop to xs
  spliced-front xs from to start end =
      ap (λ ys. take from xs ++ ys) (sym (append_assoc (option_to_list start) (option_to_list end) (drop to xs)))
      ∙ sym (append_assoc (take from xs) (option_to_list start ++ option_to_list end) (drop to xs))

  -- the items that a splice leaves in the way, removed
  pub remove_range-spliced : (xs : List K) (from to after : ℕ) (start end : Option K) → from ≤ length xs →
      after ≡ from + length (option_to_list start) + length (option_to_list end) → after ≤ to →
      remove_range (spliced xs from after start end) after to ≡ spliced xs from to start end
  remove_range-spliced xs from to after start end within e more =
      let front : List K = spliced_front xs from start end in
      let n : length front ≡ after = length-spliced_front xs from start end within ∙ sym e in
      ap (λ ys. remove_range ys after to) (spliced-front xs from after start end)
      ∙ ap (λ ys. ys ++ drop to (front ++ drop after xs)) (take_at front (drop after xs) after n)
      ∙ ap (λ ys. front ++ ys) (drop-append-drop after xs front to more n)
      ∙ sym (spliced-front xs from to start end)

  -- one item put, and then another
  pub spliced-twice : (xs ys : List K) (from mid after : ℕ) (start end : Option K) → from + length (option_to_list start) ≤ length xs →
      mid ≡ from + length (option_to_list start) → after ≡ mid + length (option_to_list end) →
      ys ≡ take from xs ++ (option_to_list start ++ drop mid xs) →
      take mid ys ++ (option_to_list end ++ drop after ys) ≡ spliced xs from after start end
  spliced-twice xs ys from mid after start end within m b e =
      let front : List K = take from xs ++ option_to_list start in
      let n : length front ≡ mid = omega (arith, length-append (take from xs) (option_to_list start), length-take-le from xs (omega arith), m) in
      let whole : ys ≡ front ++ drop mid xs = e ∙ sym (append_assoc (take from xs) (option_to_list start) (drop mid xs)) in
      ap (λ zs. take mid zs ++ (option_to_list end ++ drop after zs)) whole
      ∙ ap (λ zs. zs ++ (option_to_list end ++ drop after (front ++ drop mid xs))) (take_at front (drop mid xs) mid n)
      ∙ ap (λ zs. front ++ (option_to_list end ++ zs)) (drop-append-drop mid xs front after (omega (arith, b)) n)
      ∙ append_assoc (take from xs) (option_to_list start) (option_to_list end ++ drop after xs)

  -- a list whose items are replaced one for one keeps its length
  pub length-spliced_same : (xs : List K) (from after : ℕ) (start end : Option K) → from ≤ length xs →
      after ≡ from + length (option_to_list start) + length (option_to_list end) → after ≤ length xs →
      length (spliced xs from after start end) ≡ length xs
  length-spliced_same xs from after start end within e more =
      omega (
        arith,
        ap length (spliced-front xs from after start end),
        length-append (spliced_front xs from start end) (drop after xs),
        length-spliced_front xs from start end within,
        length-drop after xs,
        e,
      )

  -- how many items there are then
  pub length-spliced : (xs : List K) (from to : ℕ) (start end : Option K) → from ≤ to → to ≤ length xs →
      length (spliced xs from to start end) + (to - from) ≡ length xs + (length (option_to_list start) + length (option_to_list end))
  length-spliced xs from to start end le within =
      omega (
        arith,
        length-append (take from xs) (option_to_list start ++ (option_to_list end ++ drop to xs)),
        length-append (option_to_list start) (option_to_list end ++ drop to xs),
        length-append (option_to_list end) (drop to xs),
        length-take-le from xs (omega (arith, le, within)),
        length-drop to xs,
      )
