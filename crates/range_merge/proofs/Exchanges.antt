-- Items that are exchanged for others, and a part of a list that is written over.
use Rattle.std.proofs.Common.{◌≡◌, ℕ, ◌+◌, ◌-◌, ◌<◌, ◌≤◌, List, [], ◌∷◌, ◌++◌, length, take, drop, get_or, set, sym, ap, ◌∙◌, arith}
use Rattle.std.proofs.lemmas.List.{take_more_set, drop-set-lt, length-drop, take_more, get_or-drop, drop-drop}
use Rattle.std.proofs.lemmas.Slice.{drop-put_mid}
use Rattle.range_merge.proofs.Moves.{drop-begins, length-part}
use borrow.Rule.Slice.PartMut.{put_mid}

module _ {K : Type 0} where
  -- what is equal from a place on is equal from a later place on
  pub drop-further : (m n : ℕ) (xs ys : List K) → m ≤ n → drop m xs ≡ drop m ys → drop n xs ≡ drop n ys
  drop-further m n xs ys later same =
      sym (drop-drop (n - m) m xs ∙ ap (λ k. drop k xs) (omega arith)) ∙ ap (drop (n - m)) same ∙ drop-drop (n - m) m ys ∙ ap (λ k. drop k ys) (omega arith)

  -- one item more exchanged
  pub exchange-more : (xs items others : List K) (at i : ℕ) (d w : K) → at + i < length xs → i < length others → length items ≡ length xs
      → take i others ≡ take i (drop at xs) → drop (at + i) items ≡ drop (at + i) xs
      → (take (i + 1) (set others i (get_or items (at + i) d)) ≡ take (i + 1) (drop at xs)) × (drop (at + (i + 1)) (set items (at + i) w) ≡ drop (at + (i + 1)) xs)
  exchange-more xs items others at i d w within among as_long front after =
      let begins = drop-begins items xs (at + i) d (omega arith) within after in
      let in_part : i < length (drop at xs) = simp length-drop (omega arith) in
      let step : at + (i + 1) ≡ (at + i) + 1 = omega arith in (
        take_more_set others i (get_or items (at + i) d) among
            ∙ ap (λ ys. ys ++ get_or items (at + i) d ∷ []) front
            ∙ ap (λ x. take i (drop at xs) ++ x ∷ []) (begins.0 ∙ sym (get_or-drop at xs i d))
            ∙ sym (take_more (drop at xs) i d in_part),
        ap (λ k. drop k (set items (at + i) w)) step
            ∙ drop-set-lt (at + i + 1) items (at + i) w (omega arith)
            ∙ begins.1
            ∙ ap (λ k. drop k xs) (sym step),
      )

  -- a part of a list written over by as many items
  module _ (xs ys : List K) (at n : ℕ) (within : at + n ≤ length xs) (as_long : length ys ≡ length (take (at + n - at) (drop at xs))) where
    length-written : length ys ≡ n
    length-written = as_long ∙ length-part xs at at n (omega arith) within ∙ omega arith

    pub drop-after : drop (at + n) (put_mid at (at + n - at) xs ys) ≡ drop (at + n) xs
    drop-after = drop-put_mid at (at + n - at) xs ys (at + n) (omega arith) (omega arith) (length-written ∙ omega arith)
