-- Items that move within a list, down or up, a hole that is opened in it, and a list that is written
-- back.
use Rattle.std.proofs.Common.{◌≡◌, ℕ, ◌+◌, ◌-◌, ◌<◌, ◌≤◌, List, [], ◌∷◌, ◌++◌, length, take, drop, get_or, set, sym, ap, ◌∙◌, arith, append_assoc}
use Rattle.std.specs.List.{swap, refill}
use Rattle.std.proofs.lemmas.List.{take_at, take-append-drop, drop-append-le, take-set, take-set-le, take-take, take_more_set, drop-set, drop-set-lt, length-set, length-take-le, length-drop, take_more, drop_more, get_or-drop, get_or-take, take-append-le, drop-take, drop-drop, drop_at}
use Rattle.std.proofs.lemmas.List.Edits.{swap_is}
use Rattle.std.proofs.lemmas.Slice.{take-put_mid_below}
use Rattle.std.proofs.Math.Seq.{drop-length, take-add, take-append-add, drop-append-add}
use borrow.Rule.Slice.PartMut.{put_mid, post_of, same_len_mid}

-- a list written whole over another of its length
pub refill_all : {K : Type 0} (xs ys : List K) → length ys ≡ length xs → refill (length xs) xs ys ≡ ys
refill_all xs ys e = take_at ys (drop (length ys) xs) (length xs) e

module _ {K : Type 0} where
  -- what is after two places that are exchanged, and what is up to the first
  take-swap : (l : List K) (p q : ℕ) (d : K) → p < q → q < length l → take (p + 1) (swap l p q) ≡ take p l ++ get_or l q d ∷ []
  take-swap l p q d below within =
      let first : p + 1 ≤ q = omega arith in
      let p_in : p < length l = omega arith in
      ap (take (p + 1)) (sym (swap_is l p q d p_in within))
      ∙ take-set-le (p + 1) (set l p (get_or l q d)) q (get_or l p d) first
      ∙ take_more_set l p (get_or l q d) p_in

  drop-swap : (l : List K) (p q : ℕ) (d : K) → p < q → q < length l → drop (q + 1) (swap l p q) ≡ drop (q + 1) l
  drop-swap l p q d below within =
      let p_in : p < length l = omega arith in
      ap (drop (q + 1)) (sym (swap_is l p q d p_in within))
      ∙ drop-set-lt (q + 1) (set l p (get_or l q d)) q (get_or l p d) (omega arith)
      ∙ drop-set-lt (q + 1) l p (get_or l q d) (omega arith)

  -- where nothing has to move
  pub take-in_place : (l : List K) (to from n : ℕ) → to ≡ from → take (to + n) l ≡ take to l ++ take n (drop from l)
  take-in_place l to from n same = take-add to n l ∙ ap (λ k. take to l ++ take n (drop k l)) same

  -- the part of a list from a place on begins with the item there
  pub drop-begins : (l old : List K) (q : ℕ) (d : K) → q < length l → q < length old → drop q l ≡ drop q old → (get_or l q d ≡ get_or old q d) × (drop (q + 1) l ≡ drop (q + 1) old)
  drop-begins l old q d within within_old same =
      let whole : get_or l q d ∷ drop (q + 1) l ≡ get_or old q d ∷ drop (q + 1) old = sym (drop_more l q d within) ∙ same ∙ drop_more old q d within_old in
      (cc, cc)

  -- one item more moved down
  pub move_down-more : (old l : List K) (to from i : ℕ) → to < from → from + i < length old → length l ≡ length old
      → take (to + i) l ≡ take to old ++ take i (drop from old) → drop (from + i) l ≡ drop (from + i) old
      → (take (to + (i + 1)) (swap l (to + i) (from + i)) ≡ take to old ++ take (i + 1) (drop from old)) × (drop (from + (i + 1)) (swap l (to + i) (from + i)) ≡ drop (from + (i + 1)) old)
  move_down-more [] l to from i below within same front after = absurd (omega arith)
  move_down-more (d ∷ rest) l to from i below within same front after =
      let old : List K = d ∷ rest in
      let first : to + i < from + i = omega arith in
      let in_l : from + i < length l = omega arith in
      let step_to : to + (i + 1) ≡ (to + i) + 1 = omega arith in
      let step_from : from + (i + 1) ≡ (from + i) + 1 = omega arith in
      let begins = drop-begins l old (from + i) d in_l within after in
      let in_part : i < length (drop from old) = simp length-drop (omega arith) in (
        ap (λ k. take k (swap l (to + i) (from + i))) step_to
            ∙ take-swap l (to + i) (from + i) d first in_l
            ∙ ap (λ ys. ys ++ get_or l (from + i) d ∷ []) front
            ∙ append_assoc (take to old) (take i (drop from old)) (get_or l (from + i) d ∷ [])
            ∙ ap (λ x. take to old ++ (take i (drop from old) ++ x ∷ [])) (begins.0 ∙ sym (get_or-drop from old i d))
            ∙ ap (λ ys. take to old ++ ys) (sym (take_more (drop from old) i d in_part)),
        ap (λ k. drop k (swap l (to + i) (from + i))) step_from
            ∙ drop-swap l (to + i) (from + i) d first in_l
            ∙ begins.1
            ∙ ap (λ k. drop k old) (sym step_from),
      )

  -- before the first item is moved up
  pub moved_up-none : (old : List K) (by : ℕ) → by ≤ length old → drop (length old - by + by) old ≡ drop (length old - by) (take (length old - by) old)
  moved_up-none old by within =
      let few : ℕ = length old - by in
      ap (λ k. drop k old) (omega arith) ∙ drop-length old ∙ sym (drop-length (take few old)) ∙ ap (λ k. drop k (take few old)) (length-take-le few old (omega arith))

  -- one item more moved up, the last of those that are still to be moved
  pub move_up-more : (old l : List K) (by i j : ℕ) → 0 < by → j + 1 ≡ i → i + by ≤ length old → length l ≡ length old
      → take i l ≡ take i old → drop (i + by) l ≡ drop i (take (length old - by) old)
      → (take j (swap l j (j + by)) ≡ take j old) × (drop (j + by) (swap l j (j + by)) ≡ drop j (take (length old - by) old))
  move_up-more [] l by i j some next within same front after = absurd (omega arith)
  move_up-more (d ∷ rest) l by i j some next within same front after =
      let old : List K = d ∷ rest in
      let few : ℕ = length old - by in
      let moved : K = get_or l j d in
      let into : List K = set l j (get_or l (j + by) d) in
      let j_in : j < length l = omega arith in
      let to_in : j + by < length l = omega arith in
      let to_in_into : j + by < length into = omega (arith, length-set l j (get_or l (j + by) d)) in
      let short : few ≤ length old = omega arith in
      let is : set into (j + by) moved ≡ swap l j (j + by) = swap_is l j (j + by) d j_in to_in in
      let own : moved ≡ get_or (take few old) j d =
      sym (get_or-take i l j d (omega arith)) ∙ ap (λ ys. get_or ys j d) front ∙ get_or-take i old j d (omega arith) ∙ sym (get_or-take few old j d (omega arith)) in (
        ap (take j) (sym is)
            ∙ take-set-le j into (j + by) moved (omega arith)
            ∙ take-set l j (get_or l (j + by) d)
            ∙ sym (take-take j i l (omega arith))
            ∙ ap (take j) front
            ∙ take-take j i old (omega arith),
        ap (drop (j + by)) (sym is)
            ∙ drop-set into (j + by) moved to_in_into
            ∙ ap (λ ys. moved ∷ ys) (drop-set-lt (j + by + 1) l j (get_or l (j + by) d) (omega arith) ∙ ap (λ k. drop k l) (omega arith) ∙ after ∙ ap (λ k. drop k (take few old)) (sym next))
            ∙ ap (λ x. x ∷ drop (j + 1) (take few old)) own
            ∙ sym (drop_more (take few old) j d (omega (arith, length-take-le few old short))),
      )

  -- a block of items more moved up, the last of those that are still to be moved: it has changed
  -- places with the last items of the part written back
  pub move_up-block : (old l ys : List K) (by i j n : ℕ) → j + n ≡ i → n ≤ by → i + by ≤ length old → length l ≡ length old
      → take i l ≡ take i old → drop (i + by) l ≡ drop i (take (length old - by) old)
      → length ys ≡ length (take (j + by + n - j) (drop j l))
      → drop (length (take (j + by + n - j) (drop j l)) - n) ys ≡ take n (take (j + by + n - j) (drop j l))
      → (take j (put_mid j (j + by + n - j) l ys) ≡ take j old) × (drop (j + by) (put_mid j (j + by + n - j) l ys) ≡ drop j (take (length old - by) old))
      × (length (put_mid j (j + by + n - j) l ys) ≡ length old)
  move_up-block old l ys by i j n next short within same front after same_len last =
      let k : ℕ = j + by + n - j in
      let few : ℕ = length old - by in
      let post : List K = post_of j k l in
      let part : List K = take k (drop j l) in
      let in_l : j ≤ length l = omega arith in
      let part_len : length part ≡ by + n = length-take-le k (drop j l) (simp length-drop (omega arith)) ∙ omega arith in
      let ys_len : length ys ≡ by + n = same_len ∙ part_len in
      let before : length (take j l) ≡ j = length-take-le j l in_l in
      let moved : drop by ys ≡ take n (drop j (take few old)) =
      ap (λ m. drop m ys) (omega (arith, part_len)) ∙ last ∙ take-take n k (drop j l) (omega arith) ∙ sym (drop-take j n l)
      ∙ ap (drop j) (ap (λ m. take m l) next ∙ front ∙ sym (take-take i few old (omega arith)))
      ∙ ap (λ m. drop j (take m (take few old))) (sym next) ∙ drop-take j n (take few old) in
      let after_k : drop k (drop j l) ≡ drop n (drop j (take few old)) =
      drop-drop k j l ∙ ap (λ m. drop m l) (omega arith) ∙ after ∙ ap (λ m. drop m (take few old)) (sym next) ∙ sym (drop-drop n j (take few old)) in (
        take-put_mid_below j k l ys j (omega arith) in_l ∙ sym (take-take j i l (omega arith)) ∙ ap (take j) front ∙ take-take j i old (omega arith),
        ap (λ m. drop (m + by) (take j l ++ (ys ++ post))) (sym before)
            ∙ drop-append-add (take j l) (ys ++ post) by
            ∙ drop-append-le by ys post (omega (arith, ys_len))
            ∙ ap (λ zs. zs ++ post) moved
            ∙ ap (λ zs. take n (drop j (take few old)) ++ zs) after_k
            ∙ take-append-drop n (drop j (take few old)),
        same_len_mid j k l ys same_len ∙ same,
      )

  -- what is after as many turned items as have come to the front
  pub drop-turned : (xs : List K) (at by : ℕ) → at + by ≤ length xs
      → drop (at + by) (take at xs ++ (drop (length (drop at xs) - by) (drop at xs) ++ take (length (drop at xs) - by) (drop at xs))) ≡ drop at (take (length xs - by) xs)
  drop-turned xs at by within =
      let m : List K = drop at xs in
      let rest : ℕ = length m - by in
      let len : length m ≡ length xs - at = length-drop at xs in
      let before : length (take at xs) ≡ at = length-take-le at xs (omega arith) in
      let turned : length (drop rest m) ≡ by = length-drop rest m ∙ omega (arith, len) in
      let all : at + rest ≡ length xs - by = omega (arith, len) in
      ap (λ k. drop (k + by) (take at xs ++ (drop rest m ++ take rest m))) (sym before)
      ∙ drop-append-add (take at xs) (drop rest m ++ take rest m) by
      ∙ drop_at (drop rest m) (take rest m) by turned
      ∙ sym (drop-take at rest xs)
      ∙ ap (λ k. drop at (take k xs)) all

  -- a part of a list written back, whose last items have come to its front
  pub length-part : (xs : List K) (to from n : ℕ) → to ≤ from → from + n ≤ length xs → length (take (from + n - to) (drop to xs)) ≡ from + n - to
  length-part xs to from n ordered within = length-take-le (from + n - to) (drop to xs) (simp length-drop (omega arith))

  pub take-written : (xs ys : List K) (to from n : ℕ) → to ≤ from → from + n ≤ length xs
      → length ys ≡ length (take (from + n - to) (drop to xs))
      → take n ys ≡ drop (length (take (from + n - to) (drop to xs)) - n) (take (from + n - to) (drop to xs))
      → take (to + n) (put_mid to (from + n - to) xs ys) ≡ take to xs ++ take n (drop from xs)
  take-written xs ys to from n ordered within same_len front =
      let post : List K = post_of to (from + n - to) xs in
      let gap : ℕ = from - to in
      let all : from + n - to ≡ gap + n = omega arith in
      let whole = length-part xs to from n ordered within in
      let before : length (take to xs) ≡ to = length-take-le to xs (omega arith) in
      ap (λ k. take (k + n) (take to xs ++ (ys ++ post))) (sym before)
      ∙ take-append-add (take to xs) (ys ++ post) n
      ∙ ap (λ zs. take to xs ++ zs)
      (
      take-append-le n ys post (rw same_len (rw whole (omega arith)))
      ∙ front
      ∙ ap (λ k. drop (k - n) (take (from + n - to) (drop to xs))) whole
      ∙ ap (λ k. drop k (take (from + n - to) (drop to xs))) (omega arith)
      ∙ ap (λ k. drop gap (take k (drop to xs))) all
      ∙ drop-take gap n (drop to xs)
      ∙ ap (take n) (drop-drop gap to xs ∙ ap (λ k. drop k xs) (omega arith))
      )
