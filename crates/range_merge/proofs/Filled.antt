-- A slice that is filled from its front, run by run.
use Rattle.std.proofs.Common.{◌≡◌, ℕ, ◌+◌, ◌-◌, ◌≤◌, Bool, true, false, Result, Ok, Err, IsOk, IfOk, List, [], ◌∷◌, ◌++◌, length, take, drop, map, refl, ap, sym, ◌∙◌, arith, append_assoc}
use Rattle.std.proofs.lemmas.List.{append-nil, length-append, length-map, length-drop, length-take-le, take_at, take_all, drop_all, take-append-drop, take-append-le, drop-append-le, map-append}
use Rattle.std.specs.List.{AllZip}
use borrow.Rule.Slice.PartMut.{put_mid, same_len_mid}
use Rattle.std.proofs.Math.Seq.{drop-append-add, drop-drop, drop-append_seam, take-append_seam}
use Rattle.range_merge.specs.Changes.{Taken, taken_item, taken_items, from_left}
use Rattle.range_merge.specs.Buffers.{IsFilled}

module _ {K : Type 0} where
  length-taken_items : (ts : List (Taken K)) → length (taken_items ts) ≡ length ts
  length-taken_items ts = length-map ts taken_item

  taken_items-first : (items : List K) → taken_items (map from_left items) ≡ items
  taken_items-first [] = refl
  taken_items-first (x ∷ items) = ap (λ xs. x ∷ xs) (taken_items-first items)

  -- a slice into which nothing was written
  pub IsFilled-none : (items : List K) → IsFilled (map from_left items) 0 items
  IsFilled-none items =
      let long : length (map from_left items) ≡ length items = length-map items from_left in
      let whole : take (length items) (map from_left items) ≡ map from_left items = take_all (length items) (map from_left items) (omega (arith, long)) in
      let none : drop (length items) (map from_left items) ≡ [] = drop_all (length items) (map from_left items) (omega (arith, long)) in
      record {
        counted = omega (arith, long);
        written = λ _. rw (whole, none) (sym (taken_items-first items));
      }

  -- a slice into which the next items were written
  pub IsFilled-more : (before ts : List (Taken K)) (given : ℕ) (more items new : List K) → taken_items ts ≡ more → length new ≡ length items
      → (given + length more ≤ length items → new ≡ take given items ++ (more ++ drop (given + length more) items))
      → IsFilled before given items → IsFilled (before ++ ts) (given + length more) new
  IsFilled-more before ts given more items new are same put filled =
      let n = length items in
      let many : length ts ≡ length more = sym (length-taken_items ts) ∙ ap length are in
      let front : take n (before ++ ts) ≡ take n before = take-append-le n before ts (omega (arith, filled.counted)) in
      let rest : drop n (before ++ ts) ≡ drop n before ++ ts = drop-append-le n before ts (omega (arith, filled.counted)) in
      let w : List K = taken_items (drop n before) in
      let f : List K = taken_items (take n before) in
      let long : length w ≡ given = length-taken_items (drop n before) ∙ length-drop n before ∙ omega (arith, filled.counted) in
      record {
        counted = omega (arith, length-append before ts, many, filled.counted, same);
        written = λ fits.
            let room : given + length more ≤ n = omega (arith, fits, same) in
            let was : items ≡ w ++ drop given f = filled.written (omega (arith, room)) in
            let kept : take given items ≡ w = ap (take given) was ∙ take_at w (drop given f) given long in
            let left : drop (given + length more) items ≡ drop (given + length more) f =
            ap (drop (given + length more)) was
            ∙ ap (λ k. drop (k + length more) (w ++ drop given f)) (sym long)
            ∙ drop-append-add w (drop given f) (length more)
            ∙ drop-drop (length more) given f in
            let both : taken_items (drop n before ++ ts) ≡ w ++ more = map-append taken_item (drop n before) ts ∙ ap (λ xs. w ++ xs) are in
            rw (same, front, rest, both)
            (put room ∙ ap (λ xs. xs ++ (more ++ drop (given + length more) items)) kept ∙ ap (λ xs. w ++ (more ++ xs)) left
            ∙ sym (append_assoc w more (drop (given + length more) f)));
      }

  same-items : (xs ys : List K) → AllZip (λ x y. y ≡ x) xs ys → xs ≡ ys
  same-items [] [] h = refl
  same-items [] (y ∷ ys) h = absurd h
  same-items (x ∷ xs) [] h = absurd h
  same-items (x ∷ xs) (y ∷ ys) h = ap (λ z. z ∷ xs) (sym h.0) ∙ ap (λ zs. y ∷ zs) (same-items xs ys h.1)

  -- a slice into whose end the next items were read, if it had room: what stood behind them stands there
  pub IsFilled-read : (given at k : ℕ) (items out : List K) → (given ≤ length items → at ≡ given) → at ≤ length items → k ≤ length out
      → length out ≡ length (take (length items - at) (drop at items)) → drop k out ≡ drop k (take (length items - at) (drop at items))
      → (before ts : List (Taken K)) → AllZip (λ x y. y ≡ x) (taken_items ts) (take k out)
      → IsFilled before given items → IsFilled (before ++ ts) (given + k) (put_mid at (length items - at) items out)
  IsFilled-read given at k items out is within fits long behind before ts copied filled =
      let n = length items - at in
      let many : length (take k out) ≡ k = length-take-le k out fits in
      let all : take n (drop at items) ≡ drop at items = take_all n (drop at items) (omega (arith, length-drop at items, within)) in
      let none : drop n (drop at items) ≡ [] = drop_all n (drop at items) (omega (arith, length-drop at items, within)) in
      let put : given + length (take k out) ≤ length items → put_mid at n items out ≡ take given items ++ (take k out ++ drop (given + length (take k out)) items) =
      λ room.
      let starts : at ≡ given = is (omega (arith, room)) in
      let rest : drop k out ≡ drop (given + length (take k out)) items =
      behind ∙ ap (drop k) all ∙ drop-drop k at items ∙ ap (λ m. drop m items) (omega (arith, starts, many)) in
      ap (λ ys. take at items ++ (out ++ ys)) none ∙ ap (λ ys. take at items ++ ys) (append-nil out)
      ∙ ap (λ m. take m items ++ out) starts ∙ ap (λ ys. take given items ++ ys) (sym (take-append-drop k out) ∙ ap (λ ys. take k out ++ ys) rest) in
      rw many at (IsFilled-more before ts given (take k out) items (put_mid at n items out) (same-items (taken_items ts) (take k out) copied) (same_len_mid at n items out long) put filled)

  -- a slice that had these items and was given those that were taken
  pub given-taken : (items new : List K) (ts : List (Taken K)) (given : ℕ) → length new ≡ length items → IsFilled (map from_left items ++ ts) given new → given ≡ length ts
  given-taken items new ts given same filled = omega (arith, filled.counted, same, length-append (map from_left items) ts, length-map items from_left)

  pub items-taken : (items new : List K) (ts : List (Taken K)) (given : ℕ) → length new ≡ length items → given ≤ length items → IsFilled (map from_left items ++ ts) given new
      → new ≡ taken_items ts ++ drop given items
  items-taken items new ts given same fits filled =
      let long : length (map from_left items) ≡ length new = length-map items from_left ∙ sym same in
      let rest : drop (length new) (map from_left items ++ ts) ≡ ts = ap (λ k. drop k (map from_left items ++ ts)) (sym long) ∙ drop-append_seam (map from_left items) ts in
      let front : taken_items (take (length new) (map from_left items ++ ts)) ≡ items =
      ap (λ k. taken_items (take k (map from_left items ++ ts))) (sym long) ∙ ap taken_items (take-append_seam (map from_left items) ts) ∙ taken_items-first items in
      filled.written (omega (arith, fits, same)) ∙ ap (λ xs. taken_items xs ++ drop given (taken_items (take (length new) (map from_left items ++ ts)))) rest
      ∙ ap (λ xs. taken_items ts ++ drop given xs) front

-- a merge that cannot be refused and never stops leaves the whole output, after what was there
pub whole-output_after : {K E : Type 0} (r : Result Bool E) (old new : List (Taken K) → Type 0) (first items : List (Taken K)) (X : Type 0) → IsOk r
    → IfOk r (λ more. more ≡ true → (before : List (Taken K)) → old before → new (before ++ items))
    → IfOk r (λ more. more ≡ false → (false ≡ true) × X) → old first → new (first ++ items)
whole-output_after (Ok true) old new first items X ok through stopped start = through refl first start
whole-output_after (Ok false) old new first items X ok through stopped start = cc ((stopped refl).0)
whole-output_after (Err e) old new first items X ok through stopped start = cc
