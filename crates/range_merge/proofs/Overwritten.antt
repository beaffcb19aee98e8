-- A slice that is written over from its front.
use Rattle.std.proofs.Common.{◌≡◌, ℕ, ◌+◌, ◌≤◌, List, [], ◌∷◌, ◌++◌, length, take, drop, sym, ap, ◌∙◌}
use Rattle.std.specs.List.{AllZip}
use Rattle.std.proofs.lemmas.List.{append-nil, length-take-le, take-append-le}
use Rattle.std.proofs.Math.Seq.{take-append-add}
use borrow.Rule.Slice.PartMut.{put_mid}
use Rattle.range_merge.specs.Changes.{Taken, taken_item, taken_items}
use Rattle.range_merge.specs.Copies.{AreCopies}
use Rattle.range_merge.proofs.CopiesLemmas.{AllZip-append, AreCopies-from_items}

module _ {K : Type 0} (alike : K → K → Type 0) where
  -- what comes first after the next items were written behind it
  take-written : (given k n : ℕ) (items out : List K) → given ≤ length items → k ≤ length out
      → take (given + k) (put_mid given n items out) ≡ take given items ++ take k out
  take-written given k n items out within fits =
      let rest : List K = drop n (drop given items) in
      let long : length (take given items) ≡ given = length-take-le given items within in
      ap (λ m. take (m + k) (put_mid given n items out)) (sym long) ∙ take-append-add (take given items) (out ++ rest) k
      ∙ ap (λ ys. take given items ++ ys) (take-append-le k out rest fits)

  -- copies of the next items behind those of the first ones
  pub AreCopies-written : (given k n : ℕ) (items out : List K) → given ≤ length items → k ≤ length out
      → (before ts : List (Taken K)) → AllZip alike (taken_items ts) (take k out) → AreCopies alike before (take given items)
      → AreCopies alike (before ++ ts) (take (given + k) (put_mid given n items out))
  AreCopies-written given k n items out within fits before ts copied so_far =
      rw (take-written given k n items out within fits)
      (AllZip-append (λ t x. alike (taken_item t) x) before (take given items) ts (take k out) so_far (AreCopies-from_items alike ts (take k out) copied))

  -- nothing more was written
  pub AreCopies-no_more : (items : List K) (before ts : List (Taken K)) → taken_items ts ≡ [] → AreCopies alike before items → AreCopies alike (before ++ ts) items
  AreCopies-no_more items before [] none so_far = rw (append-nil before) so_far
  AreCopies-no_more items before (t ∷ ts) none so_far = cc
