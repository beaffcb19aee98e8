-- Copies at the end of a list: item by item, and run by run.
use Rattle.std.proofs.Common.{◌≡◌, ℕ, ◌+◌, ◌<◌, ◌≤◌, Bool, true, false, List, [], ◌∷◌, ◌++◌, length, take, drop, map, get_or, refl, sym, ap, ◌∙◌, arith, append_assoc}
use Rattle.std.specs.List.{AllZip}
use Rattle.std.proofs.lemmas.List.{append-nil, length-append, length-map, drop-append-le, drop_all, drop_at, take-append-drop, take-append-le, take_all, take_at}
use Rattle.std.proofs.lemmas.List.Elements.{all_zip_more, length_all_zip}
use Rattle.range_merge.specs.Changes.{Taken, taken_item, taken_items, taken_left, taken_right, from_left, from_right}
use Rattle.range_merge.specs.Copies.{items_if, IsAppended, AreCopies, AreKeptThenCopies}

pub AllZip-append : {A B : Type 0} (R : A → B → Type 0) (xs : List A) (ys : List B) (us : List A) (vs : List B) → AllZip R xs ys → AllZip R us vs → AllZip R (xs ++ us) (ys ++ vs)
AllZip-append R [] [] us vs h k = k
AllZip-append R [] (y ∷ ys) us vs h k = absurd h
AllZip-append R (x ∷ xs) [] us vs h k = absurd h
AllZip-append R (x ∷ xs) (y ∷ ys) us vs h k = (h.0, AllZip-append R xs ys us vs h.1 k)

pub AreCopies-from_items : {K : Type 0} (alike : K → K → Type 0) (ts : List (Taken K)) (xs : List K) → AllZip alike (taken_items ts) xs → AreCopies alike ts xs
AreCopies-from_items alike [] [] h = h
AreCopies-from_items alike [] (x ∷ xs) h = h
AreCopies-from_items alike (t ∷ ts) [] h = h
AreCopies-from_items alike (t ∷ ts) (x ∷ xs) h = (h.0, AreCopies-from_items alike ts xs h.1)

taken_items-map_left : {K : Type 0} (xs : List K) → taken_items (map from_left xs) ≡ xs
taken_items-map_left [] = refl
taken_items-map_left (x ∷ xs) = ap (λ ys. x ∷ ys) (taken_items-map_left xs)

taken_items-map_right : {K : Type 0} (xs : List K) → taken_items (map from_right xs) ≡ xs
taken_items-map_right [] = refl
taken_items-map_right (x ∷ xs) = ap (λ ys. x ∷ ys) (taken_items-map_right xs)

module _ {K : Type 0} (alike : K → K → Type 0) where
  -- one copy more
  pub IsAppended-more : (xs old new : List K) (i : ℕ) (x y : K) → i < length xs → x ≡ get_or xs i x → alike x y
      → IsAppended alike (take i xs) old new → IsAppended alike (take (i + 1) xs) old (new ++ y ∷ [])
  IsAppended-more xs old new i x y within is same h = record {
    copies = h.copies ++ y ∷ [];
    alike_to = all_zip_more alike xs h.copies i x y within is h.alike_to same;
    appended = ap (λ zs. zs ++ y ∷ []) h.appended ∙ append_assoc old h.copies (y ∷ []);
  }

  -- a list that stands before copies
  pub IsAppended-after : (xs old new : List K) → take (length old) new ≡ old → AllZip alike xs (drop (length old) new) → IsAppended alike xs old new
  IsAppended-after xs old new kept copied = record {
    copies = drop (length old) new;
    alike_to = copied;
    appended = sym (take-append-drop (length old) new) ∙ ap (λ front. front ++ drop (length old) new) kept;
  }

  pub length-appended : (xs old new : List K) → IsAppended alike xs old new → length new ≡ length old + length xs
  length-appended xs old new h =
      ap length h.appended ∙ length-append old h.copies ∙ ap (λ n. length old + n) (sym (length_all_zip alike xs h.copies h.alike_to))

  pub AreCopies-items : (ts : List (Taken K)) (xs : List K) → AreCopies alike ts xs → AllZip alike (taken_items ts) xs
  AreCopies-items [] [] h = h
  AreCopies-items [] (x ∷ xs) h = h
  AreCopies-items (t ∷ ts) [] h = h
  AreCopies-items (t ∷ ts) (x ∷ xs) h = (h.0, AreCopies-items ts xs h.1)

  -- what is taken and copied further
  pub AreKeptThenCopies-append : (at_first : ℕ) (ts news : List (Taken K)) (xs old new : List K) → taken_items news ≡ xs
      → IsAppended alike xs old new → AreKeptThenCopies alike at_first ts old → AreKeptThenCopies alike at_first (ts ++ news) new
  AreKeptThenCopies-append at_first ts news xs old new are h holds =
      let copied : AreCopies alike news h.copies = AreCopies-from_items alike news h.copies (rw are h.alike_to) in
      let front : taken_items (take at_first (ts ++ news)) ≡ taken_items (take at_first ts) = ap taken_items (take-append-le at_first ts news holds.within) in
      record {
        within = simp length-append (omega (arith, holds.within));
        copies = holds.copies ++ h.copies;
        copied =
            rw (drop-append-le at_first ts news holds.within)
            (AllZip-append (λ t x. alike (taken_item t) x) (drop at_first ts) holds.copies news h.copies holds.copied copied);
        appended =
            rw front
            (h.appended ∙ ap (λ items. items ++ h.copies) holds.appended ∙ append_assoc (taken_items (take at_first ts)) holds.copies h.copies);
      }

  -- copies behind what a list held
  pub AreKeptThenCopies-behind : (at_first : ℕ) (old new : List K) → take (length old) new ≡ old
      → (before ts : List (Taken K)) → AllZip alike (taken_items ts) (drop (length old) new) → AreKeptThenCopies alike at_first before old → AreKeptThenCopies alike at_first (before ++ ts) new
  AreKeptThenCopies-behind at_first old new kept before ts copied so_far =
      AreKeptThenCopies-append at_first before ts (taken_items ts) old new refl (IsAppended-after (taken_items ts) old new kept copied) so_far

  -- a list at first
  pub AreKeptThenCopies-first : (items : List K) → AreKeptThenCopies alike (length items) (map from_left items) items
  AreKeptThenCopies-first items =
      let marked : List (Taken K) = map from_left items in
      let long : length marked ≡ length items = length-map items from_left in
      record {
        within = omega (arith, long);
        copies = [];
        copied = rw (drop_all (length items) marked (omega (arith, long))) tt;
        appended = sym (append-nil _ ∙ ap taken_items (take_all (length items) marked (omega (arith, long))) ∙ taken_items-map_left items);
      }

  -- of a list that began with old, the copies stand after old
  pub IsAppended-kept : (old : List K) (ts : List (Taken K)) (items : List K) → AreKeptThenCopies alike (length old) (map from_left old ++ ts) items → IsAppended alike (taken_items ts) old items
  IsAppended-kept old ts items h =
      let marked : List (Taken K) = map from_left old in
      let long : length marked ≡ length old = length-map old from_left in
      let copied = rw (drop_at marked ts (length old) long) at h.copied in
      record {
        copies = h.copies;
        alike_to = AreCopies-items ts h.copies copied;
        appended = h.appended ∙ ap (λ kept. kept ++ h.copies) (ap taken_items (take_at marked ts (length old) long) ∙ taken_items-map_left old);
      }

  -- of a list that began empty, all are copies
  pub AreCopies-kept : (ts : List (Taken K)) (items : List K) → AreKeptThenCopies alike 0 ts items → AreCopies alike ts items
  AreCopies-kept ts items h = rw h.appended h.copied

pub taken_items-taken_left : {K : Type 0} (take' : Bool) (n : ℕ) (l : List K) → taken_items (taken_left take' n l) ≡ items_if take' (take n l)
taken_items-taken_left true n l = taken_items-map_left (take n l)
taken_items-taken_left false n l = refl

pub taken_items-taken_right : {K : Type 0} (take' : Bool) (n : ℕ) (r : List K) → taken_items (taken_right take' n r) ≡ items_if take' (take n r)
taken_items-taken_right true n r = taken_items-map_right (take n r)
taken_items-taken_right false n r = refl

length-items_if : {K : Type 0} (take' : Bool) (items : List K) → length (items_if take' items) ≤ length items
length-items_if true items = omega arith
length-items_if false items = omega arith

-- a list that had room for n items has room for m more after those that were appended
pub room_after : {K : Type 0} (alike : K → K → Type 0) (take' : Bool) (items old new : List K) (m n room room' : ℕ) → length items + m ≤ n
    → length old + n ≤ room → (length old + length items ≤ room → room' ≡ room) → IsAppended alike (items_if take' items) old new → length new + m ≤ room'
room_after alike take' items old new m n room room' within fits same h =
    let still : room' ≡ room = same (omega arith) in
    omega (arith, length-appended alike (items_if take' items) old new h, length-items_if take' items)
