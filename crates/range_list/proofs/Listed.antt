-- A list in chunks as the list of its chunks' items.
use Rattle.std.proofs.Common.{◌≡◌, sym, ap, ◌∙◌, refl, ℕ, zero, suc, ◌+◌, ◌-◌, ◌≤◌, ◌<◌, List, [], ◌∷◌, ◌++◌, map, length, take, drop, get_or, slice_get, slice_set, option_copied, MatchOption, Option, None, Some, arith}
use Rattle.std.proofs.lemmas.List.{length-append, length-map, take-map, get_or-map}
use Rattle.std.specs.Option.{option_to_list}
use Rattle.std.proofs.lemmas.List.{append-nil}
use Rattle.std.proofs.lemmas.Option.{slice_get_past, slice_get_read}
use Rattle.std.specs.Borrow.{Bor}
use Rattle.range_collections.specs.Splicing.{spliced}
use Rattle.range_list.specs.declared.chunk.Chunk.{Chunk}
use Rattle.range_list.specs.declared.place.Place.{Place}
use Rattle.range_list.specs.Chunks.{items_of, flat, start_of}
use Rattle.range_list.specs.Places.{place_in, IsPlace, HasPlacesOf as PlacesOf}
use Rattle.std.specs.List.{swap}
use Rattle.range_list.proofs.Flat.{start-within, item-at}
use Rattle.range_list.specs.Lists.{joined, place_at, IsPlaceAt, HasPlacesOf, lists_of}

module _ {T : Type 0} where
  pub IsPlaceAt-front : (ls : List (List T)) → IsPlaceAt ls (record { chunk = 0; index = 0 })
  IsPlaceAt-front ls = record { chunk = λ h. absurd (omega (arith, h)); index = omega arith }

  take-nil : (n : ℕ) → take {A = T} n [] ≡ []
  take-nil zero = refl
  take-nil (suc n) = refl

  drop-nil : (n : ℕ) → drop {A = T} n [] ≡ []
  drop-nil zero = refl
  drop-nil (suc n) = refl

  -- what a reference to an item, or none, says of the item at a number
  pub got : (items : List T) (n : ℕ) (r : Option (Bor T)) → MatchOption r (length items ≤ n) (λ x. (n < length items) × ((d : T) → x.now ≡ get_or items n d)) →
      option_copied r ≡ slice_get items n
  got items n None past = sym (slice_get_past items n past)
  got items n (Some x) h = sym (slice_get_read items (length items) n x.now refl h.0 (h.1 x.now))

  spliced-none : (items : List T) (n m : ℕ) (a b : Option T) → items ≡ [] → n ≡ 0 → m ≡ 0 → spliced items n m a b ≡ option_to_list a ++ option_to_list b
  spliced-none items n m a b none en em =
      ap (λ ys. spliced ys n m a b) none ∙ ap (λ k. spliced {K = T} [] k m a b) en ∙ ap (λ k. spliced {K = T} [] 0 k a b) em
      ∙ ap (λ ys. option_to_list a ++ ys) (append-nil (option_to_list b))

module _ {T M : Type 0} where
  pub joined-lists : (xs : List (Chunk T M)) → joined (lists_of xs) ≡ flat xs
  joined-lists [] = refl
  joined-lists (x ∷ xs) = ap (λ ys. items_of x ++ ys) (joined-lists xs)

  pub place-lists : (xs : List (Chunk T M)) (p : Place) → place_at (lists_of xs) p ≡ place_in xs p
  place-lists xs p = ap (λ (ls : List (List T)). length (joined ls) + p.index) (take-map items_of p.chunk xs) ∙ ap (λ ys. length ys + p.index) (joined-lists (take p.chunk xs))

  pub IsPlaceAt-from : (xs : List (Chunk T M)) (p : Place) → IsPlace xs p → IsPlaceAt (lists_of xs) p
  IsPlaceAt-from [] p here = absurd (omega (arith, here.chunk))
  IsPlaceAt-from (x ∷ xs) p here = record {
    chunk = λ _. omega (arith, here.chunk, length-map (x ∷ xs) items_of);
    index = omega (arith, here.index x, ap length (get_or-map items_of (x ∷ xs) p.chunk x [] here.chunk));
  }

  pub IsPlace-from : (xs : List (Chunk T M)) (p : Place) → 0 < length xs → IsPlaceAt (lists_of xs) p → IsPlace xs p
  IsPlace-from xs p some here =
      let within : p.chunk < length xs = there p.chunk here.chunk in
      record {
        chunk = within;
        index = λ d. omega (arith, here.index, ap length (get_or-map items_of xs p.chunk d [] within));
      }
    where
      there : (k : ℕ) → (0 < k → k < length (lists_of xs)) → k < length xs
      there zero h = omega (arith, some)
      there (suc k) h = omega (arith, h (omega arith), length-map xs items_of)

  -- without chunks there is one place
  pub place-none : (xs : List (Chunk T M)) (p : Place) → length xs ≡ 0 → IsPlaceAt (lists_of xs) p → place_at (lists_of xs) p ≡ 0
  place-none [] p none here = only p.chunk p.index here.index
    where
      only : (k i : ℕ) → i ≤ length (get_or {A = List T} [] k []) → length (joined {T = T} (take k [])) + i ≡ 0
      only zero i le = omega (arith, le)
      only (suc k) i le = omega (arith, le)
  place-none (x ∷ xs) p none here = absurd (omega (arith, none))

  pub joined-none : (xs : List (Chunk T M)) → length xs ≡ 0 → joined (lists_of xs) ≡ []
  joined-none [] none = refl
  joined-none (x ∷ xs) none = absurd (omega (arith, none))

  module _ (xs : List (Chunk T M)) (from to : Place) (start end : Option T) where
    pub spliced-lists : spliced (joined (lists_of xs)) (place_at (lists_of xs) from) (place_at (lists_of xs) to) start end ≡ spliced (flat xs) (place_in xs from) (place_in xs to) start end
    spliced-lists =
        ap (λ ys. spliced ys (place_at (lists_of xs) from) (place_at (lists_of xs) to) start end) (joined-lists xs)
        ∙ ap (λ n. spliced (flat xs) n (place_at (lists_of xs) to) start end) (place-lists xs from)
        ∙ ap (λ n. spliced (flat xs) (place_in xs from) n start end) (place-lists xs to)

    pub listed-splice : (ys : List (Chunk T M)) → flat ys ≡ spliced (flat xs) (place_in xs from) (place_in xs to) start end →
        joined (lists_of ys) ≡ spliced (joined (lists_of xs)) (place_at (lists_of xs) from) (place_at (lists_of xs) to) start end
    listed-splice ys e = joined-lists ys ∙ e ∙ sym spliced-lists

    pub listed-fill : (ys : List (Chunk T M)) → length xs ≡ 0 → IsPlaceAt (lists_of xs) from → IsPlaceAt (lists_of xs) to → flat ys ≡ option_to_list start ++ option_to_list end →
        joined (lists_of ys) ≡ spliced (joined (lists_of xs)) (place_at (lists_of xs) from) (place_at (lists_of xs) to) start end
    listed-fill ys none hf ht e =
        joined-lists ys ∙ e
        ∙ sym (spliced-none (joined (lists_of xs)) (place_at (lists_of xs) from) (place_at (lists_of xs) to) start end (joined-none xs none) (place-none xs from none hf) (place-none xs to none ht))

  pub same-lists : (xs ys : List (Chunk T M)) → flat ys ≡ flat xs → joined (lists_of ys) ≡ joined (lists_of xs)
  same-lists xs ys e = joined-lists ys ∙ e ∙ sym (joined-lists xs)

  -- the item before a place
  pub before-place : (xs : List (Chunk T M)) (i k n : ℕ) (x : Chunk T M) (v : T) → i < length xs → x ≡ get_or xs i x → k < length (items_of x) → n ≡ start_of xs i + suc k →
      ((d : T) → v ≡ get_or (items_of x) k d) → Some v ≡ get_or (None ∷ map Some (flat xs)) n None
  before-place xs i k n x v within read fits at is =
      let m : ℕ = start_of xs i + k in
      let there : m < length (flat xs) = omega (arith, fits, start-within xs i x within read) in
      let e : suc m ≡ n = omega (arith, at) in
      ap Some (is v ∙ sym (item-at xs i k x v within read fits))
      ∙ sym (get_or-map Some (flat xs) m v None there)
      ∙ ap (λ j. get_or (None ∷ map Some (flat xs)) j None) e

  pub before-front : (xs : List (Chunk T M)) (p : Place) → p.chunk ≡ 0 → p.index ≡ 0 → None ≡ get_or (None ∷ map Some (flat xs)) (place_in xs p) None
  before-front xs p ec ei =
      let e : 0 ≡ place_in xs p = sym (ap (λ k. start_of xs k + p.index) ec ∙ ap (λ i. start_of xs 0 + i) ei) in
      ap (λ j. get_or (None ∷ map Some (flat xs)) j None) e

  pub before-lists : (xs : List (Chunk T M)) (p : Place) → get_or (None ∷ map Some (joined (lists_of xs))) (place_at (lists_of xs) p) None ≡ get_or (None ∷ map Some (flat xs)) (place_in xs p) None
  before-lists xs p =
      ap (λ (ys : List T). get_or (None ∷ map Some ys) (place_at (lists_of xs) p) None) (joined-lists xs) ∙ ap (λ n. get_or (None ∷ map Some (flat xs)) n None) (place-lists xs p)

  pub before-none : (xs : List (Chunk T M)) (p : Place) → length xs ≡ 0 → IsPlaceAt (lists_of xs) p → None ≡ get_or (None ∷ map Some (joined (lists_of xs))) (place_at (lists_of xs) p) None
  before-none xs p none here = ap (λ n. get_or (None ∷ map Some (joined (lists_of xs))) n None) (sym (place-none xs p none here))

  pub some-chunks : (xs : List (Chunk T M)) (n : ℕ) → n < length (flat xs) → 0 < length xs
  some-chunks [] n within = absurd (omega (arith, within))
  some-chunks (x ∷ xs) n within = omega arith

  pub listed-last : (f : T → T) (xs : List (Chunk T M)) (from to : Place) (start : Option T) (ys : List (Chunk T M)) (d : T) →
      flat ys ≡ spliced (flat xs) (place_in xs from) (place_in xs to) start (Some (f (get_or (flat xs) (place_in xs to - 1) d))) →
      joined (lists_of ys) ≡ spliced (joined (lists_of xs)) (place_at (lists_of xs) from) (place_at (lists_of xs) to) start (Some (f (get_or (joined (lists_of xs)) (place_at (lists_of xs) to - 1) d)))
  listed-last f xs from to start ys d e =
      let same : get_or (joined (lists_of xs)) (place_at (lists_of xs) to - 1) d ≡ get_or (flat xs) (place_in xs to - 1) d =
      ap (λ (zs : List T). get_or zs (place_at (lists_of xs) to - 1) d) (joined-lists xs) ∙ ap (λ n. get_or (flat xs) (n - 1) d) (place-lists xs to) in
      joined-lists ys ∙ e ∙ ap (λ v. spliced (flat xs) (place_in xs from) (place_in xs to) start (Some (f v))) (sym same)
      ∙ sym (spliced-lists xs from to start (Some (f (get_or (joined (lists_of xs)) (place_at (lists_of xs) to - 1) d))))

  -- no chunk is empty
  pub lists-few : (xs : List (Chunk T M)) → length (lists_of xs) ≤ length (joined (lists_of xs))
  lists-few [] = omega arith
  lists-few (x ∷ xs) = omega (arith, length-append (items_of x) (joined (lists_of xs)), lists-few xs)

  -- ---- parts of a list

  pub between-lists : (xs : List (Chunk T M)) (p q : Place) →
      take (place_at (lists_of xs) q - place_at (lists_of xs) p) (drop (place_at (lists_of xs) p) (joined (lists_of xs))) ≡ take (place_in xs q - place_in xs p) (drop (place_in xs p) (flat xs))
  between-lists xs p q =
      ap (λ (ys : List T). take (place_at (lists_of xs) q - place_at (lists_of xs) p) (drop (place_at (lists_of xs) p) ys)) (joined-lists xs)
      ∙ ap (λ n. take (n - place_at (lists_of xs) p) (drop (place_at (lists_of xs) p) (flat xs))) (place-lists xs q)
      ∙ ap (λ n. take (place_in xs q - n) (drop n (flat xs))) (place-lists xs p)

  pub taken-lists : (xs : List (Chunk T M)) (p : Place) → take (place_at (lists_of xs) p) (joined (lists_of xs)) ≡ take (place_in xs p) (flat xs)
  taken-lists xs p = ap (λ (ys : List T). take (place_at (lists_of xs) p) ys) (joined-lists xs) ∙ ap (λ n. take n (flat xs)) (place-lists xs p)

  dropped-lists : (xs : List (Chunk T M)) (p : Place) → drop (place_at (lists_of xs) p) (joined (lists_of xs)) ≡ drop (place_in xs p) (flat xs)
  dropped-lists xs p = ap (λ (ys : List T). drop (place_at (lists_of xs) p) ys) (joined-lists xs) ∙ ap (λ n. drop n (flat xs)) (place-lists xs p)

  -- items between two places replaced by those of a list
  pub listed-replaced : (xs ys : List (Chunk T M)) (p q : Place) (list : List T) → flat ys ≡ take (place_in xs p) (flat xs) ++ (list ++ drop (place_in xs q) (flat xs)) →
      joined (lists_of ys) ≡ take (place_at (lists_of xs) p) (joined (lists_of xs)) ++ (list ++ drop (place_at (lists_of xs) q) (joined (lists_of xs)))
  listed-replaced xs ys p q list e =
      joined-lists ys ∙ e
      ∙ sym (ap (λ (ws : List T). ws ++ (list ++ drop (place_at (lists_of xs) q) (joined (lists_of xs)))) (taken-lists xs p)
      ∙ ap (λ (ws : List T). take (place_in xs p) (flat xs) ++ (list ++ ws)) (dropped-lists xs q))

  pub replaced-none : (xs : List (Chunk T M)) (p q : Place) (list : List T) → length xs ≡ 0 →
      list ≡ take (place_at (lists_of xs) p) (joined (lists_of xs)) ++ (list ++ drop (place_at (lists_of xs) q) (joined (lists_of xs)))
  replaced-none xs p q list none =
      let n : ℕ = place_at (lists_of xs) p in
      let m : ℕ = place_at (lists_of xs) q in
      sym (ap (λ (ys : List T). take n ys ++ (list ++ drop m ys)) (joined-none xs none)
      ∙ ap (λ (ws : List T). ws ++ (list ++ drop {A = T} m [])) (take-nil n) ∙ ap (λ (ws : List T). list ++ ws) (drop-nil m) ∙ append-nil list)

  pub item-lists : (xs : List (Chunk T M)) (p : Place) → slice_get (joined (lists_of xs)) (place_at (lists_of xs) p) ≡ slice_get (flat xs) (place_in xs p)
  item-lists xs p = ap (λ (ys : List T). slice_get ys (place_at (lists_of xs) p)) (joined-lists xs) ∙ ap (λ n. slice_get (flat xs) n) (place-lists xs p)

  pub between-none : (xs : List (Chunk T M)) (p q : Place) → length xs ≡ 0 →
      [] ≡ take (place_at (lists_of xs) q - place_at (lists_of xs) p) (drop (place_at (lists_of xs) p) (joined (lists_of xs)))
  between-none xs p q none =
      let n : ℕ = place_at (lists_of xs) q - place_at (lists_of xs) p in
      let k : ℕ = place_at (lists_of xs) p in
      sym (ap (λ (ys : List T). take n (drop k ys)) (joined-none xs none) ∙ ap (λ (ys : List T). take n ys) (drop-nil k) ∙ take-nil n)

  pub taken-none : (xs : List (Chunk T M)) (p : Place) → length xs ≡ 0 → take (place_at (lists_of xs) p) (joined (lists_of xs)) ≡ joined (lists_of xs)
  taken-none xs p none =
      let n : ℕ = place_at (lists_of xs) p in
      ap (λ (ys : List T). take n ys) (joined-none xs none) ∙ take-nil n ∙ sym (joined-none xs none)

  pub item-none : (xs : List (Chunk T M)) (p : Place) → length xs ≡ 0 → None ≡ slice_get (joined (lists_of xs)) (place_at (lists_of xs) p)
  item-none xs p none = sym (ap (λ (ys : List T). slice_get ys (place_at (lists_of xs) p)) (joined-none xs none))

  -- ---- items changed

  pub keyed-lists : (f : T → T) (xs ys : List (Chunk T M)) (p : Place) (n : ℕ) (d : T) → n ≡ place_in xs p → flat ys ≡ slice_set (flat xs) n (f (get_or (flat xs) n d)) →
      joined (lists_of ys) ≡ slice_set (joined (lists_of xs)) (place_at (lists_of xs) p) (f (get_or (joined (lists_of xs)) (place_at (lists_of xs) p) d))
  keyed-lists f xs ys p n d same e =
      let at : n ≡ place_at (lists_of xs) p = same ∙ sym (place-lists xs p) in
      joined-lists ys ∙ e ∙ ap (λ k. slice_set (flat xs) k (f (get_or (flat xs) k d))) at
      ∙ ap (λ (zs : List T). slice_set zs (place_at (lists_of xs) p) (f (get_or zs (place_at (lists_of xs) p) d))) (sym (joined-lists xs))

  -- before any place but the front stands something
  pub behind-front : (xs : List (Chunk T M)) (p : Place) → IsPlaceAt (lists_of xs) p → 0 < p.chunk + p.index → (0 < length xs) × (0 < place_in xs p)
  behind-front [] p here some = absurd (none p.chunk p.index here.chunk here.index some)
    where
      none : (k i : ℕ) → (0 < k → k < 0) → i ≤ length (get_or {A = List T} [] k []) → 0 < k + i → ⊥
      none zero i within le more = omega (arith, le, more)
      none (suc k) i within le more = omega (arith, within (omega arith))
  behind-front (x ∷ xs) p here some = (omega arith, some-in p.chunk p.index here.chunk some)
    where
      some-in : (k i : ℕ) → (0 < k → k < length (lists_of (x ∷ xs))) → 0 < k + i → 0 < start_of (x ∷ xs) k + i
      some-in zero i within more = omega (arith, more)
      some-in (suc k) i within more = omega (arith, length-append (items_of x) (flat (take k xs)))

  pub places-lists : (xs ys : List (Chunk T M)) → 0 < length xs → PlacesOf xs ys → HasPlacesOf (lists_of xs) (lists_of ys)
  places-lists xs ys some h p here =
      let kept = h p (IsPlace-from xs p some here) in
      (IsPlaceAt-from ys p kept.0, place-lists ys p ∙ kept.1 ∙ sym (place-lists xs p))

  pub swapped-lists : (xs ys : List (Chunk T M)) (a b p q : Place) → place_in xs a ≡ place_in xs p → place_in xs b ≡ place_in xs q → flat ys ≡ swap (flat xs) (place_in xs a) (place_in xs b) →
      joined (lists_of ys) ≡ swap (joined (lists_of xs)) (place_at (lists_of xs) p) (place_at (lists_of xs) q)
  swapped-lists xs ys a b p q at bt e =
      joined-lists ys ∙ e ∙ ap (λ n. swap (flat xs) n (place_in xs b)) (at ∙ sym (place-lists xs p)) ∙ ap (λ n. swap (flat xs) (place_at (lists_of xs) p) n) (bt ∙ sym (place-lists xs q))
      ∙ ap (λ (zs : List T). swap zs (place_at (lists_of xs) p) (place_at (lists_of xs) q)) (sym (joined-lists xs))

  pub some-items : (xs : List (Chunk T M)) → 0 < length xs → 0 < length (joined (lists_of xs))
  some-items [] some = absurd (omega (arith, some))
  some-items (x ∷ xs) some = omega (arith, length-append (items_of x) (joined (lists_of xs)))

  pub filled-lists : {full : ℕ} (xs ys : List (Chunk T M)) →
      (length xs < length ys → (d : Chunk T M) → 0 < length xs → full ≤ length (items_of (get_or xs (length xs - 1) d))) →
      0 < length (lists_of xs) → length (lists_of xs) < length (lists_of ys) → full ≤ length (get_or (lists_of xs) (length (lists_of xs) - 1) [])
  filled-lists [] ys h some more = absurd (omega (arith, some))
  filled-lists (x ∷ xs) ys h some more =
      let n : length (lists_of (x ∷ xs)) ≡ length (x ∷ xs) = length-map (x ∷ xs) items_of in
      let long = h (omega (arith, more, n, length-map ys items_of)) x (omega arith) in
      let last : ℕ = length (x ∷ xs) - 1 in
      let e : get_or (lists_of (x ∷ xs)) last [] ≡ items_of (get_or (x ∷ xs) last x) = get_or-map items_of (x ∷ xs) last x [] (omega arith) in
      let at : length (lists_of (x ∷ xs)) - 1 ≡ last = omega (arith, n) in
      omega (arith, long, ap length e, ap (λ k. length (get_or (lists_of (x ∷ xs)) k [])) at)
