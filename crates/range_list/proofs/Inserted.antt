-- Boundaries inserted into a chunk, and a chunk split in two.
use Rattle.std.proofs.Common.{◌≡◌, sym, ap, ◌∙◌, subst, refl, ℕ, suc, ◌+◌, ◌-◌, ◌≤◌, ◌<◌, List, [], ◌∷◌, ◌++◌, length, take, drop, set, get_or, arith, inl, inr, append_assoc, Option, Some, None}
use Rattle.std.specs.List.{insert}
use Rattle.std.specs.Option.{option_to_list}
use Rattle.std.proofs.lemmas.List.{append-nil, length-append, length-drop, length-take-le, length-set, take-set, take_more_set, take-append-drop, take-append-le, drop-set-lt, get_or-set_same, get_or-set_other, get_or_default}
use Rattle.std.proofs.lemmas.List.Edits.{length-insert, get_or-insert_at, get_or-insert_below}
use Rattle.range_list.specs.declared.chunk.Chunk.{Chunk}
use Rattle.range_list.specs.declared.place.Place.{Place}
use Rattle.range_list.specs.Chunks.{items_of, flat, start_of, KnowMarks, AreShort, AreChunks}
use Rattle.range_list.specs.Places.{place_in, IsPlace}
use Rattle.range_list.proofs.Flat.{flat-append, flat-at, flat-set, take-place, drop-place, start-next}
use Rattle.range_list.proofs.Chunked.{same-add, KnowMarks-at_number, KnowMarks-append, AreShort-nil, AreShort-put, AreShort-take, AreShort-drop, marks-take, mark-at, marks-drop}
use Rattle.range_list.proofs.InOrder.{index-at}
use Rattle.range_list.proofs.Found.{start-less_end}
use Rattle.range_list.proofs.Behind.{length-last}
use Rattle.std.proofs.lemmas.Bool.{cases_lt}
use Rattle.range_list.proofs.Removed.{AreChunks-set, take-take-le}

pub room-two : {full : ℕ} {T : Type 0} (n : ℕ) (second : Option T) → n + 2 ≤ full → n + suc (length (option_to_list second)) ≤ full
room-two n None room = omega (arith, room)
room-two n (Some v) room = omega (arith, room)

module _ {T M : Type 0} where
  -- the same boundaries in a chunk: the list is the same
  pub flat-kept : (xs : List (Chunk T M)) (i : ℕ) (x y : Chunk T M) → i < length xs → x ≡ get_or xs i x → items_of y ≡ items_of x → flat (set xs i y) ≡ flat xs
  flat-kept xs i x y within read e =
      flat-set xs i y within ∙ ap (λ zs. flat (take i xs) ++ (zs ++ flat (drop (suc i) xs))) e ∙ sym (flat-at xs i x within read)

  -- a chunk replaced, read again
  pub read-put : (xs : List (Chunk T M)) (i : ℕ) (y d : Chunk T M) → i < length xs → get_or (set xs i y) i d ≡ y
  read-put xs i y d within = get_or-set_same xs i y d within

  -- one chunk, whatever stands in for it
  pub read-any : (xs : List (Chunk T M)) (i : ℕ) (x d : Chunk T M) → i < length xs → x ≡ get_or xs i x → x ≡ get_or xs i d
  read-any xs i x d within read = read ∙ get_or_default xs i x d within

  -- a place stays one where a chunk keeps its items
  pub place-kept : (xs : List (Chunk T M)) (p : Place) (x y : Chunk T M) → IsPlace xs p → x ≡ get_or xs p.chunk x → items_of y ≡ items_of x →
      IsPlace (set xs p.chunk y) p × (place_in (set xs p.chunk y) p ≡ place_in xs p)
  place-kept xs p x y here read same = (
    record {
      chunk = omega (arith, length-set xs p.chunk y, here.chunk);
      index = λ d. omega (arith, index-at xs p x here read, ap length same, ap (λ (c : Chunk T M). length (items_of c)) (get_or-set_same xs p.chunk y d here.chunk));
    },
    ap (λ (ws : List (Chunk T M)). length (flat ws) + p.index) (take-set xs p.chunk y),
  )

  pub inserted-in : (xs : List (Chunk T M)) (p : Place) (x y : Chunk T M) (new : List T) → IsPlace xs p → x ≡ get_or xs p.chunk x →
      items_of y ≡ take p.index (items_of x) ++ (new ++ drop p.index (items_of x)) →
      flat (set xs p.chunk y) ≡ take (place_in xs p) (flat xs) ++ (new ++ drop (place_in xs p) (flat xs))
  inserted-in xs p x y new here read e =
      let front : List T = flat (take p.chunk xs) in
      let rest : List T = flat (drop (suc p.chunk) xs) in
      let a : List T = take p.index (items_of x) in
      let b : List T = drop p.index (items_of x) in
      let fits = index-at xs p x here read in
      flat-set xs p.chunk y here.chunk
      ∙ ap (λ zs. front ++ (zs ++ rest)) e
      ∙ ap (λ zs. front ++ zs) (append_assoc a (new ++ b) rest ∙ ap (λ zs. a ++ zs) (append_assoc new b rest))
      ∙ sym (append_assoc front a (new ++ (b ++ rest)))
      ∙ ap (λ zs. zs ++ (new ++ (b ++ rest))) (sym (take-place xs p.chunk p.index x here.chunk read fits))
      ∙ ap (λ zs. take (place_in xs p) (flat xs) ++ (new ++ zs)) (sym (drop-place xs p.chunk p.index x here.chunk read fits))

  -- a place of the chunk stays one when items are put there
  pub place-inserted : (xs : List (Chunk T M)) (p : Place) (x y : Chunk T M) (new : List T) → IsPlace xs p → x ≡ get_or xs p.chunk x →
      items_of y ≡ take p.index (items_of x) ++ (new ++ drop p.index (items_of x)) → IsPlace (set xs p.chunk y) p × (place_in (set xs p.chunk y) p ≡ place_in xs p)
  place-inserted xs p x y new here read e =
      let fits : p.index ≤ length (items_of x) = index-at xs p x here read in (
        record {
          chunk = omega (arith, length-set xs p.chunk y, here.chunk);
          index = λ d.
              omega (
                arith,
                fits,
                ap (λ (c : Chunk T M). length (items_of c)) (get_or-set_same xs p.chunk y d here.chunk),
                ap length e,
                length-append (take p.index (items_of x)) (new ++ drop p.index (items_of x)),
                length-take-le p.index (items_of x) fits,
              );
        },
        ap (λ (ws : List (Chunk T M)). length (flat ws) + p.index) (take-set xs p.chunk y),
      )

  -- a number below a chunk's length
  pub fits-at : (xs : List (Chunk T M)) (i n : ℕ) (x : Chunk T M) → x ≡ get_or xs i x → ((d : Chunk T M) → n < length (items_of (get_or xs i d))) → n ≤ length (items_of x)
  fits-at xs i n x read less = omega (arith, less x, ap (λ (c : Chunk T M). length (items_of c)) read)

  -- the place behind all items is the end of the last chunk
  pub last-place : (xs : List (Chunk T M)) (p : Place) (x : Chunk T M) → IsPlace xs p → x ≡ get_or xs p.chunk x → place_in xs p ≡ length (flat xs) →
      (p.chunk + 1 ≡ length xs) × (p.index ≡ length (items_of x))
  last-place xs p x here read end =
      let next = start-next xs p.chunk x here.chunk read in
      let fits = index-at xs p x here read in
      elim (cases_lt (suc p.chunk) (length xs)) as (λ _. (p.chunk + 1 ≡ length xs) × (p.index ≡ length (items_of x))) [
        | inl more ↦ absurd (omega (arith, start-less_end xs (suc p.chunk) more, next, fits, end))
        | inr none ↦ let last : suc p.chunk ≡ length xs = omega (arith, none, here.chunk) in (omega (arith, last), omega (arith, length-last xs p.chunk x last read, end))
      ]

  -- ---- a chunk split at a place of it
  module _ (xs : List (Chunk T M)) (i half : ℕ) (x low high : Chunk T M) (within : i < length xs) (read : x ≡ get_or xs i x)
      (fits : half ≤ length (items_of x)) (el : items_of low ≡ take half (items_of x)) (eh : items_of high ≡ drop half (items_of x)) where
    abbrev halved : List (Chunk T M)
    halved = insert (set xs i low) (i + 1) high

    one : i + 1 ≡ suc i
    one = omega arith

    in_parts : halved ≡ (take i xs ++ (low ∷ [])) ++ (high ∷ drop (suc i) xs)
    in_parts =
        ap (λ ws. ws ++ (high ∷ drop (i + 1) (set xs i low))) (take_more_set xs i low within)
        ∙ ap (λ ws. (take i xs ++ (low ∷ [])) ++ (high ∷ ws)) (drop-set-lt (i + 1) xs i low (omega arith) ∙ ap (λ n. drop n xs) one)

    front-flat : flat (take i xs ++ (low ∷ [])) ≡ flat (take i xs) ++ take half (items_of x)
    front-flat = flat-append (take i xs) (low ∷ []) ∙ ap (λ ws. flat (take i xs) ++ ws) (append-nil (items_of low) ∙ el)

    pub halved-flat : flat halved ≡ flat xs
    halved-flat =
        let rest : List T = flat (drop (suc i) xs) in
        let a : List T = take half (items_of x) in
        let b : List T = drop half (items_of x) in
        ap flat in_parts
        ∙ flat-append (take i xs ++ (low ∷ [])) (high ∷ drop (suc i) xs)
        ∙ ap (λ ws. ws ++ (items_of high ++ rest)) front-flat
        ∙ ap (λ ws. (flat (take i xs) ++ a) ++ (ws ++ rest)) eh
        ∙ append_assoc (flat (take i xs)) a (b ++ rest)
        ∙ ap (λ ws. flat (take i xs) ++ ws) (sym (append_assoc a b rest) ∙ ap (λ ws. ws ++ rest) (take-append-drop half (items_of x)))
        ∙ sym (flat-at xs i x within read)

    length-low : length (items_of low) ≡ half
    length-low = ap length el ∙ length-take-le half (items_of x) fits

    length-high : length (items_of high) ≡ length (items_of x) - half
    length-high = ap length eh ∙ length-drop half (items_of x)

    length-front : length (flat (take i xs ++ (low ∷ []))) ≡ start_of xs i + half
    length-front = omega (arith, ap length front-flat, length-append (flat (take i xs)) (take half (items_of x)), length-take-le half (items_of x) fits)

    size : length (set xs i low) ≡ length xs
    size = length-set xs i low

    read-low : (d : Chunk T M) → get_or halved i d ≡ low
    read-low d = get_or-insert_below (set xs i low) (i + 1) high d i (omega arith) (omega (arith, size)) ∙ get_or-set_same xs i low d within

    read-high : (d : Chunk T M) → get_or halved (i + 1) d ≡ high
    read-high d = get_or-insert_at (set xs i low) (i + 1) high d (omega (arith, size))

    start-low : start_of halved i ≡ start_of xs i
    start-low =
        ap (λ (ws : List (Chunk T M)). length (flat (take i ws))) in_parts
        ∙ ap (λ (ws : List (Chunk T M)). length (flat ws)) (front-taken (take i xs) (high ∷ drop (suc i) xs) i (length-take-le i xs (omega arith)))
      where
        front-taken : (a b : List (Chunk T M)) (n : ℕ) → length a ≡ n → take n ((a ++ (low ∷ [])) ++ b) ≡ a
        front-taken [] b n e = ap (λ m. take m ((low ∷ []) ++ b)) (sym e)
        front-taken (c ∷ cs) b n e = ap (λ m. take m ((c ∷ (cs ++ (low ∷ []))) ++ b)) (sym e) ∙ ap (λ ws. c ∷ ws) (front-taken cs b (length cs) refl)

    pub start-high : start_of halved (i + 1) ≡ start_of xs i + half
    start-high =
        ap (λ n. start_of halved n) one
        ∙ start-next halved i low (omega (arith, length-insert (set xs i low) (i + 1) high (omega (arith, size)), size)) (sym (read-low low))
        ∙ omega (arith, start-low, length-low)

    there : i + 1 < length halved
    there = omega (arith, length-insert (set xs i low) (i + 1) high (omega (arith, size)), size)

    module _ (p : Place) (here : IsPlace xs p) (at : p.chunk ≡ i) where
      -- a place in the lower half
      pub place-low : p.index ≤ half → IsPlace halved p × (place_in halved p ≡ place_in xs p)
      place-low le = (
        record {
          chunk = omega (arith, there, at);
          index = λ d. omega (arith, le, length-low, ap (λ (c : Chunk T M). length (items_of c)) (ap (λ k. get_or halved k d) at ∙ read-low d));
        },
        ap (λ k. start_of halved k + p.index) at ∙ ap (λ n. n + p.index) start-low ∙ ap (λ k. start_of xs k + p.index) (sym at),
      )

    -- a place that isn't behind the cut
    pub place-before_cut : (p : Place) → IsPlace xs p → p.chunk ≤ i → (p.chunk ≡ i → p.index ≤ half) → IsPlace halved p × (place_in halved p ≡ place_in xs p)
    place-before_cut p here le low_index =
        elim (cases_lt p.chunk i) as (λ _. IsPlace halved p × (place_in halved p ≡ place_in xs p)) [
          | inl less ↦
              let n : length (take i xs) ≡ i = length-take-le i xs (omega (arith, within)) in
              let n2 : length (take i xs ++ (low ∷ [])) ≡ i + 1 = omega (arith, n, length-append (take i xs) (low ∷ [])) in
              let front : take p.chunk halved ≡ take p.chunk xs =
              ap (λ ws. take p.chunk ws) in_parts
              ∙ take-append-le p.chunk (take i xs ++ (low ∷ [])) (high ∷ drop (suc i) xs) (omega (arith, n2, less))
              ∙ take-append-le p.chunk (take i xs) (low ∷ []) (omega (arith, n, less))
              ∙ take-take-le p.chunk i xs (omega (arith, less)) in
              let read_same : (d : Chunk T M) → get_or halved p.chunk d ≡ get_or xs p.chunk d = λ d.
              get_or-insert_below (set xs i low) (i + 1) high d p.chunk (omega (arith, less)) (omega (arith, size, within))
              ∙ get_or-set_other xs i p.chunk low d (λ e. absurd (omega (arith, e, less))) in (
                record {
                  chunk = omega (arith, there, less);
                  index = λ d. subst (λ (c : Chunk T M). p.index ≤ length (items_of c)) (sym (read_same d)) (here.index d);
                },
                ap (λ (ws : List (Chunk T M)). length (flat ws) + p.index) front,
              )
          | inr more ↦ let at : p.chunk ≡ i = omega (arith, more, le) in place-low p here at (low_index at)
        ]

    pub room-low : (d : Chunk T M) → length (items_of (get_or halved i d)) ≡ half
    room-low d = ap (λ (c : Chunk T M). length (items_of c)) (read-low d) ∙ length-low

    pub room-high : (d : Chunk T M) → length (items_of (get_or halved (i + 1) d)) + half ≡ length (items_of (get_or xs i d))
    room-high d =
        omega (arith, ap (λ (c : Chunk T M). length (items_of c)) (read-high d), length-high, fits, ap (λ (c : Chunk T M). length (items_of c)) (read-any xs i x d within read))

module _ {M : Type 0} (of : ℕ → M) (moved : M → ℕ → M) (adds : (n k : ℕ) → moved (of n) k ≡ of (n + k)) {T : Type 0} where
  module _ (xs : List (Chunk T M)) (i half : ℕ) (x low high : Chunk T M) (within : i < length xs) (read : x ≡ get_or xs i x)
      (fits : half ≤ length (items_of x)) (el : items_of low ≡ take half (items_of x)) (eh : items_of high ≡ drop half (items_of x)) where
    pub AreChunks-halved : {full : ℕ} → AreChunks full of xs → length (items_of x) ≤ full → low.mark ≡ x.mark → high.mark ≡ moved x.mark half → AreChunks full of (insert (set xs i low) (i + 1) high)
    unfolding KnowMarks
    AreChunks-halved {full} h most same turned =
        let none : AreShort {T = T} {M = M} full [] = AreShort-nil in
        let at : x.mark ≡ of (0 + start_of xs i) = mark-at of moved adds 0 xs i x within read h.marks in
        let parts = in_parts xs i half x low high within read fits el eh in
        let ll = length-low xs i half x low high within read fits el eh in
        let lh = length-high xs i half x low high within read fits el eh in
        let lf = length-front xs i half x low high within read fits el eh in
        record {
          short = subst (λ (ws : List (Chunk T M)). AreShort full ws) (sym parts)
              (AreShort-put (take i xs ++ (low ∷ [])) (drop (suc i) xs) high
              (AreShort-put (take i xs) [] low (AreShort-take xs i h.short) (omega (arith, ll, fits, most)) none)
              (omega (arith, lh, most)) (AreShort-drop xs (suc i) h.short));
          marks = subst (λ (ws : List (Chunk T M)). KnowMarks of 0 ws) (sym parts)
              (KnowMarks-append of moved adds 0 (take i xs ++ (low ∷ [])) (high ∷ drop (suc i) xs)
              (KnowMarks-append of moved adds 0 (take i xs) (low ∷ []) (marks-take of moved adds 0 xs i x within read h.marks) (same ∙ at, tt)) (
                turned ∙ ap (λ b. moved b half) at ∙ adds (0 + start_of xs i) half ∙ ap of (omega (arith, lf)),
                KnowMarks-at_number of moved adds (0 + start_of xs i + length (items_of x)) (0 + length (flat (take i xs ++ (low ∷ []))) + length (items_of high)) (drop (suc i) xs)
                    (omega (arith, lf, lh, fits)) (marks-drop of moved adds 0 xs i x within read h.marks),
              ));
        }

  -- items put into a chunk
  pub AreChunks-inserted : {full : ℕ} (xs : List (Chunk T M)) (p : Place) (x y : Chunk T M) (new : List T) → AreChunks full of xs → IsPlace xs p → x ≡ get_or xs p.chunk x → y.mark ≡ x.mark →
      length (items_of (get_or xs p.chunk x)) + length new ≤ full → of (place_in xs p) ≡ of (place_in xs p + length new) →
      items_of y ≡ take p.index (items_of x) ++ (new ++ drop p.index (items_of x)) → AreChunks full of (set xs p.chunk y)
  AreChunks-inserted xs p x y new h here read same room alike put =
      let fits : p.index ≤ length (items_of x) = index-at xs p x here read in
      let behind : ℕ = length (items_of x) - p.index in
      let n : length (items_of y) ≡ length (items_of x) + length new =
      omega (arith, fits, ap length put, length-append (take p.index (items_of x)) (new ++ drop p.index (items_of x)), length-append new (drop p.index (items_of x)), length-take-le p.index (items_of x) fits, length-drop p.index (items_of x)) in
      let a : start_of xs p.chunk + length (items_of y) ≡ place_in xs p + length new + behind = omega (arith, n, fits) in
      let b : place_in xs p + behind ≡ start_of xs p.chunk + length (items_of x) = omega (arith, fits) in
      AreChunks-set of moved adds xs p.chunk x y h here.chunk read same
      (ap of a ∙ same-add of moved adds (place_in xs p + length new) (place_in xs p) behind (sym alike) ∙ ap of b)
      (omega (arith, n, room, ap (λ (c : Chunk T M). length (items_of c)) read))
