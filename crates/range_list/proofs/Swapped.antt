-- Two items exchanged, in one chunk or in two.
use Rattle.std.proofs.Common.{◌≡◌, ◌≢◌, refl, sym, ap, ◌∙◌, subst, ⊎_elim, ℕ, zero, suc, ◌+◌, ◌-◌, ◌≤◌, ◌<◌, List, [], ◌∷◌, ◌++◌, length, take, drop, set, get_or, get_or-take, arith}
use Rattle.std.proofs.lemmas.Bool.{cases_lt}
use Rattle.std.specs.List.{swap}
use Rattle.std.proofs.lemmas.List.{length-set, get_or_default, get_or-drop, get_or-set_other, set-append_left}
use Rattle.std.proofs.lemmas.List.Edits.{swap_is}
use Rattle.range_list.specs.declared.chunk.Chunk.{Chunk}
use Rattle.range_list.specs.declared.place.Place.{Place}
use Rattle.range_list.specs.Chunks.{items_of, flat, start_of, AreChunks}
use Rattle.range_list.specs.Places.{place_in, IsPlace, IsItem, HasPlacesOf, IsExchanged}
use Rattle.range_list.proofs.Flat.{flat-at, flat-set, item-at, start-within, start-next, start-mono}
use Rattle.range_list.proofs.Found.{read-again}
use Rattle.range_list.proofs.InOrder.{set-add, item-read, item-within, as-long, put-items, put-places}
use Rattle.range_list.proofs.Removed.{AreChunks-as_long}

module _ {T M : Type 0} (xs : List (Chunk T M)) (a b : Place) (ha : IsPlace xs a) (ia : IsItem xs a) (hb : IsPlace xs b) (ib : IsItem xs b) (less : a.chunk < b.chunk) where
  module _ (ys : List (Chunk T M)) (d : Chunk T M) (it : IsExchanged xs ys a b) where
    abbrev x : Chunk T M
    x = get_or xs a.chunk d

    abbrev y : Chunk T M
    y = get_or xs b.chunk d

    read-x : x ≡ get_or xs a.chunk x
    read-x = read-again xs a.chunk d ha.chunk

    read-y : y ≡ get_or xs b.chunk y
    read-y = read-again xs b.chunk d hb.chunk

    abbrev v : T
    v = get_or (items_of x) a.index d.first

    abbrev w : T
    w = get_or (items_of y) b.index d.first

    low-is : items_of it.low ≡ set (items_of x) a.index w
    low-is = it.low_items d.first d d

    high-is : items_of it.high ≡ set (items_of y) b.index v
    high-is = it.high_items d.first d d

    abbrev mid : List (Chunk T M)
    mid = set xs a.chunk it.low

    apart : b.chunk ≢ a.chunk
    apart = λ e. absurd (omega (arith, less, e))

    read-mid : (c : Chunk T M) → get_or mid b.chunk c ≡ get_or xs b.chunk c
    read-mid c = get_or-set_other xs a.chunk b.chunk it.low c apart

    here-b : IsPlace mid b × (place_in mid b ≡ place_in xs b)
    here-b = put-places xs a x it.low w ha ia read-x low-is b hb

    item-b : IsItem mid b
    item-b = λ c. subst (λ (z : Chunk T M). b.index < length (items_of z)) (sym (read-mid c)) (ib c)

    read-again-y : y ≡ get_or mid b.chunk y
    read-again-y = read-y ∙ sym (read-mid y)

    v-is : v ≡ get_or (flat xs) (place_in xs a) d.first
    v-is = sym (item-at xs a.chunk a.index x d.first ha.chunk read-x (item-read xs a x ia read-x))

    w-is : w ≡ get_or (flat xs) (place_in xs b) d.first
    w-is = sym (item-at xs b.chunk b.index y d.first hb.chunk read-y (item-read xs b y ib read-y))

    pub exchanged-items : flat ys ≡ swap (flat xs) (place_in xs a) (place_in xs b)
    exchanged-items =
        ap flat it.new_is
        ∙ put-items mid b y it.high v here-b.0 item-b read-again-y high-is
        ∙ ap (λ (zs : List T). set zs (place_in mid b) v) (put-items xs a x it.low w ha ia read-x low-is)
        ∙ ap (λ n. set (set (flat xs) (place_in xs a) w) n v) here-b.1
        ∙ ap (λ z. set (set (flat xs) (place_in xs a) z) (place_in xs b) v) w-is
        ∙ ap (λ z. set (set (flat xs) (place_in xs a) (get_or (flat xs) (place_in xs b) d.first)) (place_in xs b) z) v-is
        ∙ swap_is (flat xs) (place_in xs a) (place_in xs b) d.first (item-within xs a ha ia) (item-within xs b hb ib)

    pub exchanged-places : HasPlacesOf xs ys
    exchanged-places = λ p here.
        let one = put-places xs a x it.low w ha ia read-x low-is p here in
        let two = put-places mid b y it.high v here-b.0 item-b read-again-y high-is p one.0 in
        subst (λ (zs : List (Chunk T M)). IsPlace zs p × (place_in zs p ≡ place_in xs p)) (sym it.new_is) (two.0, two.1 ∙ one.1)

    pub exchanged-AreChunks : {full : ℕ} (of : ℕ → M) (moved : M → ℕ → M) (adds : (n k : ℕ) → moved (of n) k ≡ of (n + k)) → AreChunks full of xs → AreChunks full of ys
    exchanged-AreChunks {full} of moved adds h =
        subst (λ (zs : List (Chunk T M)). AreChunks full of zs) (sym it.new_is)
        (AreChunks-as_long of moved adds mid b.chunk y it.high
        (AreChunks-as_long of moved adds xs a.chunk x it.low h ha.chunk read-x (it.low_mark d) (as-long xs a x it.low w ha ia read-x low-is))
        here-b.0.chunk read-again-y (it.high_mark d) (as-long mid b y it.high v here-b.0 item-b read-again-y high-is))

-- the same in one chunk
module _ {T M : Type 0} (xs : List (Chunk T M)) (a : Place) (j : ℕ) (x y : Chunk T M) (here : IsPlace xs a) (read : x ≡ get_or xs a.chunk x) (le : a.index ≤ j) (fits : j < length (items_of x))
    (new : (d : T) → items_of y ≡ set (set (items_of x) a.index (get_or (items_of x) j d)) j (get_or (items_of x) a.index d)) where
  abbrev item : T
  item = x.first

  abbrev before : List T
  before = flat (take a.chunk xs)

  abbrev behind : List T
  behind = flat (drop (suc a.chunk) xs)

  abbrev low_v : T
  low_v = get_or (items_of x) a.index item

  abbrev high_v : T
  high_v = get_or (items_of x) j item

  abbrev once : List T
  once = set (items_of x) a.index high_v

  near : a.index < length (items_of x)
  near = omega (arith, le, fits)

  abbrev high_at : ℕ
  high_at = start_of xs a.chunk + j

  v-in : low_v ≡ get_or (flat xs) (place_in xs a) item
  v-in = sym (item-at xs a.chunk a.index x item here.chunk read near)

  w-in : high_v ≡ get_or (flat xs) high_at item
  w-in = sym (item-at xs a.chunk j x item here.chunk read fits)

  pub swapped-in : flat (set xs a.chunk y) ≡ swap (flat xs) (place_in xs a) high_at
  swapped-in =
      flat-set xs a.chunk y here.chunk
      ∙ ap (λ zs. before ++ (zs ++ behind)) (new item)
      ∙ ap (λ zs. before ++ zs) (sym (set-append_left once behind j low_v (omega (arith, fits, length-set (items_of x) a.index high_v))))
      ∙ sym (set-add before (once ++ behind) j low_v)
      ∙ ap (λ zs. set (before ++ zs) high_at low_v) (sym (set-append_left (items_of x) behind a.index high_v near))
      ∙ ap (λ zs. set zs high_at low_v) (sym (set-add before (items_of x ++ behind) a.index high_v))
      ∙ ap (λ zs. set (set zs (place_in xs a) high_v) high_at low_v) (sym (flat-at xs a.chunk x here.chunk read))
      ∙ ap (λ z. set (set (flat xs) (place_in xs a) z) high_at low_v) w-in
      ∙ ap (λ z. set (set (flat xs) (place_in xs a) (get_or (flat xs) high_at item)) high_at z) v-in
      ∙ swap_is (flat xs) (place_in xs a) high_at item (omega (arith, near, start-within xs a.chunk x here.chunk read)) (omega (arith, fits, start-within xs a.chunk x here.chunk read))

  pub swapped-long : length (items_of y) ≡ length (items_of x)
  swapped-long = ap length (new item) ∙ length-set once j low_v ∙ length-set (items_of x) a.index high_v

-- an item's place is in no later chunk than a later one's
pub item-ordered : {T M : Type 0} (xs : List (Chunk T M)) (a b : Place) → IsPlace xs a → IsPlace xs b → IsItem xs b → place_in xs a ≤ place_in xs b → a.chunk ≤ b.chunk
item-ordered [] a b ha hb ib le = absurd (omega (arith, ha.chunk))
item-ordered (z ∷ zs) a b ha hb ib le =
    ⊎_elim
    (λ later.
    let read = read-again (z ∷ zs) b.chunk z hb.chunk in
    absurd (omega (
      arith,
      le,
      ib z,
      start-next (z ∷ zs) b.chunk (get_or (z ∷ zs) b.chunk z) hb.chunk read,
      start-mono (z ∷ zs) (suc b.chunk) a.chunk (omega (arith, later)),
    )))
    (λ fine. fine)
    (cases_lt b.chunk a.chunk)

-- items exchanged in the two parts of a list
pub set-parts : {A : Type 0} (xs : List A) (i k : ℕ) (y z : A) → i < k → k < length xs → set (take k xs) i y ++ set (drop k xs) 0 z ≡ set (set xs i y) k z
set-parts [] i k y z less within = absurd (omega (arith, within))
set-parts (x ∷ xs) i zero y z less within = absurd (omega (arith, less))
set-parts (x ∷ xs) zero (suc k) y z less within = ap (λ zs. y ∷ zs) (put-behind xs k z (omega (arith, within)))
  where
    put-behind : {A : Type 0} (xs : List A) (k : ℕ) (z : A) → k < length xs → take k xs ++ set (drop k xs) 0 z ≡ set xs k z
    put-behind [] k z within = absurd (omega (arith, within))
    put-behind (x ∷ xs) zero z within = refl
    put-behind (x ∷ xs) (suc k) z within = ap (λ zs. x ∷ zs) (put-behind xs k z (omega (arith, within)))
set-parts (x ∷ xs) (suc i) (suc k) y z less within = ap (λ zs. x ∷ zs) (set-parts xs i k y z (omega (arith, less)) (omega (arith, within)))

module _ {T M : Type 0} where
  -- what is exchanged in the parts of a list is exchanged in it
  pub IsExchanged-parts : (xs f k : List (Chunk T M)) (a b : Place) (x y low high : Chunk T M) → a.chunk < b.chunk → b.chunk < length xs → f ≡ take b.chunk xs → k ≡ drop b.chunk xs →
      x ≡ get_or f a.chunk x → y ≡ get_or k 0 y → ((d : T) → items_of low ≡ set (items_of x) a.index (get_or (items_of y) b.index d)) →
      ((d : T) → items_of high ≡ set (items_of y) b.index (get_or (items_of x) a.index d)) → low.mark ≡ x.mark → high.mark ≡ y.mark → IsExchanged xs (set f a.chunk low ++ set k 0 high) a b
  IsExchanged-parts xs f k a b x y low high less within ef ek rx ry il ih ml mh =
      let whole : b.chunk + 0 ≡ b.chunk = omega arith in
      let there : a.chunk < length xs = omega (arith, less, within) in
      let at-x : (c : Chunk T M) → x ≡ get_or xs a.chunk c = λ c.
      rx ∙ ap (λ (zs : List (Chunk T M)). get_or zs a.chunk x) ef ∙ get_or-take b.chunk xs a.chunk x less ∙ get_or_default xs a.chunk x c there in
      let at-y : (c : Chunk T M) → y ≡ get_or xs b.chunk c = λ c.
      ry ∙ ap (λ (zs : List (Chunk T M)). get_or zs 0 y) ek ∙ get_or-drop b.chunk xs 0 y ∙ ap (λ n. get_or xs n y) whole ∙ get_or_default xs b.chunk y c within in
      record {
        low = low;
        high = high;
        new_is = ap (λ (zs : List (Chunk T M)). set zs a.chunk low ++ set k 0 high) ef ∙ ap (λ (zs : List (Chunk T M)). set (take b.chunk xs) a.chunk low ++ set zs 0 high) ek ∙ set-parts xs a.chunk b.chunk low high less within;
        low_items = λ d c e. il d ∙ ap (λ (z : Chunk T M). set (items_of z) a.index (get_or (items_of y) b.index d)) (at-x c) ∙ ap (λ (z : Chunk T M). set (items_of (get_or xs a.chunk c)) a.index (get_or (items_of z) b.index d)) (at-y e);
        high_items = λ d c e. ih d ∙ ap (λ (z : Chunk T M). set (items_of z) b.index (get_or (items_of x) a.index d)) (at-y e) ∙ ap (λ (z : Chunk T M). set (items_of (get_or xs b.chunk e)) b.index (get_or (items_of z) a.index d)) (at-x c);
        low_mark = λ c. ml ∙ ap (λ (z : Chunk T M). z.mark) (at-x c);
        high_mark = λ c. mh ∙ ap (λ (z : Chunk T M). z.mark) (at-y c);
      }

-- items exchanged behind the first of a list
pub swapped-rest : {T : Type 0} (f : T) (xs ys : List T) (a b : ℕ) (d : T) → 0 < a → a ≤ b → b < length (f ∷ xs) → ys ≡ swap xs (a - 1) (b - 1) →
    f ∷ ys ≡ set (set (f ∷ xs) a (get_or (f ∷ xs) b d)) b (get_or (f ∷ xs) a d)
swapped-rest f xs ys zero b d some le within e = absurd (omega (arith, some))
swapped-rest f xs ys (suc a) zero d some le within e = absurd (omega (arith, le))
swapped-rest f xs ys (suc a) (suc b) d some le within e =
    let ea : suc a - 1 ≡ a = omega arith in
    let eb : suc b - 1 ≡ b = omega arith in
    ap (λ zs. f ∷ zs)
    (e ∙ ap (λ k. swap xs k (suc b - 1)) ea ∙ ap (λ k. swap xs a k) eb ∙ sym (swap_is xs a b d (omega (arith, le, within)) (omega (arith, within))))
