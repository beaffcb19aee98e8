-- JSON arrays as lists, and the numbers in them.
use Rattle.std.proofs.Common.{◌≡◌, refl, sym, ap, ap₂, ◌∙◌, subst, ℕ, ◌^◌, inl, inr, ◌<◌, ◌+◌, ℤ, Bool, true, false, not, cond, Option, Some, None, List, [], ◌∷◌, map, take, length, get_or, arith, All, ◌++◌}
use Rattle.std.specs.Prelude.{is_some, position}
use Rattle.std.specs.List.{filter_map, prefix_len, position_or_len}
use Rattle.std.specs.Ordering.{int_cmp, MatchOrdering}
use Rattle.std.proofs.lemmas.List.{length-map, take_more, append-nil}
use Rattle.std.proofs.lemmas.List.Elements.{filter_map-append}
use Rattle.std.proofs.lemmas.Bool.{cases_lt, lt-ltb}
use Rattle.std.proofs.lemmas.List.Sums.{fails_before_first}
use Rattle.std.proofs.lemmas.List.Elements.{All-head, All-tail}
use Rattle.serde_json.specs.Data.{Data, null, boolean, number, string, array, object}
use Rattle.serde_json.specs.Find.{as_array}
use Rattle.serde_json.specs.View.{view, items_of, items_view}
use Rattle.serde_json.specs.declared.value.Value.{Value}
use Rattle.std.proofs.lemmas.Int.{ints}
use Rattle.std.specs.Int.{w64}
use Rattle.std.specs.Prelude.{pos, negsuc, FitsSigned, ◌<ℤ◌}
use Rattle.std.proofs.lemmas.Cmp.{tied_itself, int_cmp_total, int_ranked}
use Rattle.std.proofs.lemmas.List.Elements.{same_from_all_zip}
use Rattle.std.specs.declared.cmp.Ordering.TheVariants.{Equal}
use Rattle.range_merge.specs.Boundaries.{IsAscending}
use Rattle.range_collections.specs.Unsorted.{AreDistinctOf}
use Rattle.range_collections.proofs.Distinct.{AllZip-distinct}
use Rattle.range_collections.specs.Json.{list_of, items_in, whole_number, is_bad, first_bad, IsReadingOf, array_of, number_data}

pub list_of-items_of : (ds : List Data) → list_of (items_of ds) ≡ ds
list_of-items_of [] = refl
list_of-items_of (d ∷ ds) = ap (λ es. d ∷ es) (list_of-items_of ds)

pub items_in-array : (d : Data) (ds : List Data) → as_array d ≡ Some (items_of ds) → items_in d ≡ ds
items_in-array null ds h = cc
items_in-array (boolean b) ds h = cc
items_in-array (number n) ds h = cc
items_in-array (string s) ds h = cc
items_in-array (array is) ds h = let e : is ≡ items_of ds = cc in ap list_of e ∙ list_of-items_of ds
items_in-array (object ms) ds h = cc

prefix_len-map : {X Y : Type 0} (p : Y → Bool) (f : X → Y) (xs : List X) → prefix_len p (map f xs) ≡ prefix_len (λ x. p (f x)) xs
prefix_len-map p f [] = refl
prefix_len-map p f (x ∷ xs) = ap (λ n. cond (p (f x)) (1 + n) 0) (prefix_len-map p f xs)

pub position-map : {X Y : Type 0} (p : Y → Bool) (f : X → Y) (xs : List X) → position p (map f xs) ≡ position (λ x. p (f x)) xs
position-map p f xs = rw (prefix_len-map (λ y. not (p y)) f xs, length-map xs f)

-- where no place passes, no element does
pub position-none : {X : Type 0} (p : X → Bool) (xs : List X) → position p xs ≡ None → All (λ x. p x ≡ false) xs
position-none p xs h k d within =
    elim (cases_lt (position_or_len p xs) (length xs)) as (λ _. p (get_or xs k d) ≡ false) [
      | inl found ↦
          let e : position p xs ≡ Some (position_or_len p xs) = rw (lt-ltb (position_or_len p xs) (length xs) found) in
          let off : None ≡ Some (position_or_len p xs) = sym h ∙ e in cc
      | inr none ↦ fails_before_first p xs k d (omega arith)
    ]

pub first_bad-array : (d : Data) (vs : List Value) → as_array d ≡ Some (items_view vs) → first_bad d ≡ position (λ v. is_bad (view v)) vs
first_bad-array d vs h = ap (position is_bad) (items_in-array d (map view vs) h) ∙ position-map is_bad view vs

pub first_bad-no_array : (d : Data) → as_array d ≡ None → first_bad d ≡ None
first_bad-no_array null h = refl
first_bad-no_array (boolean b) h = refl
first_bad-no_array (number n) h = refl
first_bad-no_array (string s) h = refl
first_bad-no_array (array is) h = cc
first_bad-no_array (object ms) h = refl

one_more : (v : Value) (vs : List Value) (r : Option ℤ) → whole_number (view v) ≡ r → is_bad (view v) ≡ false →
    map whole_number (map view vs) ≡ map Some (filter_map (λ w. whole_number (view w)) vs) →
    map whole_number (map view (v ∷ vs)) ≡ map Some (filter_map (λ w. whole_number (view w)) (v ∷ vs))
one_more v vs None e good rest =
    let off : true ≡ false = ap (λ o. not (is_some o)) (sym e) ∙ good in cc
one_more v vs (Some z) e good rest = rw e (ap (λ zs. Some z ∷ zs) rest)

-- where no value is bad, the numbers among them are all of them
all_numbers : (vs : List Value) → All (λ v. is_bad (view v) ≡ false) vs →
    map whole_number (map view vs) ≡ map Some (filter_map (λ v. whole_number (view v)) vs)
all_numbers [] good = refl
all_numbers (v ∷ vs) good =
    one_more v vs (whole_number (view v)) refl (All-head (λ w. is_bad (view w) ≡ false) v vs good)
    (all_numbers vs (All-tail (λ w. is_bad (view w) ≡ false) v vs good))

pub IsReadingOf-array : (d : Data) (vs : List Value) (items : List ℤ) → as_array d ≡ Some (items_view vs) →
    position (λ v. is_bad (view v)) vs ≡ None → AreDistinctOf int_cmp (filter_map (λ v. whole_number (view v)) vs) items → IsReadingOf d items
IsReadingOf-array d vs items h none made = record {
  is_array = rw h refl;
  numbers = filter_map (λ v. whole_number (view v)) vs;
  reads = ap (map whole_number) (items_in-array d (map view vs) h) ∙ all_numbers vs (position-none (λ v. is_bad (view v)) vs none);
  distinct = made;
}

pub Equal-int_cmp : (x y : ℤ) → int_cmp x y ≡ Equal → x ≡ y
Equal-int_cmp x y e = subst (λ r. MatchOrdering r (x <ℤ y) (x ≡ y) (y <ℤ x)) e (int_ranked x y (int_cmp x y) refl)

-- the numbers of an array made of them
whole_number-number_data : (z : ℤ) → FitsSigned w64 z → whole_number (number_data z) ≡ Some z
whole_number-number_data (pos n) fits =
    let less : n < 2 ^ 63 = omega (arith, ints) in rw (lt-ltb n (2 ^ 63) less)
whole_number-number_data (negsuc n) fits = refl

map-whole_number : (zs : List ℤ) → All (FitsSigned w64) zs → map whole_number (map number_data zs) ≡ map Some zs
map-whole_number [] fits = refl
map-whole_number (z ∷ zs) fits =
    ap₂ (λ o os. o ∷ os) (whole_number-number_data z (All-head (FitsSigned w64) z zs fits)) (map-whole_number zs (All-tail (FitsSigned w64) z zs fits))

reads-array_of : (zs : List ℤ) → All (FitsSigned w64) zs → map whole_number (items_in (array_of zs)) ≡ map Some zs
reads-array_of zs fits = ap (map whole_number) (list_of-items_of (map number_data zs)) ∙ map-whole_number zs fits

map-Some : {A : Type 0} (xs ys : List A) → map Some xs ≡ map Some ys → xs ≡ ys
map-Some [] [] h = refl
map-Some [] (y ∷ ys) h = cc
map-Some (x ∷ xs) [] h = cc
map-Some (x ∷ xs) (y ∷ ys) h =
    let e : x ≡ y = cc in
    let es : map Some xs ≡ map Some ys = cc in
    ap₂ (λ z zs. z ∷ zs) e (map-Some xs ys es)

pub IsReadingOf-array_of : (zs : List ℤ) → IsAscending int_cmp zs → All (FitsSigned w64) zs → IsReadingOf (array_of zs) zs
IsReadingOf-array_of zs up fits = record {
  is_array = refl;
  numbers = zs;
  reads = reads-array_of zs fits;
  distinct = record {
    sorted = up;
    taken = λ x h. h;
    kept = λ x h. (h.0, x, h.1, h.2, tied_itself int_cmp_total x);
  };
}

pub reading-array_of : (zs items : List ℤ) → IsAscending int_cmp zs → All (FitsSigned w64) zs → IsReadingOf (array_of zs) items → items ≡ zs
reading-array_of zs items up fits h =
    let e : zs ≡ h.numbers = map-Some zs h.numbers (sym (reads-array_of zs fits) ∙ h.reads) in
    same_from_all_zip (λ x y. int_cmp x y ≡ Equal) zs items
    (AllZip-distinct int_cmp_total zs items up (subst (λ ns. AreDistinctOf int_cmp ns items) (sym e) h.distinct))
    (λ x y tied. sym (Equal-int_cmp x y tied))

-- one more value of a list, whose number is kept or which has none
module _ {X Y : Type 0} (h : X → Option Y) (xs : List X) (ys : List Y) (i : ℕ) (x : X) (within : i < length xs) (is : x ≡ get_or xs i x)
    (so_far : ys ≡ filter_map h (take i xs)) where
  filter_map_more : filter_map h (take (i + 1) xs) ≡ ys ++ filter_map h (x ∷ [])
  filter_map_more =
      ap (filter_map h) (take_more xs i x within) ∙ filter_map-append h (take i xs) (get_or xs i x ∷ [])
      ∙ ap₂ (λ zs (z : X). zs ++ filter_map h (z ∷ [])) (sym so_far) (sym is)

  pub filter_map-kept : (y : Y) → h x ≡ Some y → (zs : List Y) → zs ≡ ys ++ y ∷ [] → zs ≡ filter_map h (take (i + 1) xs)
  filter_map-kept y e zs f = f ∙ ap (λ o. ys ++ filter_map (λ (u : X). o) (x ∷ [])) (sym e) ∙ sym filter_map_more

  pub filter_map-left_out : h x ≡ None → (zs : List Y) → zs ≡ ys → zs ≡ filter_map h (take (i + 1) xs)
  filter_map-left_out e zs f =
      f ∙ sym (append-nil ys) ∙ ap (λ o. ys ++ filter_map (λ (u : X). o) (x ∷ [])) (sym e) ∙ sym filter_map_more
