-- Offsets of ranges and of what commands make, by their lists of boundaries.
use Rattle.std.proofs.Common.{◌≡◌, ◌⊎◌, not, refl, sym, ap, ap₂, ◌∙◌, ℕ, ◌≤◌, ◌<◌, Bool, true, false, ◌&&◌, ◌||◌, cond, List, [], ◌∷◌, length, arith, rules, inl, inr}
use Rattle.std.specs.Prelude.{nat_lt, nat_le, ◌==◌}
use Rattle.std.specs.Cmp.{nat_cmp_total}
use Rattle.std.specs.Ordering.{nat_cmp, is_lt, is_le}
use Rattle.std.specs.declared.cmp.Ordering.{Ordering}
use Rattle.std.specs.declared.cmp.Ordering.TheVariants.{Less, Equal, Greater}
use Rattle.std.specs.declared.ops.Range.{Range}
use Rattle.std.proofs.lemmas.Bool.{cases_lt}
use Rattle.std.proofs.lemmas.List.{nil_from_length}
use Rattle.std.proofs.lemmas.Bool.Decides.{nat_tests}
use Rattle.std.proofs.lemmas.List.Elements.{length_all_zip}
use Rattle.range_merge.specs.Boundaries.{IsAscending, is_odd, member}
use Rattle.range_merge.specs.Connective.{Table, Means}
use Rattle.range_merge.proofs.Members.{member-nil}
use Rattle.range_merge.proofs.SameSet.{same_items}
use Rattle.range_collections.specs.Ranges.{range_items}
use Rattle.range_collections.proofs.Values.{IsAscending-two, member-two, nothing_between}
use Rattle.range_collections.proofs.Ascending.{IsAscending-nil}
use Rattle.range_collections.proofs.Covered.{even-result}
use Rattle.std.specs.Prelude.{Result, Ok, Err, OnOk, IfErr, ◌≢◌}
use Rattle.range_tracker.specs.Offsets.{Offsets, is_within, IsListOf, HasBoundaries}
use Rattle.range_tracker.specs.declared.track_error.TrackError.{TrackError}
use Rattle.range_tracker.specs.declared.track_error.TrackError.TheVariants.{TooMany, OutOfMemory}

-- the order of numbers

is_lt-chosen : (b c : Bool) → is_lt (cond b Less (cond c Equal Greater)) ≡ b
is_lt-chosen true c = refl
is_lt-chosen false true = refl
is_lt-chosen false false = refl

is_le-chosen : (b c : Bool) → is_le (cond b Less (cond c Equal Greater)) ≡ (b || c)
is_le-chosen true c = refl
is_le-chosen false true = refl
is_le-chosen false false = refl

pub is_lt-nat_cmp : (m n : ℕ) → is_lt (nat_cmp m n) ≡ nat_lt m n
is_lt-nat_cmp m n = is_lt-chosen (nat_lt m n) (m == n)

pub is_le-nat_cmp : (m n : ℕ) → is_le (nat_cmp m n) ≡ nat_le m n
is_le-nat_cmp m n = is_le-chosen (nat_lt m n) (m == n) ∙ grind (arith, nat_tests)

-- the boundaries of a range

pub length-range_items : (start end : ℕ) → length (range_items nat_cmp start end) ≤ 2
length-range_items start end = chosen (is_lt (nat_cmp start end))
  where
    chosen : (b : Bool) → length (cond b (start ∷ end ∷ []) []) ≤ 2
    chosen true = search rules
    chosen false = search rules

is_even-range_items : (start end : ℕ) → is_odd (length (range_items nat_cmp start end)) ≡ false
is_even-range_items start end = chosen (is_lt (nat_cmp start end))
  where
    chosen : (b : Bool) → is_odd (length (cond b (start ∷ end ∷ []) [])) ≡ false
    chosen true = refl
    chosen false = refl

Less-from_is_lt : (r : Ordering) → is_lt r ≡ true → r ≡ Less
Less-from_is_lt Less h = refl
Less-from_is_lt Equal h = cc
Less-from_is_lt Greater h = cc

pub IsAscending-range_items : (start end : ℕ) → IsAscending nat_cmp (range_items nat_cmp start end)
IsAscending-range_items start end = chosen (is_lt (nat_cmp start end)) refl
  where
    chosen : (b : Bool) → is_lt (nat_cmp start end) ≡ b → IsAscending nat_cmp (cond b (start ∷ end ∷ []) [])
    chosen true h = IsAscending-two nat_cmp_total start end (Less-from_is_lt (nat_cmp start end) h)
    chosen false h = IsAscending-nil nat_cmp

pub offsets_of-range_items : (range : Range ℕ) (n : ℕ) →
    member nat_cmp (range_items nat_cmp range.start range.end) n ≡ is_within range n
offsets_of-range_items range n =
    chosen (is_lt (nat_cmp range.start range.end)) refl
    ∙ ap₂ (λ a b. a && b) (is_le-nat_cmp range.start n) (is_lt-nat_cmp n range.end)
  where
    chosen : (b : Bool) → is_lt (nat_cmp range.start range.end) ≡ b →
        member nat_cmp (cond b (range.start ∷ range.end ∷ []) []) n ≡ (is_le (nat_cmp range.start n) && is_lt (nat_cmp n range.end))
    chosen true h = member-two nat_cmp_total range.start range.end n (Less-from_is_lt (nat_cmp range.start range.end) h)
    chosen false h = member-nil nat_cmp n ∙ nothing_between nat_cmp_total range.start range.end n h

-- what a connective makes of a list and of a range

pub IsListOf-from_means : (f : Table) (items a : List ℕ) (range : Range ℕ) →
    Means nat_cmp f items a (range_items nat_cmp range.start range.end) →
    IsListOf items (λ n. f (member nat_cmp a n) (is_within range n))
IsListOf-from_means f items a range m = record {
  sorted = m.sorted;
  offsets = λ n. m.members n ∙ ap (f (member nat_cmp a n)) (offsets_of-range_items range n);
}

pub Means-from_list : (f : Table) (items a : List ℕ) (range : Range ℕ) →
    IsListOf items (λ n. f (member nat_cmp a n) (is_within range n)) →
    Means nat_cmp f items a (range_items nat_cmp range.start range.end)
Means-from_list f items a range l = record {
  sorted = l.sorted;
  members = λ n. l.offsets n ∙ ap (f (member nat_cmp a n)) (sym (offsets_of-range_items range n));
}

-- where the last range has its end, it has one in what a connective makes
pub is_even-from_means : (f : Table) → f false false ≡ false → (items a : List ℕ) (range : Range ℕ) →
    Means nat_cmp f items a (range_items nat_cmp range.start range.end) → is_odd (length a) ≡ false → is_odd (length items) ≡ false
is_even-from_means f off items a range m even =
    even-result nat_cmp_total f off a (range_items nat_cmp range.start range.end) items m even (is_even-range_items range.start range.end)

-- the lists of the same offsets have one length

pub same_length : (had : Offsets) (a b : List ℕ) → IsListOf a had → IsListOf b had → length a ≡ length b
same_length had a b p q =
    length_all_zip (λ x y. nat_cmp x y ≡ Equal) a b
    (same_items nat_cmp_total a b p.sorted q.sorted (λ n. p.offsets n ∙ sym (q.offsets n)))

pub HasBoundaries-unique : (had : Offsets) (m n : ℕ) → HasBoundaries had m → HasBoundaries had n → m ≡ n
HasBoundaries-unique had m n p q = sym p.2 ∙ same_length had p.0 q.0 p.1 q.1 ∙ q.2

pub IsListOf-self : (items : List ℕ) → IsAscending nat_cmp items → IsListOf items (member nat_cmp items)
IsListOf-self items up = record { sorted = up; offsets = λ n. refl }

-- where nothing is there

nothing_there : (had : Offsets) → HasBoundaries had 0 → (n : ℕ) → had n ≡ false
nothing_there had p n =
    sym (p.1.offsets n) ∙ ap (λ items. member nat_cmp items n) (nil_from_length p.0 p.2) ∙ member-nil nat_cmp n

pub IsListOf-first_added : (had : Offsets) (range : Range ℕ) → HasBoundaries had 0 →
    IsListOf (range_items nat_cmp range.start range.end) (λ n. had n || is_within range n)
IsListOf-first_added had range p = record {
  sorted = IsAscending-range_items range.start range.end;
  offsets = λ n. offsets_of-range_items range n ∙ sym (ap (λ b. b || is_within range n) (nothing_there had p n));
}

pub IsListOf-first_forgotten : (had : Offsets) (range : Range ℕ) → HasBoundaries had 0 →
    IsListOf [] (λ n. had n && not (is_within range n))
IsListOf-first_forgotten had range p = record {
  sorted = IsAscending-nil nat_cmp;
  offsets = λ n. member-nil nat_cmp n ∙ sym (ap (λ b. b && not (is_within range n)) (nothing_there had p n));
}

-- a change where the list lies: `fails` says that it was refused, which it isn't where the list
-- doesn't grow or has at most two boundaries

module _ (f : Table) (a : List ℕ) (range : Range ℕ)
    (fails : (items : List ℕ) → Means nat_cmp f items a (range_items nat_cmp range.start range.end) →
    (length items ≤ length a) ⊎ (length items ≤ 2) → ⊥) where
  pub refused-grows : IsAscending nat_cmp a → (m n : ℕ) → HasBoundaries (member nat_cmp a) m →
      HasBoundaries (λ x. f (member nat_cmp a x) (is_within range x)) n → n ≤ m → ⊥
  refused-grows up m n p q few =
      let same : length a ≡ m = same_length (member nat_cmp a) a p.0 (IsListOf-self a up) p.1 ∙ p.2 in
      let long : length q.0 ≡ n = q.2 in
      fails q.0 (Means-from_list f q.0 a range q.1) (inl (omega arith))

  pub refused-not_first : (items : List ℕ) → IsListOf items (λ x. f (member nat_cmp a x) (is_within range x)) → length items ≤ 2 → ⊥
  refused-not_first items l few = fails items (Means-from_list f items a range l) (inr few)

-- the offsets below a length

pub offsets_of-below : (len n : ℕ) → member nat_cmp (range_items nat_cmp 0 len) n ≡ nat_lt n len
offsets_of-below len n =
    let range : Range ℕ = record { start = 0; end = len } in
    let least : nat_le 0 n ≡ true = grind (arith, nat_tests) in
    offsets_of-range_items range n ∙ ap (λ b. b && nat_lt n len) least

-- a list within a limit

pub length-within : (had : Offsets) (items : List ℕ) (limit : ℕ) → IsListOf items had →
    ((n : ℕ) → HasBoundaries had n × (limit < n) → ⊥) → length items ≤ limit
length-within had items limit l none =
    elim (cases_lt limit (length items)) as (λ _. length items ≤ limit) [
      | inl more ↦ absurd (none (length items) ((items, l, refl), more))
      | inr few ↦ few
    ]

-- a refusal of more boundaries than the limit

pub TooMany-from : (r : Result (Unit {0}) TrackError) (b limit n : ℕ) → OnOk r (b ≤ limit) → IfErr r (λ error. (error ≡ TooMany b) × (limit < b)) →
    b ≡ n → limit < n → r ≡ Err (TooMany n)
TooMany-from (Ok done) b limit n ok err is many = absurd (omega (arith, ok, is, many))
TooMany-from (Err why) b limit n ok err is many = ap Err (err.0 ∙ ap TooMany is)

pub told-too_many : (r : Result (Unit {0}) TrackError) (b limit n : ℕ) → IfErr r (λ error. (error ≡ TooMany b) × (limit < b)) →
    r ≡ Err (TooMany n) → (b ≡ n) × (limit < b)
told-too_many (Ok done) b limit n err same = cc
told-too_many (Err why) b limit n err same = let e : b ≡ n = cc in (e, err.1)

pub not_memory : (r : Result (Unit {0}) TrackError) (b limit : ℕ) → IfErr r (λ error. (error ≡ TooMany b) × (limit < b)) → r ≢ Err OutOfMemory
not_memory (Ok done) b limit err same = cc
not_memory (Err why) b limit err same = cc
