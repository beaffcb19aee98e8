-- What the first run says of a list of owners.
--     LeadsLeft-first, LeadsRight-first, LeadsBoth-first, nil-from_no_run
--                                 the first run says which owners come first
--     runs_of-map_left_only, runs_of-map_right_only
--                                 owners of one side at the start are the first run
use Rattle.std.proofs.Common.{◌≡◌, refl, ap, ◌∙◌, subst, ℕ, ◌+◌, ◌≤◌, List, [], ◌∷◌, ◌++◌, length, map, take, drop, slice_get, Some, None, add-one, arith}
use Rattle.range_merge.specs.Owners.{Owner, left_only, right_only, shared, left_items, right_items}
use Rattle.range_merge.specs.Runs.{joined, runs_of}
use Rattle.range_merge.specs.declared.runs.Run.{Run}
use Rattle.range_merge.specs.declared.runs.Run.TheVariants.{Left, Right, Both}

-- an entry at 0 is the front
pub cons-from_slice_get : {X : Type 0} (x : X) (xs : List X) → slice_get xs 0 ≡ Some x → xs ≡ x ∷ drop 1 xs
cons-from_slice_get x [] e = absurd (cc)
cons-from_slice_get x (y ∷ ys) e = cc

pub nil-from_slice_get : {X : Type 0} (xs : List X) → slice_get xs 0 ≡ None → xs ≡ []
nil-from_slice_get [] e = refl
nil-from_slice_get (y ∷ ys) e = absurd (cc)

-- the first n owners are the left's first n items, and the first run
pub record LeadsLeft {K : Type 0} (os : List (Owner K)) (n : ℕ) : Type 0 where
  pub some : 1 ≤ n
  pub within : n ≤ length (left_items os)
  pub split : os ≡ map left_only (take n (left_items os)) ++ drop n os
  pub runs : runs_of os ≡ Left n ∷ runs_of (drop n os)
  pub lefts : left_items (drop n os) ≡ drop n (left_items os)
  pub rights : right_items (drop n os) ≡ right_items os

-- the first n owners are the right's first n items, and the first run
pub record LeadsRight {K : Type 0} (os : List (Owner K)) (n : ℕ) : Type 0 where
  pub some : 1 ≤ n
  pub within : n ≤ length (right_items os)
  pub split : os ≡ map right_only (take n (right_items os)) ++ drop n os
  pub runs : runs_of os ≡ Right n ∷ runs_of (drop n os)
  pub rights : right_items (drop n os) ≡ drop n (right_items os)
  pub lefts : left_items (drop n os) ≡ left_items os

-- the first owner is a shared one, and the first run
pub record LeadsBoth {K : Type 0} (os : List (Owner K)) : Type 0 where
  pub left_item : K
  pub right_item : K
  pub split : os ≡ shared left_item right_item ∷ drop 1 os
  pub runs : runs_of os ≡ Both ∷ runs_of (drop 1 os)

module _ {K : Type 0} where
  -- an owner of the left alone before these is a run of one
  abbrev pub NotLeft : List (Owner K) → Type 0
  NotLeft os = (x : K) → joined (left_only x) (runs_of os) ≡ Left 1 ∷ runs_of os

  -- an owner of the right alone before these is a run of one
  abbrev pub NotRight : List (Owner K) → Type 0
  NotRight os = (y : K) → joined (right_only y) (runs_of os) ≡ Right 1 ∷ runs_of os

  pub joined-left_right : (x y : K) (rs : List Run) → joined (left_only x) (joined (right_only y) rs) ≡ Left 1 ∷ joined (right_only y) rs
  joined-left_right x y [] = refl
  joined-left_right x y (Left m ∷ rs) = refl
  joined-left_right x y (Right m ∷ rs) = refl
  joined-left_right x y (Both ∷ rs) = refl

  pub joined-right_left : (x y : K) (rs : List Run) → joined (right_only x) (joined (left_only y) rs) ≡ Right 1 ∷ joined (left_only y) rs
  joined-right_left x y [] = refl
  joined-right_left x y (Right m ∷ rs) = refl
  joined-right_left x y (Left m ∷ rs) = refl
  joined-right_left x y (Both ∷ rs) = refl

  -- an owner of the left joins runs that begin with one of the left
  LeadsLeft-more : (x : K) (os : List (Owner K)) (n : ℕ) → LeadsLeft os n → LeadsLeft (left_only x ∷ os) (n + 1)
  unfolding runs_of
  LeadsLeft-more x os n h = rw (add-one n) (record {
    some = omega arith;
    within = omega (arith, h.within);
    split = ap (λ (ps : List (Owner K)). left_only x ∷ ps) h.split;
    runs = ap (λ (rs : List Run). joined (left_only x) rs) h.runs ∙ ap (λ (k : ℕ). Left k ∷ runs_of (drop n os)) (add-one n);
    lefts = h.lefts;
    rights = h.rights;
  })

  -- otherwise it is a run of one
  LeadsLeft-one : (x : K) (os : List (Owner K)) → joined (left_only x) (runs_of os) ≡ Left 1 ∷ runs_of os → LeadsLeft (left_only x ∷ os) 1
  unfolding runs_of
  LeadsLeft-one x os e = record { some = omega arith; within = omega arith; split = refl; runs = e; lefts = refl; rights = refl }

  -- an owner of the right joins runs that begin with one of the right
  LeadsRight-more : (y : K) (os : List (Owner K)) (n : ℕ) → LeadsRight os n → LeadsRight (right_only y ∷ os) (n + 1)
  unfolding runs_of
  LeadsRight-more y os n h = rw (add-one n) (record {
    some = omega arith;
    within = omega (arith, h.within);
    split = ap (λ (ps : List (Owner K)). right_only y ∷ ps) h.split;
    runs = ap (λ (rs : List Run). joined (right_only y) rs) h.runs ∙ ap (λ (k : ℕ). Right k ∷ runs_of (drop n os)) (add-one n);
    rights = h.rights;
    lefts = h.lefts;
  })

  -- otherwise it is a run of one
  LeadsRight-one : (y : K) (os : List (Owner K)) → joined (right_only y) (runs_of os) ≡ Right 1 ∷ runs_of os → LeadsRight (right_only y ∷ os) 1
  unfolding runs_of
  LeadsRight-one y os e = record { some = omega arith; within = omega arith; split = refl; runs = e; rights = refl; lefts = refl }

  -- what the first of these runs says of the owners
  abbrev Leads : List Run → List (Owner K) → Type 0
  Leads [] os = os ≡ []
  Leads (Left n ∷ rs) os = LeadsLeft os n
  Leads (Right n ∷ rs) os = LeadsRight os n
  Leads (Both ∷ rs) os = LeadsBoth os

  Leads-left : (x : K) (os : List (Owner K)) (rs : List Run) → runs_of os ≡ rs → Leads rs os → Leads (joined (left_only x) rs) (left_only x ∷ os)
  Leads-left x os [] e h = LeadsLeft-one x os (rw e refl)
  Leads-left x os (Left m ∷ rs) e h = LeadsLeft-more x os m h
  Leads-left x os (Right m ∷ rs) e h = LeadsLeft-one x os (rw e refl)
  Leads-left x os (Both ∷ rs) e h = LeadsLeft-one x os (rw e refl)

  Leads-right : (y : K) (os : List (Owner K)) (rs : List Run) → runs_of os ≡ rs → Leads rs os → Leads (joined (right_only y) rs) (right_only y ∷ os)
  Leads-right y os [] e h = LeadsRight-one y os (rw e refl)
  Leads-right y os (Left m ∷ rs) e h = LeadsRight-one y os (rw e refl)
  Leads-right y os (Right m ∷ rs) e h = LeadsRight-more y os m h
  Leads-right y os (Both ∷ rs) e h = LeadsRight-one y os (rw e refl)

  Leads-runs_of : (os : List (Owner K)) → Leads (runs_of os) os
  unfolding runs_of
  Leads-runs_of [] = refl
  Leads-runs_of (left_only x ∷ os) = Leads-left x os (runs_of os) refl (Leads-runs_of os)
  Leads-runs_of (right_only y ∷ os) = Leads-right y os (runs_of os) refl (Leads-runs_of os)
  Leads-runs_of (shared x y ∷ os) = record { left_item = x; right_item = y; split = refl; runs = refl }

  -- where the first run is of the left, its owners come first
  pub LeadsLeft-first : (os : List (Owner K)) (n : ℕ) → slice_get (runs_of os) 0 ≡ Some (Left n) → LeadsLeft os n
  LeadsLeft-first os n e = subst (λ (rs : List Run). Leads rs os) (cons-from_slice_get (Left n) (runs_of os) e) (Leads-runs_of os)

  -- where the first run is of the right, its owners come first
  pub LeadsRight-first : (os : List (Owner K)) (n : ℕ) → slice_get (runs_of os) 0 ≡ Some (Right n) → LeadsRight os n
  LeadsRight-first os n e = subst (λ (rs : List Run). Leads rs os) (cons-from_slice_get (Right n) (runs_of os) e) (Leads-runs_of os)

  -- where the first run is of both, a shared owner comes first
  pub LeadsBoth-first : (os : List (Owner K)) → slice_get (runs_of os) 0 ≡ Some Both → LeadsBoth os
  LeadsBoth-first os e = subst (λ (rs : List Run). Leads rs os) (cons-from_slice_get Both (runs_of os) e) (Leads-runs_of os)

  -- where there is no first run there is no owner
  pub nil-from_no_run : (os : List (Owner K)) → slice_get (runs_of os) 0 ≡ None → os ≡ []
  nil-from_no_run os e = subst (λ (rs : List Run). Leads rs os) (nil-from_slice_get (runs_of os) e) (Leads-runs_of os)

  -- owners of the left, before some that begin with no such one, are the first run
  pub runs_of-map_left_only : (x : K) (xs : List K) (os : List (Owner K)) → NotLeft os →
      runs_of (map left_only (x ∷ xs) ++ os) ≡ Left (length (x ∷ xs)) ∷ runs_of os
  unfolding runs_of
  runs_of-map_left_only x [] os h = h x
  runs_of-map_left_only x (z ∷ xs) os h =
      ap (λ (rs : List Run). joined (left_only x) rs) (runs_of-map_left_only z xs os h)
      ∙ ap (λ (k : ℕ). Left k ∷ runs_of os) (add-one (length (z ∷ xs)))

  -- owners of the right, before some that begin with no such one, are the first run
  pub runs_of-map_right_only : (x : K) (xs : List K) (os : List (Owner K)) → NotRight os →
      runs_of (map right_only (x ∷ xs) ++ os) ≡ Right (length (x ∷ xs)) ∷ runs_of os
  unfolding runs_of
  runs_of-map_right_only x [] os h = h x
  runs_of-map_right_only x (z ∷ xs) os h =
      ap (λ (rs : List Run). joined (right_only x) rs) (runs_of-map_right_only z xs os h)
      ∙ ap (λ (k : ℕ). Right k ∷ runs_of os) (add-one (length (z ∷ xs)))
