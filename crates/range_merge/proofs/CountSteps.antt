-- Steps of a read that counts: how many items they put out, and how far the read came.
--     Counts-step, Counts-then      one step, and steps after others
--     Counts-looked, Counts-window  four steps and a look, and steps in windows of two lists
--     Reached, CameTo               how far a read came at a look, and after some
--     Progress-counted              what was counted, with what was counted before
use Rattle.std.proofs.Common.{◌≡◌, refl, ap, sym, ℕ, ◌+◌, ◌<◌, Bool, true, false, cond, List, [], ◌∷◌, ◌++◌, length, take, drop, Some, inl, inr, arith}
use mir.Val.{bool_byte}
use Rattle.std.specs.List.{AllZip}
use Rattle.std.proofs.lemmas.List.{length-append, length-drop, length-map, length-take-le}
use Rattle.std.proofs.lemmas.List.Elements.{length_all_zip}
use Rattle.std.specs.Ordering.{is_le}
use Rattle.std.specs.declared.cmp.Ordering.{Ordering}
use Rattle.std.specs.declared.cmp.Ordering.TheVariants.{Less, Equal, Greater}
use Rattle.std.specs.Cmp.{IsTotalOrder}
use Rattle.range_merge.specs.Boundaries.{IsAscending, is_odd}
use Rattle.range_merge.specs.Counted.{Counts, IsCounted}
use Rattle.range_merge.specs.Changes.{taken_item, taken_items}
use Rattle.range_merge.specs.Connective.{Table}
use Rattle.range_merge.specs.Copies.{IsAppended, items_if}
use Rattle.range_merge.specs.Stages.{Progress}
use Rattle.range_merge.specs.ShortRuns.{lefts_of, rights_of, IsLong, Place, place, Then, IsStep, AreFour, IsLooked, AreSixteen}
use Rattle.range_merge.specs.OneRun.{FirstsStand, one_of_run, takes}
use Rattle.range_merge.proofs.CopySteps.{Reads, Reads-start}
use Rattle.range_merge.proofs.EvenSteps.{AreSixteen-window, Came, Came-sixteen}
use Rattle.range_merge.proofs.Works.{Progress-put}

module _ {K : Type 0} where
  alike-same : (xs : List K) → AllZip (λ x y. x ≡ y) xs xs
  alike-same [] = tt
  alike-same (x ∷ xs) = (refl, alike-same xs)

  -- the items themselves, put behind others
  themselves : (items old : List K) → IsAppended (λ x y. x ≡ y) items old (old ++ items)
  themselves items old = record { copies = items; alike_to = alike-same items; appended = refl }

  length-items_if : (t : Bool) (items : List K) → length items ≡ 1 → length (items_if t items) ≡ bool_byte t
  length-items_if true items one = one
  length-items_if false items one = refl

  -- a step reads one item
  length-one : (how : Ordering) (l r : List K) → 0 < length l → 0 < length r → length (take 1 (cond (is_le how) l r)) ≡ 1
  length-one Less l r lefts rights = length-take-le 1 l lefts
  length-one Equal l r lefts rights = length-take-le 1 l lefts
  length-one Greater l r lefts rights = length-take-le 1 r rights

  pub Counts-then : {R S : Place K → Place K → Type 0} {k k1 k' : ℕ} {from mid to : List K → Place K} → Counts R k k1 from mid → Counts S k1 k' mid to → Counts (Then R S) k k' from to
  Counts-then {mid} r s = λ out len.
      let one = r out len in
      let two = s one.out one.len in
      record { out = two.out; len = two.len; steps = record { mid = mid one.out; first = one.steps; rest = two.steps } }

module _ {K : Type 0} (order : K → K → Ordering) (f : Table) (a b : List K) where
  -- a step counts an item, if it is taken
  pub Counts-step : (i j : ℕ) {k : ℕ} {how : Ordering} {long : Bool} {made i' j' k' : ℕ} {next : Ordering} {long' : Bool} {made' : ℕ} (taken : Bool)
      → i < length a → j < length b → i' ≡ i + lefts_of how → j' ≡ j + rights_of how → taken ≡ takes f (is_odd i) (is_odd j) (one_of_run how) → k' ≡ k + bool_byte taken
      → FirstsStand order (drop i' a) (drop j' b) (Some next) → made' ≡ made + 1
      → Counts (IsStep (λ x y. x ≡ y) order f a b) k k' (λ out. place i j out how long made) (λ out. place i' j' out next long' made')
  Counts-step i j {how} taken left_some right_some lefts rights same k_is stands counted = λ out len.
      let wanted : Bool = takes f (is_odd i) (is_odd j) (one_of_run how) in
      let firsts : List K = take 1 (cond (is_le how) (drop i a) (drop j b)) in
      let many : length (items_if wanted firsts) ≡ bool_byte wanted =
      length-items_if wanted firsts (length-one how (drop i a) (drop j b) (omega (arith, length-drop i a, left_some)) (omega (arith, length-drop j b, right_some))) in
      record {
        out = out ++ items_if wanted firsts;
        len = omega (arith, length-append out (items_if wanted firsts), len, many, k_is, ap bool_byte same);
        steps = record {
          left_some = left_some;
          right_some = right_some;
          lefts = lefts;
          rights = rights;
          put = themselves (items_if wanted firsts) out;
          stands = stands;
          counted = counted;
        };
      }

  IsStep-from : (long : Bool) (x y : Place K) → IsStep (λ x y. x ≡ y) order f a b x y → IsStep (λ x y. x ≡ y) order f a b (place x.i x.j x.out x.next long x.made) y
  IsStep-from long x y s = record {
    left_some = s.left_some;
    right_some = s.right_some;
    lefts = s.lefts;
    rights = s.rights;
    put = s.put;
    stands = s.stands;
    counted = s.counted;
  }

  IsStep-to : (long : Bool) (x y : Place K) → IsStep (λ x y. x ≡ y) order f a b x y → IsStep (λ x y. x ≡ y) order f a b x (place y.i y.j y.out y.next long y.made)
  IsStep-to long x y s = record {
    left_some = s.left_some;
    right_some = s.right_some;
    lefts = s.lefts;
    rights = s.rights;
    put = s.put;
    stands = s.stands;
    counted = s.counted;
  }

  -- four steps, whatever is said of a run before and after them
  AreFour-marked : (long long' : Bool) (x y : Place K) → AreFour (λ x y. x ≡ y) order f a b x y
      → AreFour (λ x y. x ≡ y) order f a b (place x.i x.j x.out x.next long x.made) (place y.i y.j y.out y.next long' y.made)
  AreFour-marked long long' x y s = record {
    mid = s.mid;
    first = IsStep-from long x s.mid s.first;
    rest = record {
      mid = s.rest.mid;
      first = s.rest.first;
      rest = record { mid = s.rest.rest.mid; first = s.rest.rest.first; rest = IsStep-to long' s.rest.rest.mid y s.rest.rest.rest };
    };
  }

  pub Counts-looked : {i j k : ℕ} {how : Ordering} {long : Bool} {made i' j' k' : ℕ} {next : Ordering} {long' : Bool} {made' : ℕ} → long ≡ false
      → (long' ≡ false → IsLong next i j i' j' → ⊥)
      → Counts (AreFour (λ x y. x ≡ y) order f a b) k k' (λ out. place i j out how false made) (λ out. place i' j' out next false made')
      → Counts (IsLooked (λ x y. x ≡ y) order f a b) k k' (λ out. place i j out how long made) (λ out. place i' j' out next long' made')
  Counts-looked {i} {j} {how} {long} {made} {i'} {j'} {next} {long'} {made'} short ends four = λ out len.
      let so = four out len in
      record {
        out = so.out;
        len = so.len;
        steps = inr (short, AreFour-marked long long' (place i j out how false made) (place i' j' so.out next false made') so.steps, ends);
      }

  -- a run was long before
  pub Counts-long : {i j k : ℕ} {how : Ordering} {long : Bool} {made : ℕ} → long ≡ true
      → Counts (IsLooked (λ x y. x ≡ y) order f a b) k k (λ out. place i j out how long made) (λ out. place i j out how long made)
  Counts-long is_long = λ out len. record { out = out; len = len; steps = inl (is_long, refl) }

  -- steps in windows are those of the lists
  pub Counts-window : (n n' : ℕ) {i j k : ℕ} {how : Ordering} {long : Bool} {made i' j' k' : ℕ} {next : Ordering} {long' : Bool} {made' : ℕ}
      → Counts (AreSixteen (λ x y. x ≡ y) order f (take n a) (take n' b)) k k' (λ out. place i j out how long made) (λ out. place i' j' out next long' made')
      → Counts (AreSixteen (λ x y. x ≡ y) order f a b) k k' (λ out. place i j out how long made) (λ out. place i' j' out next long' made')
  Counts-window n n' {i} {j} {how} {long} {made} {i'} {j'} {next} {long'} {made'} steps = λ out len.
      let so = steps out len in
      record {
        out = so.out;
        len = so.len;
        steps = AreSixteen-window (λ x y. x ≡ y) order f a b n n' [] (place i j out how long made) (place i' j' so.out next long' made') so.steps;
      }

module _ {K : Type 0} (order : K → K → Ordering) (f : Table) (a b : List K) (i0 j0 count0 : ℕ) where
  -- how far a read came at a look, where k items are put out
  pub record Reached (i j k count : ℕ) (next : Ordering) : Type 0 where
    pub out : List K
    pub len : length out ≡ k
    pub reads : Reads (λ x y. x ≡ y) order f a b i0 j0 count0 0 i j i j out count next

  -- and after some looks, in lists that begin at p and q
  pub record CameTo (p q k : ℕ) (to : List K → Place K) : Type 0 where
    pub out : List K
    pub len : length out ≡ k
    pub came : Came (λ x y. x ≡ y) order f a b i0 j0 count0 p q (to out)

  pub CameTo-sixteen : (p q : ℕ) → IsTotalOrder order → IsAscending order (drop i0 a) → IsAscending order (drop j0 b) → is_odd p ≡ false → is_odd q ≡ false
      → {i j k made k' : ℕ} {next : Ordering} {to : List K → Place K} → Reached (p + i) (q + j) k made next
      → Counts (AreSixteen (λ x y. x ≡ y) order f (drop p a) (drop q b)) k k' (λ out. place i j out next false made) to → CameTo p q k' to
  CameTo-sixteen p q o a_ascends b_ascends p_even q_even {i} {j} {k} {made} {k'} {next} {to} w steps =
      let so = steps w.out w.len in
      record {
        out = so.out;
        len = so.len;
        came = Came-sixteen (λ x y. x ≡ y) order f a b i0 j0 count0 p q o a_ascends b_ascends p_even q_even (place i j w.out next false made) (to so.out) w.reads so.steps;
      }

-- nothing was counted
pub IsCounted-none : {K : Type 0} (order : K → K → Ordering) (f : Table) (a b : List K) (i j k : ℕ) (next : Ordering) → FirstsStand order (drop i a) (drop j b) (Some next) → k ≡ 0
    → IsCounted order f a b i j i j k next
IsCounted-none order f a b i j k next stands none = record { out = []; len = sym none; read = (Reads-start (λ x y. x ≡ y) order f a b i j 0 next stands).read }

-- what was counted, with what was counted before
pub Progress-counted : {K : Type 0} (order : K → K → Ordering) (f : Table) (a b : List K) (i0 j0 i j k was : ℕ) {next : Ordering} → IsCounted order f a b i0 j0 i j k next
    → Progress order f false (drop i0 a) (drop j0 b) (is_odd i0) (is_odd j0) (λ ts. was ≡ length ts) (drop i a) (drop j b) (is_odd i) (is_odd j) (λ ts. was + k ≡ length ts)
Progress-counted order f a b i0 j0 i j k was w =
    Progress-put (λ x y. x ≡ y) order f (λ ts. was ≡ length ts) (λ ts. was + k ≡ length ts) w.out
    (λ before ts same so_far.
    omega (arith, so_far, length-append before ts, length-map ts taken_item, length_all_zip (λ x y. x ≡ y) (taken_items ts) w.out same, w.len))
    w.read.progress
