-- What the first run of two lists that ascend says of them.
--     first_left, first_right, first_both     the first run's items, the owners, and the rest
--     first_none                              no run: both lists are empty
use Rattle.std.proofs.Common.{◌≡◌, refl, ap, ap₂, sym, ◌∙◌, subst, ℕ, ◌+◌, ◌≤◌, List, [], ◌∷◌, ◌++◌, length, map, take, drop, slice_get, Some, None, arith}
use Rattle.std.specs.Cmp.{IsTotalOrder}
use Rattle.std.proofs.lemmas.List.Elements.{All-drop}
use Rattle.std.specs.declared.cmp.Ordering.{Ordering}
use Rattle.std.specs.declared.cmp.Ordering.TheVariants.{Equal}
use Rattle.range_merge.specs.Boundaries.{IsAscending}
use Rattle.range_merge.specs.Owners.{Owner, left_only, right_only, shared, left_items, right_items, IsShare, IsOwners, owners}
use Rattle.range_merge.specs.Runs.{digits, run_len, runs_of, weight_of, runs, weight}
use Rattle.range_merge.specs.declared.runs.Run.{Run}
use Rattle.range_merge.specs.declared.runs.Run.TheVariants.{Left, Right, Both}
use Rattle.range_merge.proofs.Pairs.{AllPairs-drop}
use Rattle.range_merge.proofs.OwnersLemmas.{Ascends, IsOwners-tail, IsOwners-share, IsOwners-owners}
use Rattle.range_merge.proofs.OwnersUnique.{owners-unique}
use Rattle.range_merge.proofs.Digits.{weight_of-cons}
use Rattle.range_merge.proofs.RunsLemmas.{LeadsLeft, LeadsRight, LeadsLeft-first, LeadsRight-first, LeadsBoth-first, nil-from_no_run}

-- the first run is of the first n of a
pub record FirstLeft {K : Type 0} (order : K → K → Ordering) (a b : List K) (n : ℕ) : Type 0 where
  pub some : 1 ≤ n
  pub within : n ≤ length a
  pub owners_are : owners order a b ≡ map left_only (take n a) ++ owners order (drop n a) b
  pub weight_is : weight order a b ≡ digits n + weight order (drop n a) b

-- the first run is of the first n of b
pub record FirstRight {K : Type 0} (order : K → K → Ordering) (a b : List K) (n : ℕ) : Type 0 where
  pub some : 1 ≤ n
  pub within : n ≤ length b
  pub owners_are : owners order a b ≡ map right_only (take n b) ++ owners order a (drop n b)
  pub weight_is : weight order a b ≡ digits n + weight order a (drop n b)

-- the first run is of the first of each, which are equal
pub record FirstBoth {K : Type 0} (order : K → K → Ordering) (a b : List K) : Type 0 where
  pub left_item : K
  pub right_item : K
  pub left_is : a ≡ left_item ∷ drop 1 a
  pub left_some : 1 ≤ length a
  pub right_some : 1 ≤ length b
  pub equal : order left_item right_item ≡ Equal
  pub owners_are : owners order a b ≡ shared left_item right_item ∷ owners order (drop 1 a) (drop 1 b)
  pub weight_is : weight order a b ≡ 1 + weight order (drop 1 a) (drop 1 b)

pub digits-one : digits 1 ≡ 1
unfolding digits
digits-one = refl

module _ {K : Type 0} {order : K → K → Ordering} (o : IsTotalOrder order) where
  -- the owners after the first few are those of the rests
  after : (n : ℕ) (a b a' b' : List K) → IsOwners order a b (owners order a b) →
      left_items (drop n (owners order a b)) ≡ a' → right_items (drop n (owners order a b)) ≡ b' → drop n (owners order a b) ≡ owners order a' b'
  after n a b a' b' h lefts rights = owners-unique o a' b' (drop n (owners order a b)) (record {
    ascend = AllPairs-drop (Ascends order) n (owners order a b) h.ascend;
    lefts = lefts;
    rights = rights;
    equal = All-drop (IsShare order) n (owners order a b) h.equal;
  })

  -- what the lists weigh, by their first run
  weighs : (run : Run) (a b a' b' : List K) (rest : List (Owner K)) → runs order a b ≡ run ∷ runs_of rest → rest ≡ owners order a' b' →
      weight order a b ≡ digits (run_len run) + weight order a' b'
  weighs run a b a' b' rest first is =
      ap weight_of (first ∙ ap (λ (os : List (Owner K)). run ∷ runs_of os) is) ∙ weight_of-cons run (runs order a' b')

  FirstLeft-from_leads : (a b : List K) (n : ℕ) → IsOwners order a b (owners order a b) → LeadsLeft (owners order a b) n → FirstLeft order a b n
  FirstLeft-from_leads a b n h s =
      let rest = after n a b (drop n a) b h (s.lefts ∙ ap (drop n) h.lefts) (s.rights ∙ h.rights) in
      record {
        some = s.some;
        within = omega (arith, s.within, ap length h.lefts);
        owners_are = s.split ∙ ap₂ (λ (xs : List K) (os : List (Owner K)). map left_only (take n xs) ++ os) h.lefts rest;
        weight_is = weighs (Left n) a b (drop n a) b _ s.runs rest;
      }

  FirstRight-from_leads : (a b : List K) (n : ℕ) → IsOwners order a b (owners order a b) → LeadsRight (owners order a b) n → FirstRight order a b n
  FirstRight-from_leads a b n h s =
      let rest = after n a b a (drop n b) h (s.lefts ∙ h.lefts) (s.rights ∙ ap (drop n) h.rights) in
      record {
        some = s.some;
        within = omega (arith, s.within, ap length h.rights);
        owners_are = s.split ∙ ap₂ (λ (ys : List K) (os : List (Owner K)). map right_only (take n ys) ++ os) h.rights rest;
        weight_is = weighs (Right n) a b a (drop n b) _ s.runs rest;
      }

  -- the list whose owners begin with a shared one
  FirstBoth-from_owners : (a b : List K) (x y : K) (os : List (Owner K)) → IsOwners order a b (shared x y ∷ os) →
      owners order a b ≡ shared x y ∷ os → runs_of (owners order a b) ≡ Both ∷ runs_of os → FirstBoth order a b
  FirstBoth-from_owners a b x y os h e r =
      let good = IsOwners-tail order a b (shared x y) os h in
      let rest : os ≡ owners order (drop 1 a) (drop 1 b) =
      owners-unique o (drop 1 a) (drop 1 b) os (record {
        ascend = good.ascend;
        lefts = ap (λ (xs : List K). drop 1 xs) h.lefts;
        rights = ap (λ (ys : List K). drop 1 ys) h.rights;
        equal = good.equal;
      }) in
      record {
        left_item = x;
        right_item = y;
        left_is = subst (λ (xs : List K). xs ≡ x ∷ drop 1 xs) h.lefts refl;
        left_some = subst (λ (xs : List K). 1 ≤ length xs) h.lefts (omega arith);
        right_some = subst (λ (ys : List K). 1 ≤ length ys) h.rights (omega arith);
        equal = IsOwners-share order a b (shared x y) os h;
        owners_are = e ∙ ap (λ (ps : List (Owner K)). shared x y ∷ ps) rest;
        weight_is = weighs Both a b (drop 1 a) (drop 1 b) os r rest ∙ ap (λ (k : ℕ). k + weight order (drop 1 a) (drop 1 b)) digits-one;
      }

  module _ (a b : List K) (up : IsAscending order a) (vp : IsAscending order b) where
    pub first_left : (n : ℕ) → slice_get (runs order a b) 0 ≡ Some (Left n) → FirstLeft order a b n
    first_left n e = FirstLeft-from_leads a b n (IsOwners-owners o a b up vp) (LeadsLeft-first (owners order a b) n e)

    pub first_right : (n : ℕ) → slice_get (runs order a b) 0 ≡ Some (Right n) → FirstRight order a b n
    first_right n e = FirstRight-from_leads a b n (IsOwners-owners o a b up vp) (LeadsRight-first (owners order a b) n e)

    pub first_both : slice_get (runs order a b) 0 ≡ Some Both → FirstBoth order a b
    first_both e =
        let s = LeadsBoth-first (owners order a b) e in
        FirstBoth-from_owners a b s.left_item s.right_item (drop 1 (owners order a b))
        (subst (λ (os : List (Owner K)). IsOwners order a b os) s.split (IsOwners-owners o a b up vp)) s.split s.runs

    pub first_none : slice_get (runs order a b) 0 ≡ None → (a ≡ []) × (b ≡ [])
    first_none e =
        let h = IsOwners-owners o a b up vp in
        let none = nil-from_no_run (owners order a b) e in
        (sym h.lefts ∙ ap (λ (os : List (Owner K)). left_items os) none, sym h.rights ∙ ap (λ (os : List (Owner K)). right_items os) none)
