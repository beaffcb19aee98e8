-- A walk through ranges, of which those that are read are too short, and what it says of the set
-- whose gaps or ranges they are.
use Rattle.std.proofs.Common.{◌≡◌, refl, sym, ap, ◌∙◌, subst, ℕ, inl, inr, ◌<◌, ◌≤◌, ◌+◌, ◌-◌, ◌%◌, ◌==◌, suc, Bool, true, false, not, ◌&&◌, cond, List, [], ◌∷◌, length, arith}
use Rattle.std.specs.Cmp.{IsTotalOrder, ranks}
use Rattle.std.proofs.lemmas.Cmp.{by_ranked}
use Rattle.std.specs.Ordering.{is_le, is_lt, nat_cmp, ord_max}
use Rattle.std.specs.declared.cmp.Ordering.{Ordering}
use Rattle.std.proofs.lemmas.Bool.{cases_lt, true≢false}
use Rattle.range_merge.specs.Boundaries.{IsAscending, is_odd, member}
use Rattle.range_merge.specs.Connective.{Means, Table, difference_table, intersection_table}
use Rattle.range_collections.specs.Ranges.{range_items}
use Rattle.range_collections.specs.Within.{within_table}
use Rattle.range_collections.specs.Fits.{IsLeastFit, IsOneOf, IsFit, IsStopped}
use Rattle.range_collections.specs.declared.countable.multiples.Multiples.{Multiples}
use Rattle.range_collections.specs.declared.questions.first_fit.Fit.{Fit}
use Rattle.range_collections.proofs.Counted.{place-less}
use Rattle.range_collections.proofs.NextMultiple.{each_multiple}
use Rattle.range_collections.proofs.PartsLaws.{member-range_items}
use Rattle.range_collections.proofs.Fitting.{IsUnread, IsUnread-next, IsFit-front, fit_from, IsFit-members, fit-nil, member-before, up_to-value, IsFit-from_parts, IsFit-to_parts, from_not, to_not}

-- an even number of boundaries less the first two is even
pub is_even-two : {K : Type 0} (unread rest : List K) (s e : K) → unread ≡ s ∷ e ∷ rest → is_odd (length unread) ≡ false → is_odd (length rest) ≡ false
is_even-two unread rest s e split even =
    let two = ap (λ xs. is_odd (length xs)) split in
    odd_twice (length rest) ∙ sym two ∙ even
  where
    odd_twice : (n : ℕ) → is_odd n ≡ is_odd (suc (suc n))
    odd_twice n = ap (λ k. k == 1) (let same : n % 2 ≡ suc (suc n) % 2 = omega arith in same)

-- each place, as a multiple of 1
abbrev pub each : Multiples
each = record { of = 1; zero = 0 }

-- what is longer than the longest range that was read is still there, and so are `count` values from one
-- of the multiples on
pub record IsWalked {K : Type 0} (order : K → K → Ordering) (value : ℕ → K) (place : K → ℕ) (total count : ℕ) (m : Multiples) (most : ℕ) (gaps unread : List K) : Type 0 where
  pub fits : IsUnread order value place total count m gaps unread
  pub longer : (n : ℕ) → most < n → IsUnread order value place total n each gaps unread

-- the greater of two numbers is at least each
pub greater : (a b : ℕ) → (a ≤ ord_max nat_cmp a b) × (b ≤ ord_max nat_cmp a b)
greater a b =
    by_ranked (b < a) (b ≡ a) (a < b) (nat_cmp b a) (ranks b a)
    (λ e low. subst (λ r. (a ≤ cond (is_lt r) a b) × (b ≤ cond (is_lt r) a b)) (sym e) (omega arith, omega (arith, low)))
    (λ e same. subst (λ r. (a ≤ cond (is_lt r) a b) × (b ≤ cond (is_lt r) a b)) (sym e) (omega (arith, same), omega arith))
    (λ e more. subst (λ r. (a ≤ cond (is_lt r) a b) × (b ≤ cond (is_lt r) a b)) (sym e) (omega (arith, more), omega arith))

module _ {K : Type 0} (order : K → K → Ordering) (value : ℕ → K) (place : K → ℕ) (total count : ℕ) (m : Multiples) where
  pub none-walked : (most : ℕ) (gaps : List K) → 0 < count → IsWalked order value place total count m most gaps [] →
      (at : ℕ) → IsOneOf m at → IsFit order value true gaps 0 total count at → ⊥
  none-walked most gaps some it at even fit = fit-nil order value total count at some (it.fits.fits at even fit)

module _ {K : Type 0} {order : K → K → Ordering} (o : IsTotalOrder order) (is_value : K → Type 0) (value : ℕ → K) (place : K → ℕ) (total : ℕ)
    (value_is_value : (n : ℕ) → n < total → is_value (value n))
    (place_of_value : (n : ℕ) → n < total → place (value n) ≡ n)
    (place_fits : (x : K) → is_value x → place x < total)
    (in_order : (x y : K) → is_value x → is_value y → order x y ≡ nat_cmp (place x) (place y)) where
  module _ (count : ℕ) (m : Multiples) (most : ℕ) (some : 0 < count) (gaps unread : List K) (it : IsWalked order value place total count m most gaps unread)
      (s e : K) (rest : List K) (v : is_value s) (w : is_value e) (split : unread ≡ s ∷ e ∷ rest) where
    up : IsAscending order (s ∷ e ∷ rest)
    up = subst (IsAscending order) split it.fits.sorted

    rises : place s < place e
    rises = place-less o is_value value place total value_is_value place_of_value place_fits in_order s e v w (up 0 1 s (omega arith) (omega arith))

    front : (n at : ℕ) → place s ≤ at → at + n ≤ place e → IsFit order value true gaps 0 total n at
    front n at a z =
        IsFit-members order value total unread gaps it.fits.members n at
        (subst (λ l. IsFit order value true l 0 total n at) (sym split)
        (IsFit-front o is_value value place total value_is_value place_of_value place_fits in_order s e rest v w up n at a z))

    -- a range that is long enough
    pub IsLeastFit-found : (at : ℕ) → (place s ≤ at) × (at + count ≤ place e) → IsOneOf m at → ((n : ℕ) → IsOneOf m n → place s ≤ n → at ≤ n) →
        IsLeastFit order value place true gaps 0 total count m (record { start = s; place = at })
    IsLeastFit-found at fits even least = record {
      fit = front count at fits.0 fits.1;
      aligned = even;
      least = λ n even fit.
          least n even
          (fit_from o is_value value place total value_is_value place_of_value place_fits in_order s e rest v w up count n some
          (subst (λ l. IsFit order value true l 0 total count n) split (it.fits.fits n even fit)));
      begins = λ one.
          let same : place s ≡ at = omega (arith, fits.0, least (place s) (each_multiple m one (place s)) (omega arith)) in
          same;
    }

    -- a range that is too short is passed
    module _ (longest : ℕ) (more : most ≤ longest) (long : place e ≤ place s + longest)
        (short : (at : ℕ) → IsOneOf m at → place s ≤ at → place e < at + count) where
      pub IsWalked-next : IsWalked order value place total count m longest gaps rest
      IsWalked-next = record {
        fits = IsUnread-next o is_value value place total value_is_value place_of_value place_fits in_order s e rest v w up count m some gaps unread split it.fits short;
        longer = λ n past.
            IsUnread-next o is_value value place total value_is_value place_of_value place_fits in_order s e rest v w up n each (omega (arith, past)) gaps unread split
            (it.longer n (omega (arith, more, past)))
            (λ at even from. omega (arith, from, long, past));
      }

      -- a walk that stops behind it
      pub IsStopped-here : IsStopped order value place total gaps count m e longest
      IsStopped-here = record {
        longer = λ n at past fit. behind n at (omega (arith, past)) ((IsWalked-next.longer n past).fits at (each_multiple each refl at) fit);
        above = λ at even fit. behind count at some (IsWalked-next.fits.fits at even fit);
        last = front 1 (place e - 1) (omega (arith, rises)) (omega (arith, rises));
        positive = omega (arith, rises);
      }
        where
          after_end : IsAscending order (e ∷ rest)
          after_end i j d less within = up (suc i) (suc j) d (omega (arith, less)) (omega (arith, within))

          behind : (n at : ℕ) → 0 < n → IsFit order value true rest 0 total n at → place e ≤ at
          behind n at past r =
              elim (cases_lt at (place e)) as (λ _. place e ≤ at) [
                | inl low ↦
                    let less : at < total = omega (arith, low, place_fits e w) in
                    absurd (true≢false (sym (r.alike at (omega arith) (omega (arith, past)))
                    ∙ member-before o e rest after_end (value at)
                    (up_to-value o is_value value place total value_is_value place_of_value place_fits in_order e at w less (omega (arith, low)))))
                | inr fine ↦ fine
              ]

  -- values in a row between two ends, which are in a set if `inside`, or else not in it, are members
  -- of such parts of the range
  module _ (start end : K) (items parts : List K) (v : is_value start) (w : is_value end) where
    members_of : (f : Table) → Means order f parts (range_items order start end) items → (x : K) → member order parts x ≡ f (is_le (order start x) && is_lt (order x end)) (member order items x)
    members_of f means x = means.members x ∙ ap (λ t. f t (member order items x)) (member-range_items o start end x)

    pub to_parts : (inside : Bool) → Means order (within_table inside) parts (range_items order start end) items → (count at : ℕ) →
        IsFit order value inside items (place start) (place end) count at → IsFit order value true parts 0 total count at
    to_parts true means count at fit =
        IsFit-to_parts o is_value value place total value_is_value place_of_value place_fits in_order items parts start end v w true (λ b. b) (λ b e. e) (λ b e. e)
        (members_of intersection_table means) count at fit
    to_parts false means count at fit =
        IsFit-to_parts o is_value value place total value_is_value place_of_value place_fits in_order items parts start end v w false not from_not to_not
        (members_of difference_table means) count at fit

    pub from_parts : (inside : Bool) → Means order (within_table inside) parts (range_items order start end) items → (count at : ℕ) → 0 < count →
        IsFit order value true parts 0 total count at → IsFit order value inside items (place start) (place end) count at
    from_parts true means count at some fit =
        IsFit-from_parts o is_value value place total value_is_value place_of_value place_fits in_order items parts start end v w true (λ b. b) (λ b e. e) (λ b e. e)
        (members_of intersection_table means) count at some fit
    from_parts false means count at some fit =
        IsFit-from_parts o is_value value place total value_is_value place_of_value place_fits in_order items parts start end v w false not from_not to_not
        (members_of difference_table means) count at some fit

    module _ (inside : Bool) (means : Means order (within_table inside) parts (range_items order start end) items) (count : ℕ) (m : Multiples) where
      pub IsLeastFit-parts : (r : Fit K) → 0 < count → IsLeastFit order value place true parts 0 total count m r →
          IsLeastFit order value place inside items (place start) (place end) count m r
      IsLeastFit-parts r some it = record {
        fit = from_parts inside means count r.place some it.fit;
        aligned = it.aligned;
        least = λ at even fit. it.least at even (to_parts inside means count at fit);
        begins = it.begins;
      }

      pub none-parts : ((at : ℕ) → IsOneOf m at → IsFit order value true parts 0 total count at → ⊥) →
          (at : ℕ) → IsOneOf m at → IsFit order value inside items (place start) (place end) count at → ⊥
      none-parts none at even fit = none at even (to_parts inside means count at fit)

-- no values in a row begin at the first multiple between the ends
module _ {K : Type 0} (order : K → K → Ordering) (value : ℕ → K) (place : K → ℕ) (inside : Bool) (items : List K) (start end : K) (count : ℕ) (m : Multiples) where
  pub IsLeastFit-nothing : count ≡ 0 → (at : ℕ) → (place start ≤ at) × (at + 0 ≤ place end) → IsOneOf m at → ((n : ℕ) → IsOneOf m n → place start ≤ n → at ≤ n) →
      IsLeastFit order value place inside items (place start) (place end) count m (record { start = start; place = at })
  IsLeastFit-nothing none at fits even least = record {
    fit = record { from = fits.0; up_to = omega (arith, fits.1, none); alike = λ k a b. absurd (omega (arith, a, b, none)) };
    aligned = even;
    least = λ n even fit. least n even fit.from;
    begins = λ one. omega (arith, fits.0, least (place start) (each_multiple m one (place start)) (omega arith));
  }
