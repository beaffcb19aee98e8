-- Members one by one, each by a search from the one before it.
use Rattle.std.proofs.Common.{◌≡◌, refl, sym, ap, ap₂, ◌∙◌, subst, ℕ, suc, inl, inr, ◌<◌, ◌≤◌, ◌+◌, ◌-◌, true, false, not, List, [], ◌∷◌, ◌++◌, arith}
use Rattle.std.specs.Cmp.{IsTotalOrder, ranks}
use Rattle.std.specs.Ordering.{is_le, nat_cmp}
use Rattle.std.specs.declared.cmp.Ordering.{Ordering}
use Rattle.std.specs.declared.cmp.Ordering.TheVariants.{Less, Equal}
use Rattle.std.proofs.lemmas.Bool.{cases_lt, true≢false}
use Rattle.std.proofs.lemmas.Cmp.{by_ranked}
use Rattle.std.proofs.lemmas.List.{append-nil}
use Rattle.range_merge.specs.Boundaries.{member}
use Rattle.range_collections.specs.Extent.{IsNext}
use Rattle.range_collections.specs.Members.{members_of, IsPrevious}
use Rattle.range_collections.proofs.MembersOf.{members_of-zero, members_of-in, members_of-skip, members_of-none, members_of-append}
use Rattle.range_collections.proofs.Ranked.{place-le}
use Rattle.range_chunks.specs.Members.{AreOuter}
use Rattle.range_chunks.proofs.Bounded.{member-equal}

module _ {K : Type 0} (order : K → K → Ordering) (value : ℕ → K) (items : List K) where
  pub one_member : (first last : ℕ) → first ≤ last → last ≤ first → member order items (value first) ≡ true →
      members_of order value items first (suc last - first) ≡ value first ∷ []
  one_member first last a b m =
      let one : suc last - first ≡ suc 0 = omega (arith, a, b) in
      ap (members_of order value items first) one ∙ members_of-in order value items first 0 m
      ∙ ap (λ l. value first ∷ l) (members_of-zero order value items (first + 1))

  pub one_member-last : (first last : ℕ) → first ≤ last → last ≤ first → member order items (value last) ≡ true →
      members_of order value items first (suc last - first) ≡ [] ++ value last ∷ []
  one_member-last first last a b m =
      let one : suc last - first ≡ suc 0 = omega (arith, a, b) in
      let same : first ≡ last = omega (arith, a, b) in
      ap₂ (members_of order value items) same one ∙ members_of-in order value items last 0 m
      ∙ ap (λ l. value last ∷ l) (members_of-zero order value items (last + 1))

  pub members-above : (first last q : ℕ) → first < q → q ≤ last → member order items (value first) ≡ true →
      ((k : ℕ) → first + 1 ≤ k → k < q → member order items (value k) ≡ false) →
      members_of order value items first (suc last - first) ≡ value first ∷ members_of order value items q (suc last - q)
  members-above first last q far within m off =
      let more : suc last - first ≡ suc ((q - (first + 1)) + (suc last - q)) = omega (arith, far, within) in
      ap (members_of order value items first) more
      ∙ members_of-in order value items first ((q - (first + 1)) + (suc last - q)) m
      ∙ ap (λ l. value first ∷ l) (members_of-skip order value items (q - (first + 1)) (first + 1) q (suc last - q) (omega (arith, far)) off)

  pub members-below : (first last q : ℕ) → first ≤ q → q < last → member order items (value last) ≡ true →
      ((k : ℕ) → q < k → k < last → member order items (value k) ≡ false) →
      members_of order value items first (suc last - first) ≡ members_of order value items first (suc q - first) ++ value last ∷ []
  members-below first last q within far m off =
      let parts : suc last - first ≡ (suc q - first) + ((last - suc q) + suc 0) = omega (arith, far, within) in
      ap (members_of order value items first) parts
      ∙ members_of-append order value items first (suc q - first) ((last - suc q) + suc 0) (suc q) (omega (arith, within))
      ∙ ap (λ l. members_of order value items first (suc q - first) ++ l)
      (members_of-skip order value items (last - suc q) (suc q) last (suc 0) (omega (arith, far)) (λ k low less. off k (omega (arith, low)) less)
      ∙ members_of-in order value items last 0 m
      ∙ ap (λ l. value last ∷ l) (members_of-zero order value items (last + 1)))

  pub members-outer : (count first last : ℕ) → first ≤ last → last < count →
      ((k : ℕ) → 0 ≤ k → k < first → member order items (value k) ≡ false) →
      ((k : ℕ) → last < k → k < count → member order items (value k) ≡ false) →
      members_of order value items 0 count ≡ members_of order value items first (suc last - first)
  members-outer count first last a b low high =
      let parts : count ≡ first + ((suc last - first) + (count - suc last)) = omega (arith, a, b) in
      ap (members_of order value items 0) parts
      ∙ members_of-skip order value items first 0 first ((suc last - first) + (count - suc last)) (omega arith) low
      ∙ members_of-append order value items first (suc last - first) (count - suc last) (suc last) (omega (arith, a))
      ∙ ap (λ l. members_of order value items first (suc last - first) ++ l)
      (members_of-none order value items (suc last) (count - suc last) (λ k far less. high k (omega (arith, far)) (omega (arith, less, b))))
      ∙ append-nil (members_of order value items first (suc last - first))

nat_cmp-Equal : (n : ℕ) → nat_cmp n n ≡ Equal
nat_cmp-Equal n = by_ranked (n < n) (n ≡ n) (n < n) (nat_cmp n n) (ranks n n) (λ e less. absurd (omega (arith, less))) (λ e _. e) (λ e more. absurd (omega (arith, more)))

nat_cmp-Less : (m n : ℕ) → m < n → nat_cmp m n ≡ Less
nat_cmp-Less m n h =
    by_ranked (m < n) (m ≡ n) (n < m) (nat_cmp m n) (ranks m n) (λ e _. e) (λ e same. absurd (omega (arith, h, same))) (λ e more. absurd (omega (arith, h, more)))

nat_cmp-le : (m n : ℕ) → m ≤ n → is_le (nat_cmp m n) ≡ true
nat_cmp-le m n h =
    by_ranked (m < n) (m ≡ n) (n < m) (nat_cmp m n) (ranks m n) (λ e _. ap is_le e) (λ e _. ap is_le e) (λ e more. absurd (omega (arith, h, more)))

module _ {K : Type 0} {order : K → K → Ordering} (o : IsTotalOrder order) (is_value : K → Type 0) (value : ℕ → K) (place : K → ℕ) (count : ℕ)
    (value_is_value : (n : ℕ) → n < count → is_value (value n))
    (place_of_value : (n : ℕ) → n < count → place (value n) ≡ n)
    (place_fits : (x : K) → is_value x → place x < count)
    (in_order : (x y : K) → is_value x → is_value y → order x y ≡ nat_cmp (place x) (place y)) (items : List K) where
  -- the value at a member's place is a member
  pub member-at_place : (m : K) → is_value m → member order items m ≡ true → member order items (value (place m)) ≡ true
  member-at_place m v h =
      let fits = place_fits m v in
      member-equal o (value (place m)) m
      (in_order (value (place m)) m (value_is_value (place m) fits) v ∙ ap (λ n. nat_cmp n (place m)) (place_of_value (place m) fits) ∙ nat_cmp-Equal (place m)) items
      ∙ h

  module _ (from m : K) (w : is_value from) (v : is_value m) where
    from-le : (k : ℕ) → k < count → place from ≤ k → is_le (order from (value k)) ≡ true
    from-le k fits low =
        ap is_le (in_order from (value k) w (value_is_value k fits) ∙ ap (nat_cmp (place from)) (place_of_value k fits)) ∙ nat_cmp-le (place from) k low

    le-from : (k : ℕ) → k < count → k ≤ place from → is_le (order (value k) from) ≡ true
    le-from k fits low =
        ap is_le (in_order (value k) from (value_is_value k fits) w ∙ ap (λ n. nat_cmp n (place from)) (place_of_value k fits)) ∙ nat_cmp-le k (place from) low

    next-far : IsNext order true items from m → place from ≤ place m
    next-far next = place-le o is_value value place count value_is_value place_of_value place_fits in_order from m w v next.at_or_above

    next-off : IsNext order true items from m → (k : ℕ) → place from ≤ k → k < place m → member order items (value k) ≡ false
    next-off next k low less =
        let fits : k < count = omega (arith, less, place_fits m v) in
        next.least (value k) (from-le k fits low)
        (in_order (value k) m (value_is_value k fits) v ∙ ap (λ n. nat_cmp n (place m)) (place_of_value k fits) ∙ nat_cmp-Less k (place m) less)

    previous-far : IsPrevious order is_value true items from m → place m ≤ place from
    previous-far previous = place-le o is_value value place count value_is_value place_of_value place_fits in_order m from v w previous.at_or_below

    previous-off : IsPrevious order is_value true items from m → (k : ℕ) → place m < k → k ≤ place from → member order items (value k) ≡ false
    previous-off previous k far low =
        let fits : k < count = omega (arith, low, place_fits from w) in
        previous.greatest (value k) (value_is_value k fits)
        (in_order m (value k) v (value_is_value k fits) ∙ ap (nat_cmp (place m)) (place_of_value k fits) ∙ nat_cmp-Less (place m) k far)
        (le-from k fits low)

  -- a member at a place isn't above a next one, nor below a previous one
  module _ (k : ℕ) (fits : k < count) (there : member order items (value k) ≡ true) (from : K) (w : is_value from) where
    pub some-next : place from ≤ k → ((x : K) → is_le (order from x) ≡ true → member order items x ≡ false) → ⊥
    some-next low none = true≢false (sym there ∙ none (value k) (from-le from from w w k fits low))

    pub some-previous : k ≤ place from → ((x : K) → is_value x → is_le (order x from) ≡ true → member order items x ≡ false) → ⊥
    some-previous low none = true≢false (sym there ∙ none (value k) (value_is_value k fits) (le-from from from w w k fits low))

    next-before : (m : K) → is_value m → IsNext order true items from m → place from ≤ k → place m ≤ k
    next-before m v next low =
        elim (cases_lt k (place m)) as (λ _. place m ≤ k) [
          | inl far ↦ absurd (true≢false (sym there ∙ next-off from m w v next k low far))
          | inr near ↦ near
        ]

    previous-behind : (m : K) → is_value m → IsPrevious order is_value true items from m → k ≤ place from → k ≤ place m
    previous-behind m v previous low =
        elim (cases_lt (place m) k) as (λ _. k ≤ place m) [
          | inl far ↦ absurd (true≢false (sym there ∙ previous-off from m w v previous k far low))
          | inr near ↦ near
        ]

  module _ (first last : ℕ) (h : AreOuter order value count items first last) (more : first < last) (from m : K) (q : ℕ) (at : q ≡ place m) where
    module _ (is : from ≡ value (first + 1)) where
      fits-next : first + 1 < count
      fits-next = omega (arith, more, h.fits)

      value-next : is_value from
      value-next = subst is_value (sym is) (value_is_value (first + 1) fits-next)

      place-next : place from ≡ first + 1
      place-next = ap place is ∙ place_of_value (first + 1) fits-next

      pub none-above : ((x : K) → is_le (order from x) ≡ true → member order items x ≡ false) → ⊥
      none-above none = some-next last h.fits h.last_in from value-next (omega (arith, place-next, more)) none

      module _ (v : is_value m) (found : IsNext order true items from m) where
        pub outer-above : AreOuter order value count items q last
        outer-above = record {
          ordered = omega (arith, at, next-before last h.fits h.last_in from value-next m v found (omega (arith, place-next, more)));
          fits = h.fits;
          first_in = ap (λ n. member order items (value n)) at ∙ member-at_place m v found.is_there;
          last_in = h.last_in;
        }

        pub others-above : members_of order value items first (suc last - first) ≡ value first ∷ members_of order value items q (suc last - q)
        others-above =
            members-above order value items first last q (omega (arith, at, place-next, next-far from m value-next v found)) outer-above.ordered h.first_in
            (λ k low less. next-off from m value-next v found k (omega (arith, place-next, low)) (omega (arith, at, less)))

    module _ (is : from ≡ value (last - 1)) where
      fits-before : last - 1 < count
      fits-before = omega (arith, more, h.fits)

      value-before : is_value from
      value-before = subst is_value (sym is) (value_is_value (last - 1) fits-before)

      place-before : place from ≡ last - 1
      place-before = ap place is ∙ place_of_value (last - 1) fits-before

      fits-first : first < count
      fits-first = omega (arith, more, h.fits)

      pub none-below : ((x : K) → is_value x → is_le (order x from) ≡ true → member order items x ≡ false) → ⊥
      none-below none = some-previous first fits-first h.first_in from value-before (omega (arith, place-before, more)) none

      module _ (found : IsPrevious order is_value true items from m) where
        pub outer-below : AreOuter order value count items first q
        outer-below = record {
          ordered = omega (arith, at, previous-behind first fits-first h.first_in from value-before m found.value found (omega (arith, place-before, more)));
          fits = omega (arith, at, place_fits m found.value);
          first_in = h.first_in;
          last_in = ap (λ n. member order items (value n)) at ∙ member-at_place m found.value found.is_there;
        }

        pub others-below : members_of order value items first (suc last - first) ≡ members_of order value items first (suc q - first) ++ value last ∷ []
        others-below =
            members-below order value items first last q outer-below.ordered (omega (arith, at, place-before, previous-far from m value-before found.value found, more)) h.last_in
            (λ k far less. previous-off from m value-before found.value found k (omega (arith, at, far)) (omega (arith, place-before, less)))

  -- the lowest member and the highest
  module _ (least : K) (is : least ≡ value 0) (some : 0 < count) where
    value-least : is_value least
    value-least = subst is_value (sym is) (value_is_value 0 some)

    place-least : place least ≡ 0
    place-least = ap place is ∙ place_of_value 0 some

    pub all-none : ((x : K) → is_le (order least x) ≡ true → member order items x ≡ false) → members_of order value items 0 count ≡ []
    all-none none =
        members_of-none order value items 0 count (λ k _ less. none (value k) (from-le least least value-least value-least k (omega (arith, less)) (omega (arith, place-least))))

    module _ (greatest : K) (g : is_value greatest) (final : place greatest + 1 ≡ count) (m : K) (v : is_value m) (found : IsNext order true items least m) where
      pub some-highest : ((x : K) → is_value x → is_le (order x greatest) ≡ true → member order items x ≡ false) → ⊥
      some-highest none =
          some-previous (place m) (place_fits m v) (member-at_place m v found.is_there) greatest g (omega (arith, final, place_fits m v)) none

      module _ (n : K) (last : IsPrevious order is_value true items greatest n) where
        pub outer-all : AreOuter order value count items (place m) (place n)
        outer-all = record {
          ordered = previous-behind (place m) (place_fits m v) (member-at_place m v found.is_there) greatest g n last.value last (omega (arith, final, place_fits m v));
          fits = place_fits n last.value;
          first_in = member-at_place m v found.is_there;
          last_in = member-at_place n last.value last.is_there;
        }

        pub all-between : members_of order value items 0 count ≡ members_of order value items (place m) (suc (place n) - place m)
        all-between =
            members-outer order value items count (place m) (place n) outer-all.ordered outer-all.fits
            (λ k low less. next-off least m value-least v found k (omega (arith, place-least)) less)
            (λ k far less. previous-off greatest n g last.value last k far (omega (arith, final, less)))
