-- The values of the ranges that pass a test, as the steps that are kept have them.
use Rattle.std.proofs.Common.{◌≡◌, ℕ, ◌+◌, ◌<◌, zero, suc, Bool, true, false, cond, ◌&&◌, Option, None, Some, List, [], ◌∷◌, All, length, drop, filter, get_or, slice_get, refl, sym, ap, ap₂, ◌∙◌, arith}
use Rattle.std.proofs.lemmas.List.Elements.{All-cons, All-head, All-tail}
use Rattle.std.specs.Cmp.{IsTotalOrder}
use Rattle.std.specs.Ordering.{is_le, is_lt}
use Rattle.std.specs.declared.cmp.Ordering.{Ordering}
use Rattle.std.specs.declared.cmp.Ordering.TheVariants.{Less, Greater}
use Rattle.range_merge.specs.Boundaries.{IsAscending}
use Rattle.range_merge.proofs.Pairs.{AllPairs-tail}
use Rattle.range_merge.proofs.Orders.{Less-from_greater}
use Rattle.range_collections.proofs.Shortest.{is_le-cases}
use Rattle.range_collections.specs.declared.range_set_range.RangeSetRange.{RangeSetRange}
use Rattle.range_map.specs.Entries.{range_until, first_or, entries_until, entries}
use Rattle.range_map.specs.Gaps.{has}
use Rattle.range_map.specs.Listed.{steps_of}
use Rattle.range_map.specs.Updated.{kept, kept_until, kept_at, kept_steps, value_among}
use Rattle.range_map.specs.declared.step.Step.{Step}
use Rattle.range_map.proofs.Along.{along, along-in, along-out, above_later}
use Rattle.range_map.proofs.Overlapping.{filter-in, filter-out, and-false, not_lt}
use Rattle.range_map.proofs.Stretched.{by_bool}

module _ {K : Type 0} (order : K → K → Ordering) (o : IsTotalOrder order) where
  has-below : (k : K) (end : Option K) (x : K) → order k x ≡ Greater → has order (range_until k end) x ≡ false
  has-below k None x h = ap (λ r. is_le r && true) h
  has-below k (Some e) x h = ap (λ r. is_le r && is_lt (order x e)) h

  has-up_to : (k e x : K) → is_le (order k x) ≡ true → order e x ≡ Greater → has order (range_until k (Some e)) x ≡ true
  has-up_to k e x h g = ap₂ (λ b r. b && is_lt r) h (Less-from_greater o e x g)

  has-past : (k e x : K) → is_le (order e x) ≡ true → has order (range_until k (Some e)) x ≡ false
  has-past k e x h = and-false (is_le (order k x)) (is_lt (order x e)) (not_lt order o e x h)

  has-endless : (k x : K) → is_le (order k x) ≡ true → has order (range_until k None) x ≡ true
  has-endless k x h = ap (λ b. b && true) h

module _ {K V : Type 0} (order : K → K → Ordering) (o : IsTotalOrder order) (test : RangeSetRange K × V → Bool) where
  abbrev among : List (RangeSetRange K × V) → K → Option V
  among es x = value_among order (filter test es) x

  -- one more entry, if there is a value
  abbrev with_entry : K → Option K → Option V → List (RangeSetRange K × V) → List (RangeSetRange K × V)
  with_entry k end None es = es
  with_entry k end (Some v) es = (range_until k end, v) ∷ es

  entries-first : (k : K) (ks : List K) (p : Option V) (ps : List (Option V)) →
      entries_until (k ∷ ks) (p ∷ ps) None ≡ with_entry k (first_or ks None) p (entries_until ks ps None)
  entries-first k ks None ps = refl
  entries-first k ks (Some v) ps = refl

  entry-out : (k : K) (end : Option K) (p : Option V) (es : List (RangeSetRange K × V)) (x : K) → has order (range_until k end) x ≡ false →
      among (with_entry k end p es) x ≡ among es x
  entry-out k end None es x h = refl
  entry-out k end (Some v) es x h =
      by_bool (test (range_until k end, v))
      (λ t. ap (λ qs. value_among order qs x) (filter-in test (range_until k end, v) es t) ∙ ap (λ b. cond b (Some v) (among es x)) h)
      (λ t. ap (λ qs. value_among order qs x) (filter-out test (range_until k end, v) es t))

  entry-in : (k : K) (end : Option K) (p : Option V) (es : List (RangeSetRange K × V)) (x : K) → has order (range_until k end) x ≡ true →
      among es x ≡ None → among (with_entry k end p es) x ≡ kept_until test k end p
  entry-in k end None es x h none = none
  entry-in k end (Some v) es x h none =
      by_bool (test (range_until k end, v))
      (λ t. ap (λ qs. value_among order qs x) (filter-in test (range_until k end, v) es t) ∙ ap (λ b. cond b (Some v) (among es x)) h
      ∙ sym (ap (λ b. cond b (Some v) None) t))
      (λ t. ap (λ qs. value_among order qs x) (filter-out test (range_until k end, v) es t) ∙ none ∙ sym (ap (λ b. cond b (Some v) None) t))

  among-above : (ks : List K) (ps : List (Option V)) (x : K) → All (λ k. order k x ≡ Greater) ks → among (entries_until ks ps None) x ≡ None
  among-above [] ps x h = refl
  among-above (k ∷ ks) [] x h = refl
  among-above (k ∷ ks) (p ∷ ps) x h =
      ap (λ es. among es x) (entries-first k ks p ps)
      ∙ entry-out k (first_or ks None) p (entries_until ks ps None) x (has-below order o k (first_or ks None) x (All-head (λ l. order l x ≡ Greater) k ks h))
      ∙ among-above ks ps x (All-tail (λ l. order l x ≡ Greater) k ks h)

  -- the value at x of those that pass is that of the steps that are kept
  pub among-along : (items : List (Step K V)) (x : K) → IsAscending order (steps_of items).keys →
      value_among order (filter test (entries (steps_of items))) x ≡ along order None (steps_of (kept_steps test items)).keys (steps_of (kept_steps test items)).options x
  among-along [] x up = refl
  among-along (s ∷ []) x up =
      ap (λ es. among es x) (entries-first s.key [] s.option [])
      ∙ is_le-cases (order s.key x)
      (λ h. entry-in s.key None s.option [] x (has-endless order o s.key x h) refl ∙ sym (along-in order None s.key [] (kept_until test s.key None s.option) [] x h))
      (λ g. entry-out s.key None s.option [] x (has-below order o s.key None x g) ∙ sym (along-out order None s.key [] (kept_until test s.key None s.option) [] x g))
  among-along (s ∷ t ∷ ss) x up =
      let rest = steps_of (kept_steps test ss) in
      let w = kept_until test s.key (Some t.key) s.option in
      let w2 = kept_until test t.key (first_or (steps_of ss).keys None) t.option in
      let later = steps_of (t ∷ ss) in
      let es = entries later in
      let up_later = AllPairs-tail (λ y z. order y z ≡ Less) s.key later.keys up in
      ap (λ qs. among qs x) (entries-first s.key later.keys s.option later.options)
      ∙ is_le-cases (order s.key x)
      (λ h.
      is_le-cases (order t.key x)
      (λ l. entry-out s.key (Some t.key) s.option es x (has-past order o s.key t.key x l) ∙ among-along (t ∷ ss) x up_later
      ∙ along-in order None t.key rest.keys w2 rest.options x l ∙ sym (along-in order w t.key rest.keys w2 rest.options x l)
      ∙ sym (along-in order None s.key (t.key ∷ rest.keys) w (w2 ∷ rest.options) x h))
      (λ g. entry-in s.key (Some t.key) s.option es x (has-up_to order o s.key t.key x h g)
      (among-above later.keys later.options x (All-cons (λ l. order l x ≡ Greater) t.key (steps_of ss).keys g (above_later order o t.key (steps_of ss).keys x up_later g)))
      ∙ sym (along-out order w t.key rest.keys w2 rest.options x g) ∙ sym (along-in order None s.key (t.key ∷ rest.keys) w (w2 ∷ rest.options) x h)))
      (λ g. entry-out s.key (Some t.key) s.option es x (has-below order o s.key (Some t.key) x g)
      ∙ among-above later.keys later.options x (above_later order o s.key later.keys x up g)
      ∙ sym (along-out order None s.key (t.key ∷ rest.keys) w (w2 ∷ rest.options) x g))

-- where the test looks at values alone
pub kept-along : {K V : Type 0} (order : K → K → Ordering) (test : V → Bool) (p : Option V) (items : List (Step K V)) (x : K) →
    along order (kept test p) (steps_of (kept_steps (λ e. test e.1) items)).keys (steps_of (kept_steps (λ e. test e.1) items)).options x ≡
    kept test (along order p (steps_of items).keys (steps_of items).options x)
kept-along order test p [] x = refl
kept-along order test p (s ∷ ss) x =
    let made = steps_of (kept_steps (λ e. test e.1) ss) in
    by_bool (is_le (order s.key x))
    (λ h. ap (λ b. cond b (along order (kept test s.option) made.keys made.options x) (kept test p)) h ∙ kept-along order test s.option ss x
    ∙ sym (ap (λ b. kept test (cond b (along order s.option (steps_of ss).keys (steps_of ss).options x) p)) h))
    (λ h. ap (λ b. cond b (along order (kept test s.option) made.keys made.options x) (kept test p)) h
    ∙ sym (ap (λ b. kept test (cond b (along order s.option (steps_of ss).keys (steps_of ss).options x) p)) h))

module _ {K V : Type 0} (test : RangeSetRange K × V → Bool) where
  pub keys-kept : (items : List (Step K V)) → (steps_of (kept_steps test items)).keys ≡ (steps_of items).keys
  keys-kept [] = refl
  keys-kept (s ∷ ss) = ap (λ ks. s.key ∷ ks) (keys-kept ss)

  pub length-kept : (items : List (Step K V)) → length (kept_steps test items) ≡ length items
  length-kept [] = refl
  length-kept (s ∷ ss) = ap suc (length-kept ss)

  -- a step is kept by what stands from its place on
  abbrev first_kept : List (Step K V) → Step K V → Step K V
  first_kept zs d = kept_at test zs 0 d

  kept_at-drop : (items : List (Step K V)) (i : ℕ) (d : Step K V) → kept_at test items i d ≡ first_kept (drop i items) d
  kept_at-drop items zero d = refl
  kept_at-drop [] (suc i) d = refl
  kept_at-drop (s ∷ ss) (suc i) d =
      let one : suc i + 1 ≡ suc (i + 1) = omega arith in
      let t : Step K V = get_or ss i d in
      ap (λ n. record { key = t.key; option = kept_until test t.key (slice_get (steps_of (s ∷ ss)).keys n) t.option }) one ∙ kept_at-drop ss i d

  kept_steps-at : (items : List (Step K V)) (i : ℕ) (d : Step K V) → i < length items → get_or (kept_steps test items) i d ≡ first_kept (drop i items) d
  kept_steps-at [] i d within = absurd (omega (arith, within))
  kept_steps-at (s ∷ []) zero d within = refl
  kept_steps-at (s ∷ t ∷ ss) zero d within = refl
  kept_steps-at (s ∷ ss) (suc i) d within = kept_steps-at ss i d (omega (arith, within))

  pub kept-same : (old items : List (Step K V)) (i : ℕ) (d : Step K V) → drop i items ≡ drop i old → i < length old →
      kept_at test items i d ≡ get_or (kept_steps test old) i d
  kept-same old items i d same within =
      kept_at-drop items i d ∙ ap (λ zs. first_kept zs d) same ∙ sym (kept_steps-at old i d within)
