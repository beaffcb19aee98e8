-- What the doubling and the halving of a gallop keep.
use Rattle.std.proofs.Common.{◌≡◌, ℕ, ◌+◌, ◌-◌, ◌*◌, ◌/◌, ◌^◌, ◌<◌, ◌≤◌, Bool, true, false, Option, List, length, Some, slice_get, HoldsAt, arith, ap, refl, subst, sym, ◌∙◌}
use Rattle.std.specs.declared.cmp.Ordering.{Ordering}
use Rattle.std.specs.declared.cmp.Ordering.TheVariants.{Less, Equal, Greater}
use Rattle.std.specs.Ordering.{is_gt, is_lt}
use Rattle.std.proofs.lemmas.Option.{get_or_from_slice_get}
use Rattle.range_merge.specs.Runs.{digits}
use Rattle.range_merge.specs.Galloping.{IsBracket, StandsAt}
use Rattle.range_merge.proofs.Digits.{digits-half, digits-double, digits-double_and_one}

-- a test of an answer, read as the answer
pub Less-from_test : (b : Bool) (o p : Ordering) → o ≡ p → b ≡ is_lt o → b ≡ true → p ≡ Less
Less-from_test b Less p e t h = sym e
Less-from_test b Equal p e t h = cc
Less-from_test b Greater p e t h = cc

pub Greater-from_test : (b : Bool) (o p : Ordering) → o ≡ p → b ≡ is_gt o → b ≡ true → p ≡ Greater
Greater-from_test b Less p e t h = cc
Greater-from_test b Equal p e t h = cc
Greater-from_test b Greater p e t h = sym e

pub not_less-from_test : (b : Bool) (o p : Ordering) → o ≡ p → b ≡ is_lt o → b ≡ false → p ≡ Less → ⊥
not_less-from_test b Less p e t h l = cc
not_less-from_test b Equal p e t h l = cc
not_less-from_test b Greater p e t h l = cc

-- what is read at a place holds at that place
pub HoldsAt-read : {K : Type 0} (P : K → Type 0) (items : List K) (i : ℕ) (x : K) → slice_get items i ≡ Some x → P x → HoldsAt P items i
HoldsAt-read P items i x read p d = subst P (sym (get_or_from_slice_get items i x d read)) p

module _ {K : Type 0} (order : K → K → Ordering) (items : List K) (key : K) where
  -- the doubling: a bracket up to the end, and as many comparisons as the binary digits of low,
  -- less two
  pub record IsDoubled (low len start counted : ℕ) : Type 0 where
    pub bracket : IsBracket order items key low len
    pub is_len : len ≡ length items
    pub fits : len < 2 ^ 64
    pub narrow : digits (low - 1) + 1 ≤ digits low
    pub at_least : start ≤ counted
    pub at_most : counted + 2 ≤ start + digits low

  -- the halving: a bracket from first on, and the comparisons still allowed halve with it; it is
  -- known how the item at high stands to the key
  pub record IsHalved (first size low high : ℕ) (next : Option Ordering) (start counted : ℕ) : Type 0 where
    pub bracket : IsBracket order items key low high
    pub stands : StandsAt order items key high next
    pub onward : first ≤ low
    pub fits : size < 2 ^ 64
    pub at_least : start ≤ counted
    pub at_most : counted + digits (high - low) ≤ start + digits size

  -- the first item alone is below the key
  pub IsBracket-one : 0 < length items → HoldsAt (λ y. order y key ≡ Less) items 0 → (1 < length items → HoldsAt (λ y. order y key ≡ Less → ⊥) items 1) → IsBracket order items key 1 1
  IsBracket-one some first next = record {
    some = omega arith;
    ordered = omega arith;
    within = omega arith;
    last = first;
    next = next;
  }

  -- the doubling begins at a second item that is below the key
  pub IsDoubled-start : (len start : ℕ) → 1 < length items → HoldsAt (λ y. order y key ≡ Less) items 1 → len ≡ length items → len < 2 ^ 64 → IsDoubled 2 len start start
  IsDoubled-start len start some second is_len fits =
      let two : digits 2 ≡ digits 1 + 1 = digits-double 1 (omega arith) in
      let one : 1 ≤ digits 1 = omega (arith, digits-half 0 1 (omega arith) (omega arith)) in
      record {
        bracket = record {
          some = omega arith;
          ordered = omega arith;
          within = omega arith;
          last = second;
          next = λ past. absurd (omega arith);
        };
        is_len = is_len;
        fits = fits;
        narrow = omega (arith, two);
        at_least = omega arith;
        at_most = omega (arith, two, one);
      }

  module _ (i : ℕ) (x : K) (read : slice_get items i ≡ Some x) where
    -- a bracket narrows to what is after an item that is below the key
    pub IsBracket-after : (low high low_next : ℕ) → low_next ≡ i + 1 → order x key ≡ Less → low ≤ i → i < high → IsBracket order items key low high → IsBracket order items key low_next high
    IsBracket-after low high low_next is less from to b = record {
      some = omega arith;
      ordered = omega arith;
      within = b.within;
      last =
          let e : low_next - 1 ≡ i = omega arith in
          subst (λ (k : ℕ). HoldsAt (λ y. order y key ≡ Less) items k) (sym e)
          (HoldsAt-read (λ y. order y key ≡ Less) items i x read less);
      next = b.next;
    }

    -- a bracket narrows to what is before an item that is not below the key
    pub IsBracket-before : (low high : ℕ) → (order x key ≡ Less → ⊥) → low ≤ i → i ≤ high → IsBracket order items key low high → IsBracket order items key low i
    IsBracket-before low high not_less from to b = record {
      some = b.some;
      ordered = from;
      within = omega arith;
      last = b.last;
      next = λ _. HoldsAt-read (λ y. order y key ≡ Less → ⊥) items i x read not_less;
    }

    -- how an item that was looked at stands
    pub StandsAt-read : (how : Ordering) → order x key ≡ how → i < length items → StandsAt order items key i (Some how)
    StandsAt-read how is within = (within, HoldsAt-read (λ y. order y key ≡ how) items i x read is)

    -- the doubling goes on past an item that is below the key
    pub IsDoubled-more : (low len low_next start counted counted_next : ℕ) → order x key ≡ Less → i ≡ 2 * low - 1 → low_next ≡ 2 * low → low_next ≤ len → counted_next ≡ counted + 1 → IsDoubled low len start counted → IsDoubled low_next len start counted_next
    IsDoubled-more low len low_next start counted counted_next less place twice within one d =
        let some : 0 < low = omega (arith, d.bracket.some) in
        let more : digits low_next ≡ digits low + 1 = ap digits twice ∙ digits-double low some in
        let rest : low_next - 1 ≡ 2 * (low - 1) + 1 = omega arith in
        let fewer : digits (low_next - 1) ≡ digits (low - 1) + 1 = ap digits rest ∙ digits-double_and_one (low - 1) in
        record {
          bracket = IsBracket-after low len low_next (omega arith) less (omega arith) (omega arith) d.bracket;
          is_len = d.is_len;
          fits = d.fits;
          narrow = omega (arith, d.narrow);
          at_least = omega (arith, d.at_least);
          at_most = omega (arith, d.at_most);
        }

    -- the halving goes on after an item that is below the key, for one more comparison
    pub IsHalved-after : (first size low high : ℕ) (next : Option Ordering) (start counted counted_next : ℕ) → order x key ≡ Less → low ≤ i → i < high → high - (i + 1) ≤ (high - low) / 2 → counted_next ≡ counted + 1 → IsHalved first size low high next start counted → IsHalved first size (i + 1) high next start counted_next
    IsHalved-after first size low high next start counted counted_next less from to half one h = record {
      bracket = IsBracket-after low high (i + 1) refl less from to h.bracket;
      stands = h.stands;
      onward = omega (arith, h.onward);
      fits = h.fits;
      at_least = omega (arith, h.at_least);
      at_most = omega (arith, h.at_most, digits-half (high - (i + 1)) (high - low) (omega arith) half);
    }

    -- the halving goes on before an item that is not below the key, for one more comparison
    pub IsHalved-before : (first size low high : ℕ) (next : Option Ordering) (start counted counted_next : ℕ) (how : Ordering) → order x key ≡ how → (order x key ≡ Less → ⊥) → low ≤ i → i < high → i - low ≤ (high - low) / 2 → counted_next ≡ counted + 1 → IsHalved first size low high next start counted → IsHalved first size low i (Some how) start counted_next
    IsHalved-before first size low high next start counted counted_next how is not_less from to half one h = record {
      bracket = IsBracket-before low high not_less from (omega arith) h.bracket;
      stands = StandsAt-read how is (omega (arith, h.bracket.within));
      onward = h.onward;
      fits = h.fits;
      at_least = omega (arith, h.at_least);
      at_most = omega (arith, h.at_most, digits-half (i - low) (high - low) (omega arith) half);
    }
