-- What an operation makes of two maps, as far as their keys before two places; contracts of private
-- functions use these words.
--     option_before m n              the option before place n
--     left_len run, right_len run    how many keys of each side a run has
--     IsRun order a i b j run        the keys of the run are below those of the other side that are unread
--     IsPut order E old key p new    a step was put at the end, if its option differs from the last one
--     IsMadeUpTo order E f a b i j made    made is f of both, below all keys from the places on
use Rattle.std.specs.Prelude.{◌≡◌, ℕ, ◌+◌, ◌<◌, ◌≤◌, Bool, not, cond, List, ◌∷◌, ◌++◌, length, get_or, Option, Some, None, All}
use Rattle.std.specs.List.{AllWithin}
use Rattle.std.specs.Option.{option_to_list, option_eq}
use Rattle.std.specs.declared.cmp.Ordering.{Ordering}
use Rattle.std.specs.declared.cmp.Ordering.TheVariants.{Less, Equal, Greater}
use Rattle.range_merge.specs.declared.runs.Run.{Run}
use Rattle.range_merge.specs.declared.runs.Run.TheVariants.{Left, Right, Both}
use Rattle.range_map.specs.Steps.{Steps, value_at, AreAlike, IsCanonical}

-- the option before place n; none stands before the first
abbrev pub option_before : {K V : Type 0} → Steps K V → ℕ → Option V
option_before m n = get_or (None ∷ m.options) n None

-- how many keys of the left side a run has
abbrev pub left_len : Run → ℕ
left_len (Left n) = n
left_len (Right n) = 0
left_len Both = 1

-- how many keys of the right side a run has
abbrev pub right_len : Run → ℕ
right_len (Left n) = 0
right_len (Right n) = n
right_len Both = 1

module _ {K : Type 0} (order : K → K → Ordering) where
  -- x is below the keys from place n on
  abbrev pub IsBelowFrom : List K → ℕ → K → Type 0
  IsBelowFrom keys n x = AllWithin (λ y. order x y ≡ Less) keys n (length keys)

  -- from places i and j on, the keys of the run are below all keys of the other side, or one key of
  -- each side equals the other
  abbrev pub IsRun : List K → ℕ → List K → ℕ → Run → Type 0
  IsRun a i b j (Left n) = (i + n ≤ length a) × AllWithin (IsBelowFrom b j) a i (i + n)
  IsRun a i b j (Right n) = (j + n ≤ length b) × AllWithin (IsBelowFrom a i) b j (j + n)
  IsRun a i b j Both =
      (i < length a) × (j < length b)
      × ((d e : K) → order (get_or a i d) (get_or b j e) ≡ Equal)

  -- a step at a key equal to this one was put at the end, if its option differs from the last one
  pub record IsPut {U : Type 0} (E : U → U → Bool) (old : Steps K U) (key : K) (p : Option U)
      (new : Steps K U) : Type 0 where
    pub key_put : K
    pub is_put : Bool
    pub equal : order key key_put ≡ Equal
    pub differs : is_put ≡ not (option_eq E (option_before old (length old.options)) p)
    pub keys_are : new.keys ≡ old.keys ++ option_to_list (cond is_put (Some key_put) None)
    pub options_are : new.options ≡ old.options ++ option_to_list (cond is_put (Some p) None)

  module _ {V W U : Type 0} (E : U → U → Bool) (f : Option V → Option W → Option U)
      (a : Steps K V) (b : Steps K W) where
    -- made is f of both where all keys from places i and j on are above; its last option is f of
    -- those before the places; its keys are below the unread ones, and so are each side's read keys
    pub record IsMadeUpTo (i j : ℕ) (made : Steps K U) : Type 0 where
      pub canonical : IsCanonical order E made
      pub last : AreAlike E (option_before made (length made.options))
          (f (option_before a i) (option_before b j))
      pub values : (x : K) → AllWithin (λ k. order k x ≡ Greater) a.keys i (length a.keys) →
          AllWithin (λ k. order k x ≡ Greater) b.keys j (length b.keys) →
          AreAlike E (value_at order made x) (f (value_at order a x) (value_at order b x))
      pub left_apart : All (IsBelowFrom a.keys i) made.keys
      pub right_apart : All (IsBelowFrom b.keys j) made.keys
      pub left_below : AllWithin (IsBelowFrom b.keys j) a.keys 0 i
      pub right_below : AllWithin (IsBelowFrom a.keys i) b.keys 0 j
