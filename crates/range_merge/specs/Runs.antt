-- The runs of two lists: their owners, cut wherever the side changes.
--     digits n                    how many binary digits n has
--     runs_of os                  the runs
--     weight order a b            the sum of the binary digits of the runs' lengths
use Rattle.std.specs.Prelude.{ℕ, ◌+◌, List, [], ◌∷◌, length, sum, map}
use Rattle.std.specs.declared.cmp.Ordering.{Ordering}
use Rattle.std.specs.Int.Digits.{digits_of}
use Rattle.range_merge.specs.Owners.{Owner, left_only, right_only, shared, owners}
use Rattle.range_merge.specs.declared.runs.Run.{Run}
use Rattle.range_merge.specs.declared.runs.Run.TheVariants.{Left, Right, Both}

-- how many binary digits the number has; 0 has none
unfoldable pub digits : ℕ → ℕ
digits n = length (digits_of 2 n)

-- how many items of a side a run has; a shared one is a run of one
abbrev pub run_len : Run → ℕ
run_len (Left n) = n
run_len (Right n) = n
run_len Both = 1

-- an owner before some runs: it joins the first where that is of its side
abbrev pub joined : {K : Type 0} → Owner K → List Run → List Run
joined (left_only x) (Left n ∷ rs) = Left (n + 1) ∷ rs
joined (left_only x) rs = Left 1 ∷ rs
joined (right_only y) (Right n ∷ rs) = Right (n + 1) ∷ rs
joined (right_only y) rs = Right 1 ∷ rs
joined (shared x y) rs = Both ∷ rs

-- the longest stretches of owners that are all left or all right, and each shared one alone
unfoldable pub runs_of : {K : Type 0} → List (Owner K) → List Run
runs_of [] = []
runs_of (o ∷ os) = joined o (runs_of os)

-- the binary digits of the runs' lengths, added up
unfoldable pub weight_of : List Run → ℕ
weight_of rs = sum (map (λ r. digits (run_len r)) rs)

module _ {K : Type 0} (order : K → K → Ordering) where
  -- the runs of two lists
  abbrev pub runs : List K → List K → List Run
  runs a b = runs_of (owners order a b)

  -- the weight of two lists: the binary digits of their runs' lengths, added up
  abbrev pub weight : List K → List K → ℕ
  weight a b = weight_of (runs a b)
