-- JSON texts that hold no list.
use Rattle.std.proofs.Common.{◌≡◌, ℕ, ℤ, List, [], ◌∷◌, map, length, Some, None, true≢false, refl, sym, ap, ◌∙◌, arith}
use Rattle.std.specs.Prelude.{◌↔◌, is_some, IsSome, String, Result, Ok, Err, IsErrAnd}
use Rattle.std.specs.List.{position_or_len}
use Rattle.std.proofs.lemmas.Bool.{le-ltb}
use Rattle.serde_json.specs.Data.{Data}
use Rattle.serde_json.specs.Errors.{IsMemory}
use Rattle.serde_json.specs.Read.{read}
use Rattle.serde_json.specs.declared.error.Error.{Error}
use Rattle.serde_json.specs.Find.{as_array}
use Rattle.range_collections.specs.Json.{items_in, whole_number, is_bad, first_bad}
use Rattle.range_collections.specs.declared.json.JsonError.{JsonError}
use Rattle.range_collections.specs.declared.json.JsonError.TheVariants.{NotArray, NotInteger, OutOfMemory}
use Rattle.range_calc_answers.specs.Words.{of_json}
use Rattle.range_calc_answers.specs.Replies.{IsReadable}
use Rattle.range_calc_answers.specs.Outcome.{IsReplyTo}
use Rattle.range_calc_answers.specs.Faults.{IsFaultOfText, fault_of_value}
use Rattle.range_calc_answers.specs.declared.answering.Fault.{Fault}
use Rattle.range_calc_answers.specs.declared.answering.Fault.TheVariants as fault

-- where all are numbers, none is bad
position_or_len-numbers : (ds : List Data) (zs : List ℤ) → map whole_number ds ≡ map Some zs → position_or_len is_bad ds ≡ length ds
position_or_len-numbers [] zs e = refl
position_or_len-numbers (d ∷ ds) [] e = cc
position_or_len-numbers (d ∷ ds) (z ∷ zs) e =
    let one : whole_number d ≡ Some z = cc in
    let others : map whole_number ds ≡ map Some zs = cc in
    rw (one, position_or_len-numbers ds zs others) (omega arith)

first_bad-numbers : (d : Data) (zs : List ℤ) → map whole_number (items_in d) ≡ map Some zs → first_bad d ≡ None
first_bad-numbers d zs e = rw (position_or_len-numbers (items_in d) zs e, le-ltb (length (items_in d)) (length (items_in d)) (omega arith)) refl

-- a text that isn't read, and what comes of it
pub IsReplyTo-unread : {A : Type 0} (text : List ℕ) (r : Result (String A) Fault) (error : Error) → (¬ (IsMemory error) → read text ≡ None)
    → IsErrAnd r (IsFaultOfText error) → IsReplyTo (of_json text) r
IsReplyTo-unread text (Ok line) error unread h = absurd h
IsReplyTo-unread text (Err fault.NoMemory) error unread h = tt
IsReplyTo-unread text (Err fault.BadJson) error unread h = λ readable.
    let other : ¬ (IsMemory error) = λ memory. let same = h.0 memory in cc in
    let none : read text ≡ None = unread other in
    let some = readable.1.1 in
    cc
IsReplyTo-unread text (Err fault.NotSorted) error unread h = λ sorted.
    let other : ¬ (IsMemory error) = λ memory. let same = h.0 memory in cc in
    let same = h.1 other in
    cc

module _ (text : List ℕ) (d : Data) (reads : read text ≡ Some d) where
  pub unreadable-not_array : as_array d ≡ None → ¬ (IsReadable (of_json text))
  unreadable-not_array none (items, (value, is, reading)) =
      let same : value ≡ d = cc in
      let some : IsSome (as_array d) = rw same at reading.is_array in
      true≢false (sym some ∙ ap is_some none)

  pub unreadable-not_integer : (i : ℕ) → first_bad d ≡ Some i → ¬ (IsReadable (of_json text))
  unreadable-not_integer i bad (items, (value, is, reading)) =
      let same : value ≡ d = cc in
      let none : first_bad value ≡ None = first_bad-numbers value reading.numbers reading.reads in
      cc

  -- a value that isn't a list, and what comes of it
  pub IsReplyTo-refused : {A S : Type 0} (r : Result (String A) Fault) (s : Result S JsonError) (e : JsonError) → s ≡ Err e
      → ((s ≡ Err NotArray) ↔ (as_array d ≡ None)) → ((i : ℕ) → (s ≡ Err (NotInteger i)) ↔ (first_bad d ≡ Some i))
      → IsErrAnd r (λ fault. fault ≡ fault_of_value e) → IsReplyTo (of_json text) r
  IsReplyTo-refused (Ok line) s e is not_array not_integer h = absurd h
  IsReplyTo-refused (Err fault) s NotArray is not_array not_integer h = rw h (unreadable-not_array (not_array.0 is))
  IsReplyTo-refused (Err fault) s (NotInteger i) is not_array not_integer h = rw h (unreadable-not_integer i ((not_integer i).0 is))
  IsReplyTo-refused (Err fault) s OutOfMemory is not_array not_integer h = rw h tt
