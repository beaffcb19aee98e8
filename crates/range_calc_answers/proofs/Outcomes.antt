-- What the lines of an answer come to.
use Rattle.std.proofs.Common.{◌≡◌, ℕ, List, [], ◌∷◌, ◌++◌, Option, Some, None, Result, Ok, Err, true≢false, refl, sym, String, string_bytes, codes, IfOk}
use Rattle.std.specs.Prelude.{◌↔◌, IsSome, IsErrAnd}
use Rattle.std.specs.Option.{ok_or}
use Rattle.std.specs.Io.KnownBytes.{Appends}
use Rattle.range_calc_answers.specs.Replies.{IsReply, IsSorted}
use Rattle.range_calc_answers.specs.Outcome.{IsOutcome, IsReplyText, IsReplyTo}
use Rattle.range_calc_answers.specs.Words.{Asked}
use Rattle.range_calc_answers.specs.declared.answering.Fault.{Fault}
use Rattle.range_calc_answers.specs.declared.answering.Fault.TheVariants as fault
use Rattle.range_calc_answers.specs.declared.answering.Status.{Status}
use Rattle.range_calc_answers.specs.declared.answering.Status.TheVariants.{NoMemory, BadWords}

-- where something was asked, the words are not bad
pub asked-bad_words : (status : Status) (found : Option Asked) (asked : Asked) → found ≡ Some asked → (status ≡ BadWords → ⊥) → (status ≡ BadWords) ↔ (found ≡ None)
asked-bad_words status found asked e other = (λ bad. absurd (other bad), λ none. cc)

-- whatever was asked, memory may run out
pub out_of_memory-answers : {E : Type 0} (r : Result Status E) (found : Option Asked) (asked : Asked) (old new : Option (List ℕ)) → found ≡ Some asked
    → IfOk r (λ status. status ≡ NoMemory) → IfOk r (λ _. Appends old new (codes "out of memory" ++ 10 ∷ []))
    → IfOk r (λ status. (line : List ℕ) × IsOutcome found status line × Appends old new (line ++ 10 ∷ []))
out_of_memory-answers (Ok status) found asked old new e s l = (codes "out of memory", rw (e, s) refl, l)
out_of_memory-answers (Err x) found asked old new e s l = tt

pub out_of_memory-bad_words : {E : Type 0} (r : Result Status E) (found : Option Asked) (asked : Asked) → found ≡ Some asked
    → IfOk r (λ status. status ≡ NoMemory) → IfOk r (λ status. (status ≡ BadWords) ↔ (found ≡ None))
out_of_memory-bad_words (Ok status) found asked e s = asked-bad_words status found asked e (λ bad. cc)
out_of_memory-bad_words (Err x) found asked e s = tt

-- a line that answers what is asked, and its text
pub IsReplyText-line : {A E : Type 0} (r : Result (String A) E) (asked : Asked) (line : List ℕ) → IsReply asked line
    → IfOk r (λ text. string_bytes text ≡ line ++ 10 ∷ []) → IfOk r (IsReplyText asked)
IsReplyText-line (Ok text) asked line answers is = (line, answers, is)
IsReplyText-line (Err x) asked line answers is = tt

-- out of memory, whatever was asked
pub IsReplyTo-no_memory : {A : Type 0} (asked : Asked) (r : Result (String A) Fault) → IsErrAnd r (λ why. why ≡ fault.NoMemory) → IsReplyTo asked r
IsReplyTo-no_memory asked (Ok text) h = absurd h
IsReplyTo-no_memory asked (Err why) h = rw h tt

-- a list of which no set is made
pub IsReplyTo-unsorted : {A S : Type 0} (asked : Asked) (r : Result (String A) Fault) (made : Option S) (why : Fault) → (IsSorted asked → IsSome made)
    → Err why ≡ ok_or made fault.NotSorted → IsErrAnd r (λ given. given ≡ why) → IsReplyTo asked r
IsReplyTo-unsorted asked (Ok text) made why s v e = absurd e
IsReplyTo-unsorted asked (Err given) (Some set) why s v e = cc
IsReplyTo-unsorted asked (Err given) None why s v e =
    let is : given ≡ fault.NotSorted = cc in
    rw is (λ sorted. true≢false (sym (s sorted)))
