-- How a run ends.
--     IsOutcome asked status line    the status and the line that end a run
--     code_of status                 the number that the program ends with
--     IsReplyTo asked answer         a request's line, or why there is none
use Rattle.std.specs.Prelude.{◌≡◌, ℕ, List, [], ◌∷◌, ◌++◌, Option, Some, None, Result, Ok, Err, String, string_bytes, codes}
use Rattle.range_calc_answers.specs.Words.{Asked}
use Rattle.range_calc_answers.specs.Replies.{IsReply, IsSorted, IsReadable}
use Rattle.range_calc_answers.specs.declared.answering.Fault.{Fault}
use Rattle.range_calc_answers.specs.declared.answering.Fault.TheVariants as fault
use Rattle.range_calc_answers.specs.declared.answering.Status.{Status}
use Rattle.range_calc_answers.specs.declared.answering.Status.TheVariants.{Answered, NoMemory, BadWords, NotSorted, BadJson}

-- where nothing was asked, the words are bad; else it is answered, or a list of it isn't strictly
-- sorted, or its JSON text holds no list, or memory ran out
abbrev pub IsOutcome : Option Asked → Status → List ℕ → Type 0
IsOutcome None BadWords line = line ≡ codes "bad words"
IsOutcome (Some asked) Answered line = IsSorted asked × IsReply asked line
IsOutcome (Some asked) NotSorted line = ¬ (IsSorted asked) × (line ≡ codes "not strictly sorted")
IsOutcome (Some asked) BadJson line = ¬ (IsReadable asked) × (line ≡ codes "bad json")
IsOutcome (Some asked) NoMemory line = line ≡ codes "out of memory"
IsOutcome _ _ line = ⊥

-- the text is a line that answers what is asked, with the newline
abbrev pub IsReplyText : {A : Type 0} → Asked → String A → Type 0
IsReplyText asked text =
    (line : List ℕ) × IsReply asked line × (string_bytes text ≡ line ++ 10 ∷ [])

-- what a request comes to: its line with the newline, or why it has none
abbrev pub IsReplyTo : {A : Type 0} → Asked → Result (String A) Fault → Type 0
IsReplyTo asked (Ok text) = IsSorted asked × IsReplyText asked text
IsReplyTo asked (Err fault.NotSorted) = ¬ (IsSorted asked)
IsReplyTo asked (Err fault.BadJson) = ¬ (IsReadable asked)
IsReplyTo asked (Err fault.NoMemory) = Unit {0}

-- the number that the program ends with
abbrev pub code_of : Status → ℕ
code_of Answered = 0
code_of NoMemory = 1
code_of BadWords = 2
code_of NotSorted = 3
code_of BadJson = 4
