-- What the program answers.
--     Answer                            what a line is answered
--     MayBeAnswered limit had request answer   a request may be answered so
--     after_answer request answer had   the offsets after a request and its answer
--     AreAnswers limit had requests answers    each answer is one that its request may have after those before it
--     answer_text answer                the line of an answer
use Rattle.std.specs.Prelude.{◌≡◌, ◌↔◌, ℕ, Bool, true, false, ◌&&◌, not, nat_lt, IsTrue, List, [], ◌∷◌, ◌++◌, flat_map, Option, Some, None, Ok, Err, codes, decimal}
use Rattle.std.specs.List.{join_by}
use Rattle.std.specs.Io.KnownBytes.{Appends}
use Rattle.range_collections.specs.Ranges.{ranges_of}
use Rattle.range_collections.specs.Text.{ranges_text}
use Rattle.range_tracker.specs.Offsets.{Offsets, is_within, IsListOf}
use Rattle.range_tracker.specs.Commands.{Reply, MayAnswer, after_reply}
use Rattle.range_tracker.specs.declared.track_error.TrackError.TheVariants.{TooMany, OutOfMemory}
use Rattle.range_track_answers.specs.declared.request.Request.{Request}
use Rattle.range_track_answers.specs.declared.request.Request.TheVariants.{Do, Has, Missing, Ranges}

-- what a line is answered
pub data Answer : Type 0 where
  -- the reply to a command
  replied : Reply → Answer
  -- whether a range is there
  truth : Bool → Answer
  -- the boundaries of what is missing
  list : List ℕ → Answer
  -- the boundaries of what is there
  ranges : List ℕ → Answer
  -- the line asks nothing
  bad_line : Answer

-- what may be answered where these offsets are there
abbrev pub MayBeAnswered : ℕ → Offsets → Option Request → Answer → Type 0
MayBeAnswered limit had (Some (Do command)) (replied reply) = MayAnswer limit had command reply
MayBeAnswered limit had (Some (Has range)) (truth b) =
    IsTrue b ↔ ((n : ℕ) → is_within range n ≡ true → had n ≡ true)
MayBeAnswered limit had (Some (Missing len)) (list items) =
    IsListOf items (λ n. nat_lt n len && not (had n))
MayBeAnswered limit had (Some Ranges) (ranges items) = IsListOf items had
MayBeAnswered limit had None bad_line = Unit {0}
MayBeAnswered limit had request answer = ⊥

-- an accepted command is done, and nothing else changes the offsets
abbrev pub after_answer : Option Request → Answer → Offsets → Offsets
after_answer (Some (Do command)) (replied reply) had = after_reply command reply had
after_answer request answer had = had

-- there is an answer for each request, and each is one that the request may have after the answers
-- before it
abbrev pub AreAnswers : ℕ → Offsets → List (Option Request) → List Answer → Type 0
AreAnswers limit had [] [] = Unit {0}
AreAnswers limit had (request ∷ requests) (answer ∷ answers) =
    MayBeAnswered limit had request answer
    × AreAnswers limit (after_answer request answer had) requests answers
AreAnswers limit had _ _ = ⊥

-- the reply to a command
abbrev pub reply_text : Reply → List ℕ
reply_text (Ok done) = codes "ok"
reply_text (Err (TooMany n)) = codes "too many " ++ decimal n
reply_text (Err OutOfMemory) = codes "out of memory"

abbrev pub truth_text : Bool → List ℕ
truth_text true = codes "true"
truth_text false = codes "false"

-- `-` for the empty list, else its numbers joined by commas
unfoldable pub list_text : List ℕ → List ℕ
list_text [] = codes "-"
list_text (n ∷ ns) = join_by decimal (codes ",") (n ∷ ns)

-- `-` where there is none, else the ranges joined by a comma and a blank
unfoldable pub ranges_line : List ℕ → List ℕ
ranges_line [] = codes "-"
ranges_line (n ∷ ns) = ranges_text decimal (ranges_of (n ∷ ns))

-- the line of an answer
abbrev pub answer_text : Answer → List ℕ
answer_text (replied reply) = reply_text reply
answer_text (truth b) = truth_text b
answer_text (list items) = list_text items
answer_text (ranges items) = ranges_line items
answer_text bad_line = codes "bad line"

-- the lines of the answers, each with its newline
abbrev pub answers_text : List Answer → List ℕ
answers_text answers = flat_map (λ answer. answer_text answer ++ 10 ∷ []) answers

-- a request was answered: with one that it may have, which stands with its newline after what was
-- written before
pub record IsAnswered (limit : ℕ) (old new : Offsets) (request : Option Request)
    (before after : Option (List ℕ)) : Type 0 where
  pub answer : Answer
  pub may : MayBeAnswered limit old request answer
  pub offsets : (n : ℕ) → new n ≡ after_answer request answer old n
  pub written : Appends before after (answer_text answer ++ 10 ∷ [])
