-- An input of which some lines are answered.
use Rattle.std.proofs.Common.{◌≡◌, refl, sym, ap, ◌∙◌, subst, ℕ, List, [], ◌∷◌, ◌++◌, append_assoc, take}
use Rattle.std.specs.Prelude.{Option, Some, None, IfSome, map}
use Rattle.std.proofs.Math.Path.{fun_ext}
use Rattle.std.specs.Io.KnownBytes.{Appends}
use Rattle.std.proofs.lemmas.List.{flat_map_more}
use Rattle.std.proofs.lemmas.List.Concat.{flat_map-append}
use Rattle.range_tracker.specs.Offsets.{Offsets}
use Rattle.range_track_answers.specs.Answers.{Answer, AreAnswers, IsAnswered, answer_text, answers_text}
use Rattle.range_track_answers.specs.Lines.{IsLine, IsLineRead, lines_of}
use Rattle.range_track_answers.specs.Requests.{request_of}
use Rattle.range_track_answers.specs.declared.line.Ending.TheVariants.{Newline}
use Rattle.range_track_answers.proofs.LinesLemmas.{lines_of-newline, request_of-kept, requests-kept}
use Rattle.range_track_answers.proofs.Written.{Appends-nothing, Appends-then}

-- the answers of the lines before the rest were written, and with those of the rest they are those
-- of the text
pub record Served (limit : ℕ) (first : Offsets) (text rest : List ℕ) (had : Offsets) (before after : Option (List ℕ)) : Type 0 where
  pub given : List Answer
  pub written : Appends before after (answers_text given)
  pub goes_on : (more : List Answer) → AreAnswers limit had (map request_of (lines_of rest)) more →
      AreAnswers limit first (map request_of (lines_of text)) (given ++ more)

pub Served-start : (limit : ℕ) (first : Offsets) (text : List ℕ) (known : Option (List ℕ)) → Served limit first text text first known known
Served-start limit first text known = record {
  given = [];
  written = Appends-nothing known;
  goes_on = λ more are. are;
}

pub Served-more : (limit : ℕ) (first : Offsets) (text rest line next kept : List ℕ) (had new : Offsets) (before mid after : Option (List ℕ)) →
    Served limit first text rest had before mid → IsLine line → rest ≡ line ++ 10 ∷ next → kept ≡ take 65 line →
    IsAnswered limit had new (request_of kept) mid after → Served limit first text next new before after
Served-more limit first text rest line next kept had new before mid after served is cut keep answered =
    let a = answered.answer in
    let asked : request_of kept ≡ request_of line = ap (λ l. request_of l) keep ∙ request_of-kept line in
    record {
      given = served.given ++ a ∷ [];
      written = Appends-then before mid after (answers_text served.given) (answer_text a ++ 10 ∷ []) (answers_text (served.given ++ a ∷ []))
          served.written answered.written (flat_map_more (λ b. answer_text b ++ 10 ∷ []) [] served.given a);
      goes_on = λ more are.
          rw (append_assoc served.given (a ∷ []) more)
          (served.goes_on (a ∷ more)
          (rw (cut, lines_of-newline line next is, ← asked)
          (answered.may, subst (λ (s : Offsets). AreAnswers limit s (map request_of (lines_of next)) more) (fun_ext answered.offsets) are)));
    }

pub Served-end : (limit : ℕ) (first : Offsets) (text rest kept : List ℕ) (had : Offsets) (before mid after : Option (List ℕ)) →
    Served limit first text rest had before mid → IsLine rest → kept ≡ take 65 rest →
    (answers : List Answer) × AreAnswers limit had (map request_of (lines_of kept)) answers × Appends mid after (answers_text answers) →
    (answers : List Answer) × AreAnswers limit first (map request_of (lines_of text)) answers × Appends before after (answers_text answers)
Served-end limit first text rest kept had before mid after served is keep last =
    let asked : map request_of (lines_of kept) ≡ map request_of (lines_of rest) = ap (λ l. map request_of (lines_of l)) keep ∙ requests-kept rest is in (
      served.given ++ last.0,
      served.goes_on last.0 (rw asked at last.1),
      Appends-then before mid after (answers_text served.given) (answers_text last.0) (answers_text (served.given ++ last.0))
          served.written last.2 (sym (flat_map-append (λ b. answer_text b ++ 10 ∷ []) served.given last.0)),
    )

-- what a read up to a newline took
pub newline_read : (new : Option (List ℕ)) (text kept : List ℕ) → IsLineRead text kept Newline new →
    (next : List ℕ) × (new ≡ Some next) × ((line : List ℕ) × IsLine line × (text ≡ line ++ 10 ∷ next) × (kept ≡ take 65 line))
newline_read None text kept h = absurd h
newline_read (Some next) text kept h = (next, refl, h)

-- what holds of each value that may be known
pub IfSome-from : {X : Type 0} (known : Option X) (P : X → Type 0) → ((x : X) → known ≡ Some x → P x) → IfSome known P
IfSome-from None P h = tt
IfSome-from (Some x) P h = h x refl
