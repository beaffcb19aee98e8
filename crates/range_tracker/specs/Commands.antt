-- What commands do to the offsets of a tracker, and what they may be answered.
--     after_command command had           the offsets after a command
--     MayAnswer limit had command reply   a command may be answered so
--     after_reply command reply had       the offsets after a command and its reply
--     after_replies commands replies had  the offsets after commands, over those that were accepted
--     AreReplies limit had commands replies   each reply is one that its command may be answered after the accepted ones before it
use Rattle.std.specs.Prelude.{◌≡◌, ◌≢◌, ◌↔◌, ℕ, ◌<◌, ◌≤◌, ◌&&◌, ◌||◌, not, List, [], ◌∷◌, Result, Ok, Err}
use Rattle.range_tracker.specs.Offsets.{Offsets, is_within, HasBoundaries}
use Rattle.range_tracker.specs.declared.tracker.Command.{Command}
use Rattle.range_tracker.specs.declared.tracker.Command.TheVariants.{Add, Forget}
use Rattle.range_tracker.specs.declared.track_error.TrackError.{TrackError}
use Rattle.range_tracker.specs.declared.track_error.TrackError.TheVariants.{TooMany, OutOfMemory}

-- the answer to a command
abbrev pub Reply : Type 0
Reply = Result (Unit {0}) TrackError

-- `Add` adds the offsets of its range, `Forget` takes them away
abbrev pub after_command : Command → Offsets → Offsets
after_command (Add range) had = λ n. had n || is_within range n
after_command (Forget range) had = λ n. had n && not (is_within range n)

-- what a command may be answered, where these offsets are there
pub record MayAnswer (limit : ℕ) (had : Offsets) (command : Command) (reply : Reply) : Type 0 where
  -- too many, with their number, exactly where the list of boundaries after the command is longer
  -- than the limit
  pub too_many : (n : ℕ) →
      (reply ≡ Err (TooMany n)) ↔ (HasBoundaries (after_command command had) n × (limit < n))
  -- memory doesn't run out where that list is no longer than the one before
  pub no_growth : (m n : ℕ) → HasBoundaries had m → HasBoundaries (after_command command had) n →
      n ≤ m → reply ≢ Err OutOfMemory
  -- nor where nothing was there
  pub first : HasBoundaries had 0 → reply ≢ Err OutOfMemory

-- an accepted command is done, and a refused one changes nothing
abbrev pub after_reply : Command → Reply → Offsets → Offsets
after_reply command (Ok done) had = after_command command had
after_reply command (Err why) had = had

-- the offsets after the commands, over those that were accepted
abbrev pub after_replies : List Command → List Reply → Offsets → Offsets
after_replies (command ∷ commands) (reply ∷ replies) had =
    after_replies commands replies (after_reply command reply had)
after_replies _ _ had = had

-- there is a reply for each command, and each is one that the command may be answered after the
-- accepted ones before it
abbrev pub AreReplies : ℕ → Offsets → List Command → List Reply → Type 0
AreReplies limit had [] [] = Unit {0}
AreReplies limit had (command ∷ commands) (reply ∷ replies) =
    MayAnswer limit had command reply
    × AreReplies limit (after_reply command reply had) commands replies
AreReplies limit had _ _ = ⊥
