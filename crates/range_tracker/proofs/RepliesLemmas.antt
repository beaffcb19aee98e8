-- Replies to commands, one after another.
use Rattle.std.proofs.Common.{◌≡◌, refl, sym, ap, ◌∙◌, subst, ℕ, ◌+◌, ◌<◌, length, get_or, take, set, List, [], ◌∷◌, ◌++◌, Ok, Err}
use Rattle.std.proofs.lemmas.List.{take_more, take_more_set}
use Rattle.std.specs.Prelude.{OnOk, OnErr}
use Rattle.std.proofs.Math.Path.{fun_ext}
use Rattle.range_tracker.specs.Offsets.{Offsets}
use Rattle.range_tracker.specs.Tracked.{Tracked}
use Rattle.range_tracker.specs.Commands.{Reply, MayAnswer, after_command, after_reply, after_replies, AreReplies}
use Rattle.range_tracker.specs.declared.tracker.Command.{Command}
use Rattle.range_merge.specs.Boundaries.{member}
use Rattle.std.specs.Ordering.{nat_cmp}

-- what a command and its reply leave
pub offsets_after_reply : (command : Command) (reply : Reply) (old new : Tracked) →
    OnOk reply ((n : ℕ) → member nat_cmp new.boundaries n ≡ after_command command (member nat_cmp old.boundaries) n) →
    OnErr reply (new ≡ old) →
    (n : ℕ) → member nat_cmp new.boundaries n ≡ after_reply command reply (member nat_cmp old.boundaries) n
offsets_after_reply command (Ok done) old new ok err n = ok n
offsets_after_reply command (Err why) old new ok err n = ap (λ (t : Tracked). member nat_cmp t.boundaries n) err

-- the same answers stand where the same offsets are there
pub MayAnswer-same : (limit : ℕ) (had here : Offsets) (command : Command) (reply : Reply) → ((n : ℕ) → had n ≡ here n) →
    MayAnswer limit had command reply → MayAnswer limit here command reply
MayAnswer-same limit had here command reply same may = subst (λ (s : Offsets). MayAnswer limit s command reply) (fun_ext same) may

pub after_reply-same : (had here : Offsets) (command : Command) (reply : Reply) → ((n : ℕ) → had n ≡ here n) →
    (n : ℕ) → after_reply command reply had n ≡ after_reply command reply here n
after_reply-same had here command reply same n = ap (λ (s : Offsets). after_reply command reply s n) (fun_ext same)

-- one more command and its reply
pub after_replies-snoc : (limit : ℕ) (had : Offsets) (commands : List Command) (replies : List Reply) (command : Command) (reply : Reply) →
    AreReplies limit had commands replies →
    after_replies (commands ++ command ∷ []) (replies ++ reply ∷ []) had ≡ after_reply command reply (after_replies commands replies had)
after_replies-snoc limit had [] [] command reply are = refl
after_replies-snoc limit had [] (r ∷ rs) command reply are = absurd are
after_replies-snoc limit had (c ∷ cs) [] command reply are = absurd are
after_replies-snoc limit had (c ∷ cs) (r ∷ rs) command reply are =
    after_replies-snoc limit (after_reply c r had) cs rs command reply are.1

pub AreReplies-snoc : (limit : ℕ) (had : Offsets) (commands : List Command) (replies : List Reply) (command : Command) (reply : Reply) →
    AreReplies limit had commands replies → MayAnswer limit (after_replies commands replies had) command reply →
    AreReplies limit had (commands ++ command ∷ []) (replies ++ reply ∷ [])
AreReplies-snoc limit had [] [] command reply are may = (may, tt)
AreReplies-snoc limit had [] (r ∷ rs) command reply are may = absurd are
AreReplies-snoc limit had (c ∷ cs) [] command reply are may = absurd are
AreReplies-snoc limit had (c ∷ cs) (r ∷ rs) command reply are may =
    (are.0, AreReplies-snoc limit (after_reply c r had) cs rs command reply are.1 may)

-- a loop over commands that has answered the first i of them

module _ (had : Offsets) (commands : List Command) (replies : List Reply) (i : ℕ) (d : Command) (reply : Reply) (start old new : Tracked)
    (here : i < length commands) (there : i < length replies)
    (are : AreReplies start.limit had (take i commands) (take i replies))
    (left : (n : ℕ) → member nat_cmp old.boundaries n ≡ after_replies (take i commands) (take i replies) had n)
    (may : MayAnswer old.limit (member nat_cmp old.boundaries) (get_or commands i d) reply) where
  pub AreReplies-more : old.limit ≡ start.limit →
      AreReplies start.limit had (take (i + 1) commands) (take (i + 1) (set replies i reply))
  AreReplies-more same =
      rw (take_more commands i d here, take_more_set replies i reply there)
      (AreReplies-snoc start.limit had (take i commands) (take i replies) (get_or commands i d) reply are
      (MayAnswer-same start.limit (member nat_cmp old.boundaries) (after_replies (take i commands) (take i replies) had) (get_or commands i d) reply left
      (subst (λ limit. MayAnswer limit (member nat_cmp old.boundaries) (get_or commands i d) reply) same may)))

  pub after_replies-more :
      OnOk reply ((n : ℕ) → member nat_cmp new.boundaries n ≡ after_command (get_or commands i d) (member nat_cmp old.boundaries) n) →
      OnErr reply (new ≡ old) →
      (n : ℕ) → member nat_cmp new.boundaries n ≡ after_replies (take (i + 1) commands) (take (i + 1) (set replies i reply)) had n
  after_replies-more ok err n =
      offsets_after_reply (get_or commands i d) reply old new ok err n
      ∙ after_reply-same (member nat_cmp old.boundaries) (after_replies (take i commands) (take i replies) had) (get_or commands i d) reply left n
      ∙ sym (rw (take_more commands i d here, take_more_set replies i reply there)
      (ap (λ (s : Offsets). s n) (after_replies-snoc start.limit had (take i commands) (take i replies) (get_or commands i d) reply are)))
