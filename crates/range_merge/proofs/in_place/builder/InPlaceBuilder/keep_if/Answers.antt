use Rattle.std.proofs.Common.{◌∙◌, sym}
use Rattle.std.proofs.lemmas.List.{append-nil}
use Rattle.range_merge.proofs.in_place.builder.InPlaceBuilder.keep_if.Goals as goal

pub returns-then-wanted-clause-kept : goal.returns-then-wanted-clause-kept
returns-then-wanted-clause-kept g c = rw c.if-wanted.true c.keep.ensures.kept

pub returns-then-wanted-clause-unread : goal.returns-then-wanted-clause-unread
returns-then-wanted-clause-unread g c = c.keep.ensures.unread

pub returns-then-wanted-clause-puts_left : goal.returns-then-wanted-clause-puts_left
returns-then-wanted-clause-puts_left g c = c.keep.ensures.puts_left

pub returns-clause-kept : goal.returns-clause-kept
returns-clause-kept g c = rw c.if-wanted.false (c.skip.ensures.kept ∙ sym (append-nil c.args.self.now.kept))

pub returns-clause-unread : goal.returns-clause-unread
returns-clause-unread g c = c.skip.ensures.unread

pub returns-clause-puts_left : goal.returns-clause-puts_left
returns-clause-puts_left g c = c.skip.ensures.puts_left

pub returns-then-wanted-clause-room : goal.returns-then-wanted-clause-room
returns-then-wanted-clause-room g c = c.keep.ensures.room

pub returns-clause-room : goal.returns-clause-room
returns-clause-room g c = c.skip.ensures.room
