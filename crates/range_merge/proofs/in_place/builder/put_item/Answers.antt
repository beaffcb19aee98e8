use Rattle.std.proofs.Common.{◌<◌, ◌++◌, ◌∷◌, [], length, ap, ◌∙◌, arith}
use Rattle.std.proofs.lemmas.List.{drop-set-lt, length-set, take_more_set}
use Rattle.range_merge.proofs.in_place.builder.put_item.Goals as goal

pub set-requires : goal.set-requires
set-requires g c = omega (arith, c.with_hole-first.ensures.hole, c.with_hole-first.ensures.sound.within)

pub returns-clause-sound : goal.returns-clause-sound
returns-clause-sound g c =
    let opened = c.with_hole-first.ensures in
    rw (c.set.ensures.items, c.set.ensures.room)
    record {
      ordered = omega (arith, opened.hole);
      within = rw length-set opened.sound.within;
      enough = rw length-set (omega (arith, c.requires.some, opened.sound.enough));
    }

pub returns-clause-kept : goal.returns-clause-kept
returns-clause-kept g c =
    let opened = c.with_hole-first.ensures in
    let list = g.L.Indexed.items c.with_hole-first.new.list in
    let within : c.args.kept < length list = omega (arith, opened.hole, opened.sound.within) in
    rw c.set.ensures.items (take_more_set list c.args.kept c.args.value within ∙ ap (λ ys. ys ++ c.args.value ∷ []) opened.kept)

pub returns-clause-unread : goal.returns-clause-unread
returns-clause-unread g c =
    let opened = c.with_hole-first.ensures in
    let list = g.L.Indexed.items c.with_hole-first.new.list in
    rw c.set.ensures.items (drop-set-lt c.with_hole-first.result list c.args.kept c.args.value (omega (arith, opened.hole)) ∙ opened.unread)
