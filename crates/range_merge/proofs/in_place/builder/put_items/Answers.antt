use Rattle.std.proofs.Common.{◌+◌, take, ◌∙◌, arith}
use Rattle.std.proofs.Math.Seq.{take-add}
use Rattle.range_merge.proofs.Exchanges.{drop-further}
use Rattle.range_merge.proofs.in_place.builder.put_items.Goals as goal

pub put_from-requires : goal.put_from-requires
put_from-requires g c = record {
  within = omega (arith, c.with_hole-first.ensures.hole, c.with_hole-first.ensures.sound.within);
  some = c.requires.some;
}

pub returns-clause-sound : goal.returns-clause-sound
returns-clause-sound g c =
    let opened = c.with_hole-first.ensures in
    let put = c.put_from.ensures in
    rw put.room
    record {
      ordered = omega (arith, opened.hole);
      within = rw put.len opened.sound.within;
      enough = rw put.len (omega (arith, c.requires.some, c.requires.puts, opened.sound.enough));
    }

pub returns-clause-kept : goal.returns-clause-kept
returns-clause-kept g c = λ ts held.
    let items = g.L.Indexed.items in
    let put = c.put_from.ensures in
    rw (take-add c.args.kept c.args.n (items c.put_from.new.self), put.front, c.with_hole-first.ensures.kept)
    (put.put ts (take c.args.kept (items c.args.list.now)) held)

pub returns-clause-unread : goal.returns-clause-unread
returns-clause-unread g c =
    let items = g.L.Indexed.items in
    let opened = c.with_hole-first.ensures in
    drop-further (c.args.kept + c.args.n) c.with_hole-first.result (items c.put_from.new.self) (items c.with_hole-first.new.list) opened.hole c.put_from.ensures.after
    ∙ opened.unread
