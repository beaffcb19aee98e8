use Rattle.std.proofs.Common.{◌⊎◌, inl, inr, refl, sym, ◌∙◌, true≢false, ◌<◌, ◌≤◌, IsOk, length, arith}
use Rattle.range_collections.specs.Ranges.{range_boundaries}
use Rattle.range_collections.proofs.Underway.{All-unit, no_room, room-left, some_left, underway-aside_on, underway-put_on}
use Rattle.range_collections.proofs.range_set.many_ranges.add_anywhere.Goals.{else-is_empty-via-then-is_empty+else-takes, else-is_empty-via-else-is_empty}
use Rattle.range_collections.proofs.range_set.many_ranges.add_anywhere.Goals as goal

pub returns-then-takes : goal.returns-then-takes
returns-then-takes g c = record {
  underway = λ ranges u.
      underway-put_on g.met.T.Ord.total g.row.N ranges c.args.range c.args.set.now c.args.aside.now.starts.items c.args.aside.now.ends.items c.put_range.new.set c.put_range.result
      u (c.is_empty.ensures.0 c.if-is_empty.true) c.put_range.ensures;
  succeeds = λ ranges u few.
      c.put_range.ensures.succeeds
      (room-left g.met.T.Ord.total g.row.N ranges c.args.range c.args.set.now c.args.aside.now.starts.items c.args.aside.now.ends.items u few).1
      (All-unit (range_boundaries g.T.Ord.cmp c.args.range));
  in_order = λ none low. refl;
}

pub returns-else-is_empty : goal.returns-else-is_empty
returns-else-is_empty g c =
    let full =
    elim c.else-is_empty.branch as (λ _. (0 < length c.args.aside.now.starts.items) ⊎ (g.row.N ≤ length c.args.set.now)) [
      | else-is_empty-via-then-is_empty+else-takes w ↦ inr (no_room (length c.args.set.now) g.row.N w.takes.result w.takes.ensures.room w.if-takes.false)
      | else-is_empty-via-else-is_empty w ↦ inl (some_left c.args.aside.now.starts.items c.is_empty.result c.is_empty.ensures.1 w.if-is_empty.false)
    ] in
    record {
      underway = λ ranges u.
          underway-aside_on g.met.T.Ord.total g.row.N ranges c.args.range c.args.set.now c.args.aside.now.starts.items c.args.aside.now.ends.items
          c.push.new.self.starts.items c.push.new.self.ends.items c.push.result u full c.push.ensures.starts c.push.ensures.ends;
      succeeds = λ ranges u few.
          let left = room-left g.met.T.Ord.total g.row.N ranges c.args.range c.args.set.now c.args.aside.now.starts.items c.args.aside.now.ends.items u few in
          elim full as (λ _. IsOk c.push.result) [
            | inl some ↦ absurd (omega (arith, left.0, some))
            | inr none ↦ c.push.ensures.succeeds (omega (arith, left.1, none))
          ];
      in_order = λ none low.
          absurd
          (elim c.else-is_empty.branch as (λ _. ⊥) [
            | else-is_empty-via-then-is_empty+else-takes w ↦
                true≢false
                (sym ((w.takes.ensures.in_order (no_room (length c.args.set.now) g.row.N w.takes.result w.takes.ensures.room w.if-takes.false)).1 low) ∙ w.if-takes.false)
            | else-is_empty-via-else-is_empty w ↦ true≢false (sym (c.is_empty.ensures.1 none) ∙ w.if-is_empty.false)
          ]);
    }
