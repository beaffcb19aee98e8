use Rattle.std.proofs.Common.{◌≡◌, refl, ◌∷◌, ◌++◌, [], ◌∙◌, ◌/◌, sym, ap, append_assoc, length, arith}
use Rattle.std.proofs.Math.Nat.{min-le_left}
use Rattle.std.proofs.lemmas.List.{length-append}
use Rattle.range_map.specs.Entries.{entry_now}
use Rattle.range_c.proofs.Entries.{CopiesEntries-all, CopiesEntries-full, PutsText-entry_ends, PutsText-value, length-entry_ends}
use Rattle.range_c.proofs.Put.{PutsText-nothing, length-range_ends}
use Rattle.range_c.proofs.mapped.put_entries.Goals as goal

pub loop-range-init : goal.loop-range-init
loop-range-init g c = record {
  small_ends = omega arith;
  small_values = omega arith;
  done = [];
  counted = refl;
  within = omega arith;
  ends = PutsText-nothing 0 _;
  values = PutsText-nothing 0 _;
  unread = refl;
}

pub put_ends-len-requires : goal.put_ends-len-requires
put_ends-len-requires g c =
    let before = c.loop-range.invariant in
    let one = entry_now (c.in-Some.range, c.in-Some.value) in
    record { fits = omega (arith, before.small_ends, before.ends.counted, before.counted, before.within, c.if-count-room.false, c.min-room.ensures, min-le_left (length c.args.ends.now / 2) (length c.args.values.now), length-entry_ends before.done, length-range_ends one.0) }

pub loop-range-preserved : goal.loop-range-preserved
loop-range-preserved g c =
    let before = c.loop-range.invariant in
    let one = entry_now (c.in-Some.range, c.in-Some.value) in
    let next : c.loop-range.range-iterator ≡ one ∷ c.next.new.self = c.in-Some.ensures.steps in
    record {
      small_ends = before.small_ends;
      small_values = before.small_values;
      done = before.done ++ (one ∷ []);
      counted = omega (arith, length-append before.done (one ∷ []), before.counted, c.put_one-count.ensures.counted);
      within = omega (arith, before.counted, before.within, c.if-count-room.false, c.min-room.ensures, c.put_one-count.ensures.counted);
      ends = PutsText-entry_ends before.done one _ _ _ _ _ before.ends c.put_ends-len.ensures;
      values = PutsText-value before.done one _ _ _ _ _ before.values c.put_one-count.ensures;
      unread = append_assoc before.done (one ∷ []) c.next.new.self ∙ ap (λ rest. before.done ++ rest) (sym next) ∙ before.unread;
    }

pub returns-then-count-room : goal.returns-then-count-room
returns-then-count-room g c =
    let before = c.loop-range.invariant in
    rw (← c.into_iter-range-iterator.ensures.into_iter_gives) (CopiesEntries-full _ before.done c.loop-range.range-iterator _ _ _ _ _ _ before.ends before.values before.unread (omega (arith, before.counted, c.if-count-room.true, c.min-room.ensures)))

pub returns : goal.returns
returns g c =
    let before = c.loop-range.invariant in
    rw (← c.into_iter-range-iterator.ensures.into_iter_gives) (CopiesEntries-all _ before.done c.loop-range.range-iterator _ _ _ _ _ _ before.ends before.values before.unread c.in-None.ensures.steps.0 (omega (arith, before.counted, before.within)))
