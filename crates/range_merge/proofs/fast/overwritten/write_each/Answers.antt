use Rattle.std.proofs.Common.{◌<◌, length, ◌∙◌, arith}
use Rattle.std.proofs.lemmas.List.{take_more_set, length-set}
use Rattle.std.proofs.lemmas.List.Elements.{all_zip_more}
use Rattle.range_merge.proofs.fast.overwritten.write_each.Goals as goal

pub loop-i-preserved : goal.loop-i-preserved
loop-i-preserved g c =
    let held = c.loop-i.invariant in
    let slots = c.loop-i.slots in
    let copied = c.in_ok-slots.field-0 in
    let among : c.loop-i.i < length c.args.items.now = omega arith in
    let within : c.loop-i.i < length slots = omega (arith, among, held.long, c.requires.room) in
    record {
      copies =
          rw (take_more_set slots c.loop-i.i copied within)
          (all_zip_more g.P.Copier.alike c.args.items.now _ c.loop-i.i c.index-items-i.result copied among c.index-items-i.is held.copies c.in_ok-slots.ensures.alike);
      long = length-set slots c.loop-i.i copied ∙ held.long;
    }
