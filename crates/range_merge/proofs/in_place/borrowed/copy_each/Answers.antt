use Rattle.std.proofs.Common.{◌<◌, length, ◌∙◌, arith}
use Rattle.std.proofs.lemmas.List.{take_more_set, length-set}
use Rattle.std.proofs.lemmas.List.Elements.{all_zip_more}
use Rattle.range_merge.proofs.in_place.borrowed.copy_each.Goals as goal

pub loop-i-preserved : goal.loop-i-preserved
loop-i-preserved g c =
    let held = c.loop-i.invariant in
    let slots = c.loop-i.slots in
    let copied = c.in-Ok.copied in
    let within : c.loop-i.i < length slots = omega arith in
    record {
      copies =
          rw (take_more_set slots c.loop-i.i copied within)
          (all_zip_more g.P.Copier.alike c.args.items.now _ c.loop-i.i c.index-items-i.result copied (omega (arith, held.as_many)) c.index-items-i.is held.copies c.in-Ok.ensures.alike);
      as_many = length-set slots c.loop-i.i copied ∙ held.as_many;
    }
