use Rattle.std.proofs.Common.{[], ◌∷◌, ◌≤◌, length, arith}
use Rattle.std.proofs.lemmas.List.{length-append, take_all, take-append-le, drop-append-le}
use Rattle.std.proofs.lemmas.List.Elements.{all_zip_more}
use Rattle.std.proofs.Math.Seq.{take-length, drop-length}
use Rattle.range_merge.proofs.compare.Copier.append.Goals as goal

pub loop-item-init : goal.loop-item-init
loop-item-init g c = record {
  kept = rw c.reserve.ensures.items (take-length c.args.list.now.items);
  copied = rw (c.reserve.ensures.items, drop-length c.args.list.now.items) tt;
  len = rw c.reserve.ensures.items (omega arith);
  room = omega (arith, c.in_ok-reserve.ensures.ok);
}

pub push_reserved-requires : goal.push_reserved-requires
push_reserved-requires g c = omega (arith, c.loop-item.invariant.len, c.loop-item.invariant.room)

pub loop-item-preserved : goal.loop-item-preserved
loop-item-preserved g c =
    let was = c.args.list.now.items in
    let list = c.loop-item.list.items in
    let item = c.in_ok-copy.field-0 in
    let held = c.loop-item.invariant in
    let within : length was ≤ length list = omega (arith, held.len) in
    record {
      kept = rw (c.push_reserved.ensures.items, take-append-le (length was) list (item ∷ []) within) held.kept;
      copied =
          rw (c.push_reserved.ensures.items, drop-append-le (length was) list (item ∷ []) within)
          (all_zip_more g.Self.Copier.alike c.args.items.now _ c.loop-item.item-index c.item-item.result item (omega arith) c.item-item.is held.copied c.in_ok-copy.ensures.alike);
      len = rw c.push_reserved.ensures.items (simp length-append (omega (arith, held.len)));
      room = rw c.push_reserved.ensures.capacity held.room;
    }

pub returns-clause-copied : goal.returns-clause-copied
returns-clause-copied g c = rw (take_all c.loop-item.item-index c.args.items.now (omega arith)) at c.loop-item.invariant.copied
