use Rattle.std.proofs.Common.{take, arith, refl, sym, true≢false}
use Rattle.std.proofs.lemmas.List.{length-take-le, take_all}
use Rattle.std.proofs.lemmas.List.Elements.{all_zip_more, length_all_zip}
use Rattle.std.proofs.lemmas.Result.{IfOk-from_err}
use Rattle.range_collections.proofs.range_set.copying.copies_inline.Goals as goal

pub push_reserved-requires : goal.push_reserved-requires
push_reserved-requires g c =
    let n = length_all_zip g.C.Copier.alike (take c.loop-item.item-index c.args.items.now) c.loop-item.list.items c.loop-item.invariant.copies in
    omega (arith, n, length-take-le c.loop-item.item-index c.args.items.now (omega arith), c.loop-item.invariant.room)

pub loop-item-preserved : goal.loop-item-preserved
loop-item-preserved g c = record {
  copies =
      rw c.push_reserved.ensures.items
      (all_zip_more g.C.Copier.alike c.args.items.now c.loop-item.list.items c.loop-item.item-index c.item-item.result
      c.in_ok-copy.field-0 (omega arith) c.item-item.is c.loop-item.invariant.copies c.in_ok-copy.ensures.alike);
  room = rw c.push_reserved.ensures.capacity c.loop-item.invariant.room;
}

pub loop-item-init : goal.loop-item-init
loop-item-init g c = record {
  copies = rw c.new-list.ensures.items tt;
  room = rw c.new-list.ensures.capacity c.requires;
}

pub returns-in_err-copy-clause-copies : goal.returns-in_err-copy-clause-copies
returns-in_err-copy-clause-copies g c = IfOk-from_err c.from_residual.result _ c.from_residual.ensures.0

pub returns-in_err-copy-clause-succeeds : goal.returns-in_err-copy-clause-succeeds
returns-in_err-copy-clause-succeeds g c =
    λ infallible.
    let here : g.C.Copier.is_infallible c.item-item.result = rw c.item-item.is (infallible c.loop-item.item-index c.item-item.result (omega arith)) in
    absurd (true≢false (sym (c.in_err-copy.ensures.succeeds here)))

pub returns-clause-copies : goal.returns-clause-copies
returns-clause-copies g c = rw (take_all c.loop-item.item-index c.args.items.now (omega arith)) at c.loop-item.invariant.copies

pub returns-clause-succeeds : goal.returns-clause-succeeds
returns-clause-succeeds g c = λ _. refl
