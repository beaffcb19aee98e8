use Rattle.std.proofs.Common.{[], refl, sym, ◌∙◌, arith}
use Rattle.std.proofs.lemmas.Bool.{false≢true}
use Rattle.std.proofs.lemmas.List.{append-nil, length-append, take_all}
use Rattle.std.proofs.lemmas.List.Elements.{All-get_or}
use Rattle.range_merge.proofs.CopiesLemmas.{IsAppended-more}
use Rattle.range_merge.proofs.merge_state.small_vec.append_copies.Goals as goal

pub returns-then-not-take-clause-copied : goal.returns-then-not-take-clause-copied
returns-then-not-take-clause-copied g c =
    rw c.if-not-take.true
    record { copies = []; alike_to = tt; appended = sym (append-nil (g.L.GrowsAtEnd.items c.args.list.now)) }

pub returns-then-not-take-clause-succeeds : goal.returns-then-not-take-clause-succeeds
returns-then-not-take-clause-succeeds g c = λ _ _. refl

pub returns-then-not-take-clause-had_room : goal.returns-then-not-take-clause-had_room
returns-then-not-take-clause-had_room g c = λ _. refl

pub returns-in_err-reserve-clause-succeeds : goal.returns-in_err-reserve-clause-succeeds
returns-in_err-reserve-clause-succeeds g c = λ fits _. absurd (false≢true (c.in_err-reserve.ensures.succeeds fits))

pub loop-item-init : goal.loop-item-init
loop-item-init g c = record {
  copied = record {
    copies = [];
    alike_to = tt;
    appended = c.reserve.ensures.items ∙ sym (append-nil (g.L.GrowsAtEnd.items c.args.list.now));
  };
  room = omega (arith, c.in_ok-reserve.ensures.ok);
  same_room = c.reserve.ensures.had_room;
}

pub returns-in_err-copy-clause-succeeds : goal.returns-in_err-copy-clause-succeeds
returns-in_err-copy-clause-succeeds g c = λ _ infallible.
    let item_infallible = rw (← c.item-item.is) at (All-get_or g.P.Copier.is_infallible c.args.items.now c.loop-item.item-index c.item-item.result (omega arith) infallible) in
    absurd (false≢true (c.in_err-copy.ensures.succeeds item_infallible))

pub push-requires : goal.push-requires
push-requires g c = omega (arith, c.loop-item.invariant.room)

pub loop-item-preserved : goal.loop-item-preserved
loop-item-preserved g c = record {
  copied =
      rw c.push.ensures.items
      (IsAppended-more _ _ _ _ c.loop-item.item-index c.item-item.result c.in_ok-copy.field-0 (omega arith) c.item-item.is c.in_ok-copy.ensures.alike c.loop-item.invariant.copied);
  room = rw (c.push.ensures.items, c.push.ensures.room) (simp length-append (omega (arith, c.loop-item.invariant.room)));
  same_room = λ fits. c.push.ensures.room ∙ c.loop-item.invariant.same_room fits;
}

pub returns-clause-copied : goal.returns-clause-copied
returns-clause-copied g c =
    rw c.if-not-take.false (rw (take_all c.loop-item.item-index c.args.items.now (omega arith)) at c.loop-item.invariant.copied)

pub returns-clause-succeeds : goal.returns-clause-succeeds
returns-clause-succeeds g c = λ _ _. refl

pub returns-clause-had_room : goal.returns-clause-had_room
returns-clause-had_room g c = c.loop-item.invariant.same_room
