use Rattle.std.proofs.Common.{◌≡◌, ◌∙◌, sym, ap, ◌<◌, ◌-◌, List, [], ◌∷◌, length, get_or, arith, Bool, true, false, not, refl}
use Rattle.std.proofs.lemmas.List.{get_or_default}
use Rattle.range_c.proofs.Kept.{left_by-first, left_by-repeat, left_by-other, left_by-all}
use Rattle.range_c.proofs.unsorted.keep_distinct.Goals.{then-ne, else-ne}
use Rattle.range_c.proofs.unsorted.keep_distinct.Goals as goal

not-false : (b : Bool) → not b ≡ true → b ≡ false
not-false true e = cc
not-false false e = refl

not-true : (b : Bool) → not b ≡ false → b ≡ true
not-true true e = refl
not-true false e = cc

pub loop-i-init : goal.loop-i-init
loop-i-init g c = record {
  some_kept = omega arith;
  in_front = omega arith;
  so_far = λ d. left_by-first g.T.PartialEq.eq c.args.items.now d (grind (arith, c.if-is_empty.false, c.is_empty.ensures));
}

pub loop-i-preserved : goal.loop-i-preserved
loop-i-preserved g c =
    let at = c.loop-i in
    let E = g.T.PartialEq.eq in
    let x = c.index-items-i.result in
    let inside : at.i < length at.items = omega arith in
    let last : (d : _) → E x (get_or at.items (at.kept - 1) c.index-items-kept.result) ≡ E x (get_or at.items (at.kept - 1) d) =
    λ d. ap (E x) (get_or_default at.items (at.kept - 1) c.index-items-kept.result d (omega arith)) in
    elim c.if-ne.branch [
      | then-ne w ↦ rw (w.items-is, w.kept-is) (record {
        some_kept = omega arith;
        in_front = omega arith;
        so_far = λ d. left_by-other E at.items at.kept at.i x d at.invariant.some_kept at.invariant.in_front inside c.index-items-i.is
            (sym (last d) ∙ not-false _ (sym c.ne.ensures ∙ w.if-ne.true)) ∙ at.invariant.so_far d;
      })
      | else-ne w ↦ rw (w.items-is, w.kept-is) (record {
        some_kept = at.invariant.some_kept;
        in_front = omega arith;
        so_far = λ d. left_by-repeat E at.items at.kept at.i x d at.invariant.in_front inside c.index-items-i.is
            (sym (last d) ∙ not-true _ (sym c.ne.ensures ∙ w.if-ne.false)) ∙ at.invariant.so_far d;
      })
    ]

pub returns-clause-distinct : goal.returns-clause-distinct
returns-clause-distinct g c =
    let at = c.loop-i in
    let some : 0 < length c.args.items.now = grind (arith, c.if-is_empty.false, c.is_empty.ensures) in
    by_item c.args.items.now some
    (λ d. sym (left_by-all g.T.PartialEq.eq at.items at.kept at.i d at.invariant.some_kept (omega arith) (omega arith)) ∙ at.invariant.so_far d)
  where
    by_item : {X G : Type 0} (xs : List X) → 0 < length xs → ((d : X) → G) → G
    by_item [] h f = absurd (omega arith)
    by_item (x ∷ xs) h f = f x
