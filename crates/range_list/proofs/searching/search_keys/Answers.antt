use Rattle.std.proofs.Common.{◌<◌, ◌-◌, ◌+◌, ◌/◌, ◌∙◌, ap, length, map, sym, arith}
use Rattle.std.proofs.lemmas.List.{length-map}
use Rattle.range_merge.specs.Runs.{digits}
use Rattle.range_merge.proofs.Digits.{digits-le, digits-half}
use Rattle.range_list.proofs.Found.{key-read}
use Rattle.range_list.proofs.Halves.{digits-window, IsWindow-half}
use Rattle.range_list.proofs.searching.search_keys.Goals as goal

pub compare-how-requires : goal.compare-how-requires
compare-how-requires g c = omega (arith, digits-le (length (map g.L.KeyOf.key_of c.args.items.now)), c.loop-left.invariant.at_most, c.loop-left.invariant.fits, c.requires.made)

pub returns-then-is_eq-clause-comparisons : goal.returns-then-is_eq-clause-comparisons
returns-then-is_eq-clause-comparisons g c = record {
  at_least = omega (arith, c.loop-left.invariant.at_least, c.compare-how.ensures.counted);
  at_most = omega (arith, digits-half 0 c.loop-left.left (omega arith) (omega arith), digits-window c.loop-left.front c.loop-left.left, ap digits (length-map c.args.items.now g.L.KeyOf.key_of), c.loop-left.invariant.at_most, c.compare-how.ensures.counted);
}

pub loop-left-preserved : goal.loop-left-preserved
loop-left-preserved g c =
    let at = c.loop-left.front + (c.loop-left.left - 1) / 2 in
    let within : at < length c.args.items.now = omega (arith, c.loop-left.invariant.within, length-map c.args.items.now g.L.KeyOf.key_of) in
    rw (c.select_unpredictable-front.ensures, c.is_lt.ensures)
    (IsWindow-half g.C.Compare.order g.met.C.Compare.total (map g.L.KeyOf.key_of c.args.items.now) c.args.key.now c.requires.ascending
    c.loop-left.front c.loop-left.left (g.L.KeyOf.key_of c.index-items-at.result) _ _ _ c.compare-how.result (omega arith)
    (sym (key-read g.L.KeyOf.key_of c.args.items.now at c.index-items-at.result (g.L.KeyOf.key_of c.index-items-at.result) within c.index-items-at.is))
    (ap (λ k. g.C.Compare.order k c.args.key.now) (sym c.key_of.ensures) ∙ sym c.compare-how.ensures.answer)
    (sym c.is_eq.ensures ∙ c.if-is_eq.false) c.compare-how.ensures.counted c.loop-left.invariant)
