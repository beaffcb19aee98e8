use Rattle.std.proofs.Common.{◌≡◌, ◌<◌, ◌-◌, ap, sym, ◌∙◌, true, false, length, arith, rules}
use Rattle.std.proofs.lemmas.List.{get_or_default}
use Rattle.std.specs.Ordering.{is_ge, ord_min}
use Rattle.range_c.proofs.Opened.{IsExtended-start, IsExtended-more, extended-whole, extended-apart}
use Rattle.range_c.proofs.ranges.extended.Goals as goal
use Rattle.range_c.proofs.ranges.extended.Goals.{then-loop-kept-test+else-is_ge, else-loop-kept-test}

pub loop-kept-init : goal.loop-kept-init
loop-kept-init g c = IsExtended-start g.met.E.Number.Ord.total g.E.Ends.first g.E.Ends.last c.args.ranges.now c.args.from

pub loop-kept-preserved : goal.loop-kept-preserved
loop-kept-preserved g c =
    let order = g.E.Number.Ord.cmp in
    let at = c.loop-kept in
    let r = c.index-ranges-kept.result in
    let inside : at.kept - 1 < length c.args.ranges.now = omega (arith, at.invariant.within, c.loop-kept-test.true) in
    let same : c.index-ranges-kept-in-loop-kept.result ≡ r =
    c.index-ranges-kept-in-loop-kept.is ∙ get_or_default c.args.ranges.now (at.kept - 1) c.index-ranges-kept-in-loop-kept.result r inside ∙ sym c.index-ranges-kept.is in
    let low : c.min-start.result ≡ ord_min order at.start (g.E.Ends.first r) = c.min-start.ensures ∙ ap (ord_min order at.start) (c.start.ensures ∙ ap g.E.Ends.first same) in
    let reaches : is_ge (order (g.E.Ends.last r) at.start) ≡ true = search rules in
    rw low
    (IsExtended-more g.met.E.Number.Ord.total g.E.Ends.first g.E.Ends.last c.args.ranges.now c.args.from at.start at.kept r at.invariant c.loop-kept-test.true c.index-ranges-kept.is reaches)

pub returns-clause-union : goal.returns-clause-union
returns-clause-union g c =
    let at = c.loop-kept in
    elim c.loop-kept-test.branch [
      | then-loop-kept-test+else-is_ge w ↦
          let apart : is_ge (g.E.Number.Ord.cmp (g.E.Ends.last w.index-ranges-kept.result) at.start) ≡ false = search rules in
          extended-apart g.met.E.Number.Ord.total g.E.Ends.first g.E.Ends.last c.args.ranges.now c.args.from at.start at.kept w.index-ranges-kept.result
          c.requires at.invariant w.loop-kept-test.true w.index-ranges-kept.is apart
      | else-loop-kept-test w ↦
          extended-whole g.met.E.Number.Ord.total g.E.Ends.first g.E.Ends.last c.args.ranges.now c.args.from at.start at.kept at.invariant (omega (arith, w.loop-kept-test.false))
    ]
