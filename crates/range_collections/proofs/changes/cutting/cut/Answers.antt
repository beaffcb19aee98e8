use Rattle.std.proofs.Common.{◌≡◌, ap, sym, ◌∙◌, ◌+◌}
use Rattle.range_collections.specs.Splicing.{IsFoundAt, IsMissingAt}
use Rattle.range_collections.proofs.Changing.{IsCut-moved}
use Rattle.range_collections.proofs.Insertion.{IsCut-before_found, IsCut-after_found, IsCut-missing, IsCut-put, same_from_beq, other_from_beq}
use Rattle.range_collections.proofs.changes.cutting.cut.Goals as goal

pub returns-in-Ok-clause-cut : goal.returns-in-Ok-clause-cut
returns-in-Ok-clause-cut g c =
    let it : IsFoundAt g.T.Ord.cmp (g.L.Boundaries.items c.args.list) c.args.at (g.L.Boundaries.index c.args.list c.in-Ok.p) = rw c.in-Ok.is at c.requires.found in
    IsCut-before_found g.met.T.Ord.total c.args.inside (g.L.Boundaries.items c.args.list) c.args.at (g.L.Boundaries.index c.args.list c.in-Ok.p) c.requires.sorted it.within it.equal
    (sym c.is_odd.ensures ∙ same_from_beq c.is_odd.result c.args.inside c.if-is_odd-inside.true)

pub returns-in-Ok-2-clause-cut : goal.returns-in-Ok-2-clause-cut
returns-in-Ok-2-clause-cut g c =
    let same : c.in-Ok.p ≡ c.in-Ok-2.p = cc (c.in-Ok.is, c.in-Ok-2.is) in
    let it : IsFoundAt g.T.Ord.cmp (g.L.Boundaries.items c.args.list) c.args.at (g.L.Boundaries.index c.args.list c.in-Ok.p) = rw c.in-Ok.is at c.requires.found in
    IsCut-moved _ _ _ _ _ _ _ (ap (λ p. g.L.Boundaries.index c.args.list p + 1) same ∙ sym c.position_after.ensures.after)
    (IsCut-after_found g.met.T.Ord.total c.args.inside (g.L.Boundaries.items c.args.list) c.args.at (g.L.Boundaries.index c.args.list c.in-Ok.p) c.requires.sorted it.within it.equal
    (λ is. other_from_beq c.is_odd.result c.args.inside c.if-is_odd-inside.false (c.is_odd.ensures ∙ is)))

pub returns-in-Err-clause-cut : goal.returns-in-Err-clause-cut
returns-in-Err-clause-cut g c =
    let it : IsMissingAt g.T.Ord.cmp (g.L.Boundaries.items c.args.list) c.args.at (g.L.Boundaries.index c.args.list c.in-Err.p) = rw c.in-Err.is at c.requires.found in
    IsCut-missing g.met.T.Ord.total c.args.inside (g.L.Boundaries.items c.args.list) c.args.at (g.L.Boundaries.index c.args.list c.in-Err.p) c.requires.sorted it.within it.before it.from
    (sym c.is_odd-in-Err-1.ensures ∙ same_from_beq c.is_odd-in-Err-1.result c.args.inside c.if-is_odd-inside-2.true)

pub returns-clause-cut : goal.returns-clause-cut
returns-clause-cut g c =
    let it : IsMissingAt g.T.Ord.cmp (g.L.Boundaries.items c.args.list) c.args.at (g.L.Boundaries.index c.args.list c.in-Err.p) = rw c.in-Err.is at c.requires.found in
    let same : c.in-Err.p ≡ c.in-Err-2.p = cc (c.in-Err.is, c.in-Err-2.is) in
    IsCut-moved _ _ _ _ _ _ _ (ap (λ p. g.L.Boundaries.index c.args.list p) same)
    (IsCut-put g.met.T.Ord.total c.args.inside (g.L.Boundaries.items c.args.list) c.args.at (g.L.Boundaries.index c.args.list c.in-Err.p) c.requires.sorted it.within it.before it.from
    (λ is. other_from_beq c.is_odd-in-Err-1.result c.args.inside c.if-is_odd-inside-2.false (c.is_odd-in-Err-1.ensures ∙ is)))
