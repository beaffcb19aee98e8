use Rattle.std.proofs.Common.{◌∙◌, sym}
use Rattle.range_collections.proofs.Insertion.{same_from_beq, other_from_beq}
use Rattle.range_collections.proofs.Next.{IsNext-itself, IsNext-item, none-item}
use Rattle.range_collections.proofs.Searched.{item-read}
use Rattle.range_collections.proofs.questions.next.next_at.Goals as goal

pub returns-then-is_odd-inside-clause-next : goal.returns-then-is_odd-inside-clause-next
returns-then-is_odd-inside-clause-next g c =
    IsNext-itself g.met.T.Ord.total (g.L.Boundaries.items c.args.list) c.args.from.now (g.L.Boundaries.index c.args.list c.up_to-before.result) c.args.inside c.requires
    c.up_to-before.ensures.within c.up_to-before.ensures.before c.up_to-before.ensures.from
    (sym c.is_odd.ensures ∙ same_from_beq c.is_odd.result c.args.inside c.if-is_odd-inside.true)

pub returns-clause-next : goal.returns-clause-next
returns-clause-next g c =
    IsNext-item g.met.T.Ord.total (g.L.Boundaries.items c.args.list) c.args.from.now (g.L.Boundaries.index c.args.list c.up_to-before.result) c.args.inside c.requires
    c.up_to-before.ensures.within c.up_to-before.ensures.before c.up_to-before.ensures.from
    (λ same. other_from_beq c.is_odd.result c.args.inside c.if-is_odd-inside.false (c.is_odd.ensures ∙ same)) c.item_at.result
    (item-read (g.L.Boundaries.items c.args.list) (g.L.Boundaries.index c.args.list c.up_to-before.result) c.item_at.result c.item_at.ensures)

pub returns-clause-none : goal.returns-clause-none
returns-clause-none g c =
    none-item g.met.T.Ord.total (g.L.Boundaries.items c.args.list) c.args.from.now (g.L.Boundaries.index c.args.list c.up_to-before.result) c.args.inside c.requires
    c.up_to-before.ensures.within c.up_to-before.ensures.before c.up_to-before.ensures.from
    (λ same. other_from_beq c.is_odd.result c.args.inside c.if-is_odd-inside.false (c.is_odd.ensures ∙ same)) c.item_at.result
    (item-read (g.L.Boundaries.items c.args.list) (g.L.Boundaries.index c.args.list c.up_to-before.result) c.item_at.result c.item_at.ensures)
