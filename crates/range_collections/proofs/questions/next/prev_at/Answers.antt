use Rattle.std.proofs.Common.{◌≡◌, ◌∙◌, ◌+◌, refl, sym, subst, take, length, IfSome, IfNone}
use Rattle.std.specs.declared.cmp.Ordering.TheVariants.{Less}
use Rattle.range_merge.specs.Boundaries.{IsAscending, count_up_to}
use Rattle.range_collections.proofs.Cut.{IsAscending-take}
use Rattle.range_collections.proofs.Insertion.{same_from_beq, other_from_beq}
use Rattle.range_collections.proofs.Previous.{IsPrevious-itself, IsPrevious-made, not_there-none}
use Rattle.range_collections.proofs.Searched.{from-front}
use Rattle.range_collections.proofs.questions.next.prev_at.Goals as goal

pub returns-then-is_odd-inside-clause-previous :
    goal.returns-then-is_odd-inside-clause-previous
returns-then-is_odd-inside-clause-previous g c =
    IsPrevious-itself g.met.T.Ord.total g.T.RangeSetEntry.is_value (g.L.Boundaries.items c.args.list) c.args.from.now (g.L.Boundaries.index c.args.list c.up_to-before.result) c.args.inside
    c.up_to-before.ensures.within c.up_to-before.ensures.before c.up_to-before.ensures.from c.known.ensures
    (sym c.is_odd.ensures ∙ same_from_beq c.is_odd.result c.args.inside c.if-is_odd-inside.true)

pub value_below-requires : goal.value_below-requires
value_below-requires g c κs =
    let n = g.L.Boundaries.index c.args.list c.up_to-before.result in
    let is : g.L.Unread.Unread.unread c.between.result ≡ take n (g.L.Boundaries.items c.args.list) =
    (rw c.front.ensures.index at c.between.ensures) ∙ from-front (g.L.Boundaries.items c.args.list) n in
    ((refl, tt), subst (IsAscending g.T.Ord.cmp) (sym is) (IsAscending-take g.T.Ord.cmp n (g.L.Boundaries.items c.args.list) c.requires))

pub returns-clause-previous : goal.returns-clause-previous
returns-clause-previous g c =
    let n = g.L.Boundaries.index c.args.list c.up_to-before.result in
    let is : g.L.Unread.Unread.unread c.between.result ≡ take n (g.L.Boundaries.items c.args.list) =
    (rw c.front.ensures.index at c.between.ensures) ∙ from-front (g.L.Boundaries.items c.args.list) n in
    IsPrevious-made g.met.T.Ord.total g.T.RangeSetEntry.is_value (g.L.Boundaries.items c.args.list) c.args.from.now n c.args.inside
    c.up_to-before.ensures.within c.up_to-before.ensures.before c.up_to-before.ensures.from
    (λ same. other_from_beq c.is_odd.result c.args.inside c.if-is_odd-inside.false (c.is_odd.ensures ∙ same))
    c.value_below.result c.value_below.ensures.value
    (subst (λ l. IfSome c.value_below.result (λ at. count_up_to g.T.Ord.cmp l at + 1 ≡ length l)) is c.value_below.ensures.below)
    (subst (λ l. IfSome c.value_below.result (λ at. (x : _) → g.T.RangeSetEntry.is_value x → g.T.Ord.cmp at x ≡ Less → count_up_to g.T.Ord.cmp l x ≡ length l)) is c.value_below.ensures.greatest)

pub returns-clause-none : goal.returns-clause-none
returns-clause-none g c =
    let n = g.L.Boundaries.index c.args.list c.up_to-before.result in
    let is : g.L.Unread.Unread.unread c.between.result ≡ take n (g.L.Boundaries.items c.args.list) =
    (rw c.front.ensures.index at c.between.ensures) ∙ from-front (g.L.Boundaries.items c.args.list) n in
    not_there-none g.met.T.Ord.total g.T.RangeSetEntry.is_value (g.L.Boundaries.items c.args.list) c.args.from.now n c.args.inside
    c.up_to-before.ensures.within c.up_to-before.ensures.before c.up_to-before.ensures.from
    (λ same. other_from_beq c.is_odd.result c.args.inside c.if-is_odd-inside.false (c.is_odd.ensures ∙ same))
    c.value_below.result
    (subst (λ l. IfNone c.value_below.result ((x : _) → g.T.RangeSetEntry.is_value x → count_up_to g.T.Ord.cmp l x ≡ length l)) is c.value_below.ensures.none)
