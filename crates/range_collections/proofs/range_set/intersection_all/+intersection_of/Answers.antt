use Rattle.std.proofs.Common.{[], ◌++◌, sym, ap, ◌∙◌}
use Rattle.std.proofs.lemmas.List.{append-nil}
use Rattle.range_collections.proofs.Intersections.{GivesIntersection-one, GivesIntersection-refused, GivesIntersection-cut}
use Rattle.range_collections.proofs.Unions.{GivesUnion-one}
use Rattle.range_collections.proofs.range_set.intersection_all.+intersection_of.Goals as goal

pub returns-in-1 : goal.returns-in-1
returns-in-1 g t c =
    GivesIntersection-one g.met.T.Ord.total g.T.EntryClone.is_copy g.T.EntryClone.is_infallible (λ set. set.boundaries.now) _ c.args.sets.now c.copied.result c.in-1.is
    (GivesUnion-one g.met.T.Ord.total g.T.EntryClone.is_copy g.T.EntryClone.is_infallible g.met.T.EntryClone.copy_is_equal (λ set. set.boundaries.now) _
    c.args.sets.now c.index-sets-0.result c.copied.result c.in-1.is (sym c.index-sets-0.is)
    c.index-sets-0.result.sorted c.copied.ensures.copies c.copied.ensures.succeeds)

pub returns-in_err-set-in_default : goal.returns-in_err-set-in_default
returns-in_err-set-in_default g t c =
    GivesIntersection-refused g.met.T.Ord.total g.T.EntryClone.is_copy g.T.EntryClone.is_infallible (λ set. set.boundaries.now) _
    c.args.sets.now [] c.split_at.result.0.now c.split_at.result.1.now c.in_err-set-in_default.field-0.0
    c.from_residual.result c.split_at.ensures.by_index.0 c.from_residual.ensures.0 c.in_err-set-in_default.ensures

pub returns-in_err-that-in_default : goal.returns-in_err-that-in_default
returns-in_err-that-in_default g t c =
    GivesIntersection-refused g.met.T.Ord.total g.T.EntryClone.is_copy g.T.EntryClone.is_infallible (λ set. set.boundaries.now) _
    c.args.sets.now c.split_at.result.0.now c.split_at.result.1.now [] c.in_err-that-in_default.field-0.0
    c.from_residual-in_err-that-in_default.result (c.split_at.ensures.by_index.0 ∙ ap (λ back. c.split_at.result.0.now ++ back) (sym (append-nil c.split_at.result.1.now)))
    c.from_residual-in_err-that-in_default.ensures.0 c.in_err-that-in_default.ensures

pub returns-in_ok-that-in_default : goal.returns-in_ok-that-in_default
returns-in_ok-that-in_default g t c =
    GivesIntersection-cut g.met.T.Ord.total g.T.EntryClone.is_copy g.T.EntryClone.is_infallible (λ set. set.boundaries.now) _
    c.args.sets.now c.split_at.result.0.now c.split_at.result.1.now c.in_ok-set-in_default.set c.in_ok-that-in_default.that
    c.cut_to.result c.split_at.ensures.by_index.0 c.in_ok-set-in_default.ensures c.in_ok-that-in_default.ensures c.cut_to.ensures.means c.cut_to.ensures.succeeds
