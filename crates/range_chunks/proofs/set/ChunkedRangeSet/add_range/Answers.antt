use Rattle.std.proofs.Common.{◌≡◌, ap, cond, arith, subst, sym, false, [], ◌∷◌}
use Rattle.std.specs.List.{AllZip}
use Rattle.std.specs.Ordering.{is_lt}
use Rattle.std.specs.declared.cmp.Ordering.TheVariants.{Less}
use Rattle.range_collections.specs.Ranges.{range_items}
use Rattle.range_collections.proofs.ManyRanges.{Less-copies, IsAdded-copies, IsAdded-none, range_is}
use Rattle.range_collections.proofs.Values.{not_less-from_none}
use Rattle.range_list.specs.Lists.{joined}
use Rattle.range_chunks.proofs.set.ChunkedRangeSet.add_range.Goals as goal

pub returns-then-not-has_elements : goal.returns-then-not-has_elements
returns-then-not-has_elements g c =
    let r = c.args.range.now in
    let off : is_lt (g.T.Ord.cmp r.start r.end) ≡ false = not_less-from_none c.has_elements.result _ c.has_elements.ensures.answer c.if-not-has_elements.true in
    rw (← c.self.view_is)
    (IsAdded-none g.met.T.Ord.total g.T.EntryClone.is_copy g.T.EntryClone.is_infallible 0 (joined c.self.inside.list) _ c.self.invariant
    (ap (λ b. cond b (r.start ∷ r.end ∷ []) []) off))

pub returns : goal.returns
returns g c =
    let order = g.T.Ord.cmp in
    let r = c.args.range.now in
    let x = c.in_ok-start.start in
    let y = c.in_ok-end.end in
    let less : order r.start r.end ≡ Less = c.has_elements.ensures.answer.0 c.if-not-has_elements.false in
    let two : range_items order x y ≡ x ∷ y ∷ [] =
    range_is g.met.T.Ord.total x y (Less-copies g.met.T.Ord.total r.start r.end x y c.in_ok-start.ensures.same c.in_ok-end.ensures.same less) in
    let copied : AllZip g.T.EntryClone.is_copy (range_items order r.start r.end) (x ∷ y ∷ []) =
    subst (λ ends. AllZip g.T.EntryClone.is_copy ends (x ∷ y ∷ [])) (sym (range_is g.met.T.Ord.total r.start r.end less))
    (c.in_ok-start.ensures.copy, (c.in_ok-end.ensures.copy, tt)) in
    let changed = rw two at c.insert.ensures.changed in
    IsAdded-copies g.met.T.Ord.total g.T.EntryClone.is_copy g.T.EntryClone.is_infallible 0 _ _ (x ∷ y ∷ []) _ c.insert.result
    copied changed.means changed.left_own_item (λ few. absurd (omega (arith, few)))
