use Rattle.std.proofs.Common.{◌≡◌, ◌&&◌, ◌++◌, ◌∷◌, [], ap, ap₂, sym, ◌∙◌}
use Rattle.range_merge.specs.Boundaries.{member}
use Rattle.range_merge.proofs.SameSet.{IsSameSet-from_items}
use Rattle.range_collections.proofs.Values.{member-one}
use Rattle.range_chunks.proofs.set.ChunkedRangeSet.members_from.Goals as goal

pub returns : goal.returns
returns g c = λ x.
    let order = g.T.Ord.cmp in
    let o = g.met.T.Ord.total in
    let at = c.args.at.now in
    let copy = c.in_ok-entry_clone.field-0 in
    let is : c.as_slice.result.now ≡ copy ∷ [] = c.as_slice.ensures.value ∙ c.in_ok-push.ensures.items ∙ ap (λ xs. xs ++ copy ∷ []) c.new-from.ensures.items in
    c.in_ok-merged_apart.ensures.members x (λ _. tt)
    ∙ ap₂ (λ p q. p && q) (ap (λ xs. member order xs x) c.self.view_is)
    (ap (λ xs. member order xs x) is ∙ sym (IsSameSet-from_items o (at ∷ []) (copy ∷ []) (c.in_ok-entry_clone.ensures.same, tt) x) ∙ member-one o at x)
