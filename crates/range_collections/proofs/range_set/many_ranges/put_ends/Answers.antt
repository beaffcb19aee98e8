use Rattle.std.proofs.Common.{◌≡◌, sym, ap, subst, refl, cond, [], ◌∷◌}
use Rattle.std.specs.Prelude.{⊤}
use Rattle.std.specs.List.{AllZip}
use Rattle.std.specs.declared.cmp.Ordering.TheVariants.{Less}
use Rattle.range_collections.specs.Ranges.{range_items}
use Rattle.range_collections.proofs.ManyRanges.{IsAdded-copies, IsAdded-none, range_is}
use Rattle.range_collections.proofs.Values.{not_less-from_none}
use Rattle.range_collections.proofs.range_set.many_ranges.put_ends.Goals as goal

pub returns-then-not-has_elements-clause-added : goal.returns-then-not-has_elements-clause-added
returns-then-not-has_elements-clause-added g c =
    let r = c.args.range in
    let none : range_items g.T.Ord.cmp r.start r.end ≡ [] =
    ap (λ b. cond b (r.start ∷ r.end ∷ []) []) (not_less-from_none c.has_elements.result _ c.has_elements.ensures.answer c.if-not-has_elements.true) in
    IsAdded-none g.met.T.Ord.total (λ x y. x ≡ y) (λ x. ⊤) g.row.N c.args.list.now.items _ c.requires none

pub returns-clause-added : goal.returns-clause-added
returns-clause-added g c =
    let r = c.args.range in
    let less : g.T.Ord.cmp r.start r.end ≡ Less = c.has_elements.ensures.answer.0 c.if-not-has_elements.false in
    let own : AllZip (λ x y. x ≡ y) (range_items g.T.Ord.cmp r.start r.end) (r.start ∷ r.end ∷ []) =
    subst (λ ends. AllZip (λ x y. x ≡ y) ends (r.start ∷ r.end ∷ [])) (sym (range_is g.met.T.Ord.total r.start r.end less)) (refl, (refl, tt)) in
    IsAdded-copies g.met.T.Ord.total (λ x y. x ≡ y) (λ x. ⊤) g.row.N c.args.list.now.items _ (r.start ∷ r.end ∷ []) c.put.new.list.items c.put.result
    own c.put.ensures.means c.put.ensures.left_own_item c.put.ensures.succeeds
