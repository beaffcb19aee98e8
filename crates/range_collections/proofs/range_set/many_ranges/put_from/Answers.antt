use Rattle.std.proofs.Common.{◌≡◌, sym, subst, refl, [], ◌∷◌}
use Rattle.std.specs.Prelude.{⊤}
use Rattle.std.specs.List.{AllZip}
use Rattle.range_collections.proofs.ManyRanges.{IsAdded-copies}
use Rattle.range_collections.proofs.range_set.many_ranges.put_from.Goals as goal

pub returns : goal.returns
returns g c =
    let own : AllZip (λ x y. x ≡ y) (c.args.range.start ∷ []) c.in_ok-that.that =
    subst (λ ys. AllZip (λ x y. x ≡ y) (c.args.range.start ∷ []) ys) (sym c.in_ok-that.ensures.boundaries) (refl, tt) in
    IsAdded-copies g.met.T.Ord.total (λ x y. x ≡ y) (λ x. ⊤) g.row.N c.args.set.now (c.args.range.start ∷ []) c.in_ok-that.that c.add_all.new.set c.add_all.result
    own c.add_all.ensures.means c.add_all.ensures.left_own_item c.add_all.ensures.succeeds
