use Rattle.std.proofs.Common.{◌++◌, ℕ, ap₂, sym, ◌∙◌, subst, arith}
use Rattle.std.specs.List.{AllWithin}
use Rattle.std.specs.Option.{option_eq}
use Rattle.range_list.specs.Lists.{joined, place_at}
use Rattle.range_list.proofs.Placed.{place_at-within}
use Rattle.range_map.specs.Combining.{IsBelowFrom, IsMadeUpTo}
use Rattle.range_map.specs.Listed.{steps_of, steps_in}
use Rattle.range_map.proofs.Listed.{length-keys}
use Rattle.range_map.proofs.Windowed.{IsMadeUpTo-next, apart-behind, dropped-to}
use Rattle.range_map.proofs.in_place.put_next.Goals as goal

pub returns-then-is_off-clause-made : goal.returns-then-is_off-clause-made
returns-then-is_off-clause-made g c = λ front before made.
    let order = g.K.Ord.cmp in
    let f = g.O.MapOperation.gives c.args.op.now in
    let lists = c.args.steps.now in
    let a = steps_in lists in
    let b = c.args.that.now in
    let next = c.requires.next in
    let off = c.is_off.ensures c.if-is_off.true in
    subst (λ (m : ℕ). IsMadeUpTo order g.V.PartialEq.eq f a b (place_at lists c.args.next.now.below) m (steps_of (front ++ c.args.list.now.items))) (sym off.0)
    (dropped-to order g.met.K.Ord.total g.V.PartialEq.eq g.met.V.Eq.laws f (c.requires.skips c.if-skips.true) a c.requires.ascending b c.requires.that_ascends
    (place_at lists c.args.at) (place_at lists c.args.next.now.below) c.args.index (front ++ c.args.list.now.items)
    (omega (arith, next.left.on, next.ordered)) (omega (arith, place_at-within lists c.args.next.now.below next.below_place, length-keys (joined lists))) c.requires.within off.1
    (subst (λ (m : ℕ). AllWithin (IsBelowFrom order b.keys m) a.keys 0 (place_at lists c.args.next.now.below)) off.0 next.left_below) made)

pub returns-clause-right_below : goal.returns-clause-right_below
returns-clause-right_below g c =
    apart-behind g.K.Ord.cmp g.met.K.Ord.total c.args.that.now.keys (steps_in c.args.steps.now).keys _ _ _ _ _ c.requires.next.right c.requires.next.left

pub returns-clause-made : goal.returns-clause-made
returns-clause-made g c = λ front before made.
    let E = g.V.PartialEq.eq in
    let f = g.O.MapOperation.gives c.args.op.now in
    IsMadeUpTo-next g.K.Ord.cmp g.met.K.Ord.total E g.met.V.Eq.laws f (steps_in c.args.steps.now) c.args.that.now _ _ _ _
    (steps_of (front ++ c.args.list.now.items)) (steps_of (front ++ c.put.new.list.items)) _ c.in_ok-option.option
    made (c.in_ok-put.ensures front before) c.requires.next.left c.requires.next.right c.requires.next.onward
    (sym (ap₂ (λ p q. option_eq E c.in_ok-option.option (f p q)) c.option_before.ensures c.option_before-2.ensures) ∙ c.in_ok-option.ensures)
