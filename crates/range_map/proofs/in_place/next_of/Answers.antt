use Rattle.std.proofs.Common.{◌≡◌, Option, Some, None, sym, ap, subst, arith}
use Rattle.std.specs.List.{AllWithin}
use Rattle.std.specs.Option.{IfSome}
use Rattle.range_list.specs.Lists.{joined, place_at, IsPlaceAt}
use Rattle.range_list.proofs.Placed.{place_at-within}
use Rattle.range_map.specs.Combining.{IsBelowFrom}
use Rattle.range_map.specs.Listed.{steps_in}
use Rattle.range_map.proofs.Listed.{length-keys}
use Rattle.range_map.proofs.Nexts.{IsNext-left}
use Rattle.range_map.proofs.in_place.next_of.Goals as goal

if_some-all : {X : Type 0} (r : Option X) (P Q R S T G : X → Type 0) → ((x : X) → P x → Q x → R x → S x → T x → G x) → IfSome r P → IfSome r Q → IfSome r R → IfSome r S → IfSome r T → IfSome r G
if_some-all None P Q R S T G to p q r s t = tt
if_some-all (Some x) P Q R S T G to p q r s t = to x p q r s t

pub returns-then-is_before-clause-next : goal.returns-then-is_before-clause-next
returns-then-is_before-clause-next g c =
    let lists = c.args.steps.now in
    let xs = (steps_in lists).keys in
    let i = place_at lists c.args.at in
    if_some-all c.next_left.result _ _ _ _ _ _
    (λ n key place after same within.
    let e : place_at lists n.below ≡ place_at lists c.args.below = ap (place_at lists) same.0 in
    IsNext-left g.K.Ord.cmp g.met.K.Ord.total lists c.args.that.now.keys c.requires.ascending c.requires.that_ascends i c.args.index n place
    (subst (λ p. IsPlaceAt lists p) (sym same.0) c.requires.below_place) (omega (arith, after, e, c.is_before.ensures.some c.if-is_before.true))
    (omega (arith, within, length-keys (joined lists))) c.requires.within (omega (arith, within, length-keys (joined lists))) (λ d. sym (key d)) after same.1
    (subst (λ m. AllWithin (IsBelowFrom g.K.Ord.cmp c.args.that.now.keys c.args.index) xs 0 m) (sym e) c.requires.left_below) c.requires.right_below)
    c.next_left.ensures.key c.next_left.ensures.place c.next_left.ensures.after c.next_left.ensures.same c.next_left.ensures.within

pub returns-then-is_before-clause-all : goal.returns-then-is_before-clause-all
returns-then-is_before-clause-all g c = λ none.
    absurd (omega (arith, c.next_left.ensures.end none, c.is_before.ensures.some c.if-is_before.true, place_at-within c.args.steps.now c.args.below c.requires.below_place))

pub returns-clause-next : goal.returns-clause-next
returns-clause-next g c =
    let lists = c.args.steps.now in
    let i = place_at lists c.args.at in
    if_some-all c.next_left-2.result _ _ _ _ _ _
    (λ n key place after same within.
    let e : place_at lists n.below ≡ place_at lists c.end.result = ap (place_at lists) same.0 in
    IsNext-left g.K.Ord.cmp g.met.K.Ord.total lists c.args.that.now.keys c.requires.ascending c.requires.that_ascends i c.args.index n place
    (subst (λ p. IsPlaceAt lists p) (sym same.0) c.end.ensures.place) (omega (arith, after, e, c.end.ensures.all, within))
    (omega (arith, within, length-keys (joined lists))) c.requires.within (omega (arith, within, length-keys (joined lists))) (λ d. sym (key d)) after same.1
    (λ m d low high l f least most. absurd (omega (arith, least, most, c.if-index-len.false, c.len.ensures))) c.requires.right_below)
    c.next_left-2.ensures.key c.next_left-2.ensures.place c.next_left-2.ensures.after c.next_left-2.ensures.same c.next_left-2.ensures.within
