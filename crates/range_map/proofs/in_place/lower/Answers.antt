use Rattle.std.proofs.Common.{◌≡◌, ◌<◌, ◌≤◌, length, get_or, refl, sym, ap, ◌∙◌, option_copied, arith}
use Rattle.std.specs.Option.{is_some}
use Rattle.std.specs.declared.cmp.Ordering.TheVariants.{Less}
use Rattle.range_list.specs.Lists.{joined, place_at}
use Rattle.range_list.proofs.Placed.{place_at-within}
use Rattle.range_merge.proofs.Orders.{Less-from_greater}
use Rattle.range_map.specs.Listed.{steps_in}
use Rattle.range_map.proofs.Listed.{item-read, item-within, item-past, length-keys}
use Rattle.range_map.proofs.Nexts.{IsBelowFrom-key, below-from, AllWithin-more, IsNext-left, IsNext-both, IsNext-right}
use Rattle.range_map.proofs.in_place.lower.Goals as goal

pub returns-in_default : goal.returns-in_default
returns-in_default g c =
    let lists = c.args.steps.now in
    let xs = (steps_in lists).keys in
    let i = place_at lists c.args.at in
    let past : length xs ≤ i = item-past xs i c.key_at.result c.key_at.ensures (ap is_some c.in_default.is) in
    IsNext-right g.K.Ord.cmp g.met.K.Ord.total lists c.args.that.now.keys c.requires.ascending c.requires.that_ascends i c.args.index _ c.requires.place c.requires.place (omega arith)
    (omega (arith, place_at-within lists c.args.at c.requires.place, length-keys (joined lists))) (omega (arith, c.requires.within))
    c.requires.within (λ d. sym (c.key-key.ensures d)) refl refl refl c.requires.left_below (λ m d low high. absurd (omega (arith, low, high, past)))

pub place_after-behind-requires-clause-item : goal.place_after-behind-requires-clause-item
place_after-behind-requires-clause-item g c =
    let lists = c.args.steps.now in
    omega (arith, item-within (steps_in lists).keys (place_at lists c.args.at) c.key_at.result c.key_at.ensures (ap is_some c.in-Some.is), length-keys (joined lists))

pub place_after-behind-requires-in-Equal-clause-item : goal.place_after-behind-requires-in-Equal-clause-item
place_after-behind-requires-in-Equal-clause-item g c =
    let lists = c.args.steps.now in
    omega (arith, item-within (steps_in lists).keys (place_at lists c.args.at) c.key_at.result c.key_at.ensures (ap is_some c.in-Some.is), length-keys (joined lists))

pub known_below-requires-clause-below : goal.known_below-requires-clause-below
known_below-requires-clause-below g c =
    let lists = c.args.steps.now in
    let xs = (steps_in lists).keys in
    let i = place_at lists c.args.at in
    rw c.place_after-behind.ensures.after
    (AllWithin-more g.K.Ord.cmp g.met.K.Ord.total (λ y. g.K.Ord.cmp y c.key-key.result.now ≡ Less) xs i c.in-Some.own.now
    (λ d. item-read xs i c.key_at.result c.in-Some.own.now d c.key_at.ensures (ap option_copied c.in-Some.is)) (sym c.cmp.ensures ∙ c.in-Less.is)
    (λ m d low high. ap (g.K.Ord.cmp (get_or xs m d)) (c.key-key.ensures c.key-key.result.now) ∙ c.requires.left_below m d low high c.args.index c.key-key.result.now (omega arith) c.requires.within))

pub returns-in-Less : goal.returns-in-Less
returns-in-Less g c =
    let lists = c.args.steps.now in
    let xs = (steps_in lists).keys in
    let ks = c.args.that.now.keys in
    let i = place_at lists c.args.at in
    let more : i < length xs = item-within xs i c.key_at.result c.key_at.ensures (ap is_some c.in-Some.is) in
    IsNext-left g.K.Ord.cmp g.met.K.Ord.total lists ks c.requires.ascending c.requires.that_ascends i c.args.index _ c.place_after-behind.ensures.place c.known_below.ensures.place c.known_below.ensures.ordered
    (omega (arith, more)) (omega (arith, c.requires.within))
    more (λ d. item-read xs i c.key_at.result c.in-Some.own.now d c.key_at.ensures (ap option_copied c.in-Some.is)) c.place_after-behind.ensures.after refl
    (below-from g.K.Ord.cmp g.met.K.Ord.total xs ks (place_at lists c.known_below.result) c.args.index c.key-key.result.now c.requires.that_ascends c.requires.within (λ d. sym (c.key-key.ensures d)) c.known_below.ensures.below)
    c.requires.right_below

pub returns-in-Equal : goal.returns-in-Equal
returns-in-Equal g c =
    let lists = c.args.steps.now in
    let xs = (steps_in lists).keys in
    let i = place_at lists c.args.at in
    let more : i < length xs = item-within xs i c.key_at.result c.key_at.ensures (ap is_some c.in-Some.is) in
    IsNext-both g.K.Ord.cmp g.met.K.Ord.total lists c.args.that.now.keys c.requires.ascending c.requires.that_ascends i c.args.index _ c.place_after-behind-in-Equal.ensures.place c.place_after-behind-in-Equal.ensures.place (omega arith)
    (omega (arith, more)) (omega (arith, c.requires.within))
    more (λ d. item-read xs i c.key_at.result c.in-Some.own.now d c.key_at.ensures (ap option_copied c.in-Some.is)) c.requires.within
    (λ d. sym (ap (g.K.Ord.cmp c.in-Some.own.now) (c.key-key.ensures d)) ∙ sym c.cmp.ensures ∙ c.in-Equal.is)
    c.place_after-behind-in-Equal.ensures.after c.place_after-behind-in-Equal.ensures.after refl

pub returns-in-Greater : goal.returns-in-Greater
returns-in-Greater g c =
    let lists = c.args.steps.now in
    let xs = (steps_in lists).keys in
    let i = place_at lists c.args.at in
    let more : i < length xs = item-within xs i c.key_at.result c.key_at.ensures (ap is_some c.in-Some.is) in
    IsNext-right g.K.Ord.cmp g.met.K.Ord.total lists c.args.that.now.keys c.requires.ascending c.requires.that_ascends i c.args.index _ c.requires.place c.requires.place (omega arith)
    (omega (arith, more)) (omega (arith, c.requires.within))
    c.requires.within (λ d. sym (c.key-key.ensures d)) refl refl refl c.requires.left_below
    (IsBelowFrom-key g.K.Ord.cmp g.met.K.Ord.total xs c.requires.ascending i c.in-Some.own.now c.key-key.result.now more
    (λ d. item-read xs i c.key_at.result c.in-Some.own.now d c.key_at.ensures (ap option_copied c.in-Some.is))
    (Less-from_greater g.met.K.Ord.total c.in-Some.own.now c.key-key.result.now (sym c.cmp.ensures ∙ c.in-Greater.is)))
