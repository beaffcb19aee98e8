use Rattle.std.proofs.Common.{◌≡◌, ◌+◌, ◌∷◌, ℕ, List, set, None, true, false, take, get_or, sym, ap, ap₂, ◌∙◌, subst, arith}
use Rattle.std.specs.List.{swap}
use Rattle.std.specs.Option.{option_eq}
use Rattle.range_list.specs.Lists.{joined, place_at}
use Rattle.range_map.specs.Combining.{IsPut}
use Rattle.range_map.specs.Listed.{steps_of}
use Rattle.range_map.specs.Updated.{kept_at}
use Rattle.range_map.specs.declared.step.Step.{Step}
use Rattle.range_map.proofs.Retained.{item_at, IsPut-stays, IsPut-moved, later-stays, later-moved, len-stays, len-moved}
use Rattle.range_map.proofs.retaining.keep_step.Goals as goal

pub is_like_last-requires-clause-end : goal.is_like_last-requires-clause-end
is_like_last-requires-clause-end g c = (c.drop_unkept.ensures.places c.args.end c.requires.end).0

pub is_like_last-requires-clause-at : goal.is_like_last-requires-clause-at
is_like_last-requires-clause-at g c = (c.drop_unkept.ensures.places c.args.at c.requires.at).0

pub is_like_last-requires-clause-item : goal.is_like_last-requires-clause-item
is_like_last-requires-clause-item g c =
    let items = joined c.args.steps.now in
    let i = place_at c.args.steps.now c.args.at in
    let d = (item_at items i c.requires.item).0 in
    omega (
      arith,
      c.requires.item,
      (c.drop_unkept.ensures.places c.args.at c.requires.at).1,
      len-stays g.K.Ord.cmp g.met.K.Ord.total g.V.PartialEq.eq items (place_at c.args.steps.now c.args.end) i c.requires.ordered c.requires.item (g.F.RangeFilter.is_kept c.args.filter.now) d
          (joined c.drop_unkept.new.steps) (c.drop_unkept.ensures.items d),
    )

pub returns-then-is_like_last-clause-len : goal.returns-then-is_like_last-clause-len
returns-then-is_like_last-clause-len g c =
    let items = joined c.args.steps.now in
    let i = place_at c.args.steps.now c.args.at in
    let d = (item_at items i c.requires.item).0 in
    len-stays g.K.Ord.cmp g.met.K.Ord.total g.V.PartialEq.eq items (place_at c.args.steps.now c.args.end) i c.requires.ordered c.requires.item (g.F.RangeFilter.is_kept c.args.filter.now) d
    (joined c.drop_unkept.new.steps) (c.drop_unkept.ensures.items d)

pub returns-then-is_like_last-clause-later : goal.returns-then-is_like_last-clause-later
returns-then-is_like_last-clause-later g c =
    let items = joined c.args.steps.now in
    let i = place_at c.args.steps.now c.args.at in
    let d = (item_at items i c.requires.item).0 in
    later-stays g.K.Ord.cmp g.met.K.Ord.total g.V.PartialEq.eq items (place_at c.args.steps.now c.args.end) i c.requires.ordered c.requires.item (g.F.RangeFilter.is_kept c.args.filter.now) d
    (joined c.drop_unkept.new.steps) (c.drop_unkept.ensures.items d)

pub returns-then-is_like_last-clause-place : goal.returns-then-is_like_last-clause-place
returns-then-is_like_last-clause-place g c = (c.drop_unkept.ensures.places c.args.end c.requires.end).0

pub returns-then-is_like_last-clause-ordered : goal.returns-then-is_like_last-clause-ordered
returns-then-is_like_last-clause-ordered g c = omega (arith, c.requires.ordered, (c.drop_unkept.ensures.places c.args.end c.requires.end).1)

pub returns-then-is_like_last-clause-put : goal.returns-then-is_like_last-clause-put
returns-then-is_like_last-clause-put g c = λ d.
    let order = g.K.Ord.cmp in
    let E = g.V.PartialEq.eq in
    let lists = c.args.steps.now in
    let items = joined lists in
    let i = place_at lists c.args.at in
    let n = place_at lists c.args.end in
    let test = g.F.RangeFilter.is_kept c.args.filter.now in
    let new = joined c.drop_unkept.new.steps in
    let is = c.drop_unkept.ensures.items d in
    let on : c.is_like_last.result ≡ true = c.if-is_like_last.true in
    let put = IsPut-stays order g.met.K.Ord.total E items n i c.requires.ordered c.requires.item test d c.is_like_last.result (c.is_like_last.ensures
    ∙ ap₂ (λ m k. option_eq E (get_or (None ∷ (steps_of (joined c.drop_unkept.new.steps)).options) m None) (get_or (steps_of (joined c.drop_unkept.new.steps)).options k None))
    (c.drop_unkept.ensures.places c.args.end c.requires.end).1 (c.drop_unkept.ensures.places c.args.at c.requires.at).1
    ∙ ap (λ (xs : List (Step g.row.K.Denot g.row.V.Denot)). option_eq E (get_or (None ∷ (steps_of xs).options) n None) (get_or (steps_of xs).options i None)) (c.drop_unkept.ensures.items d)) on new is in
    subst (λ (m : ℕ). IsPut order E (steps_of (take n items)) (get_or items i d).key (kept_at test items i d).option (steps_of (take m new))) (sym (c.drop_unkept.ensures.places c.args.end c.requires.end).1) put

pub swap-requires-clause-a : goal.swap-requires-clause-a
swap-requires-clause-a g c = (c.drop_unkept.ensures.places c.args.end c.requires.end).0

pub swap-requires-clause-b : goal.swap-requires-clause-b
swap-requires-clause-b g c = (c.drop_unkept.ensures.places c.args.at c.requires.at).0

pub swap-requires-clause-ordered : goal.swap-requires-clause-ordered
swap-requires-clause-ordered g c =
    omega (arith, c.requires.ordered, (c.drop_unkept.ensures.places c.args.end c.requires.end).1, (c.drop_unkept.ensures.places c.args.at c.requires.at).1)

pub swap-requires-clause-b_item : goal.swap-requires-clause-b_item
swap-requires-clause-b_item g c =
    let items = joined c.args.steps.now in
    let i = place_at c.args.steps.now c.args.at in
    let d = (item_at items i c.requires.item).0 in
    omega (
      arith,
      c.requires.item,
      (c.drop_unkept.ensures.places c.args.at c.requires.at).1,
      len-stays g.K.Ord.cmp g.met.K.Ord.total g.V.PartialEq.eq items (place_at c.args.steps.now c.args.end) i c.requires.ordered c.requires.item (g.F.RangeFilter.is_kept c.args.filter.now) d
          (joined c.drop_unkept.new.steps) (c.drop_unkept.ensures.items d),
    )

pub place_after-requires-clause-place : goal.place_after-requires-clause-place
place_after-requires-clause-place g c =
    (c.swap.ensures.places c.args.end (c.drop_unkept.ensures.places c.args.end c.requires.end).0).0

pub place_after-requires-clause-item : goal.place_after-requires-clause-item
place_after-requires-clause-item g c =
    let order = g.K.Ord.cmp in
    let o = g.met.K.Ord.total in
    let E = g.V.PartialEq.eq in
    let lists = c.args.steps.now in
    let items = joined lists in
    let i = place_at lists c.args.at in
    let n = place_at lists c.args.end in
    let test = g.F.RangeFilter.is_kept c.args.filter.now in
    let first = c.drop_unkept.ensures.places c.args.end c.requires.end in
    let second = c.drop_unkept.ensures.places c.args.at c.requires.at in
    let after = c.swap.ensures.places c.args.end first.0 in
    let new = joined c.swap.new.self in
    let is : (d : Step g.row.K.Denot g.row.V.Denot) → new ≡ swap (set items i (kept_at test items i d)) n i =
    λ (d : Step g.row.K.Denot g.row.V.Denot).
    c.swap.ensures.items ∙ ap (λ m. swap (joined c.drop_unkept.new.steps) m (place_at c.drop_unkept.new.steps c.args.at)) first.1
    ∙ ap (λ m. swap (joined c.drop_unkept.new.steps) n m) second.1 ∙ ap (λ (xs : List (Step g.row.K.Denot g.row.V.Denot)). swap xs n i) (c.drop_unkept.ensures.items d) in
    let d = (item_at items i c.requires.item).0 in
    omega (arith, c.requires.item, c.requires.ordered, first.1, after.1, len-moved order o E items n i c.requires.ordered c.requires.item test d new (is d))

pub returns-clause-places : goal.returns-clause-places
returns-clause-places g c = λ p here.
    let one = c.drop_unkept.ensures.places p here in
    let two = c.swap.ensures.places p one.0 in
    (two.0, two.1 ∙ one.1)

pub returns-clause-len : goal.returns-clause-len
returns-clause-len g c =
    let order = g.K.Ord.cmp in
    let o = g.met.K.Ord.total in
    let E = g.V.PartialEq.eq in
    let lists = c.args.steps.now in
    let items = joined lists in
    let i = place_at lists c.args.at in
    let n = place_at lists c.args.end in
    let test = g.F.RangeFilter.is_kept c.args.filter.now in
    let first = c.drop_unkept.ensures.places c.args.end c.requires.end in
    let second = c.drop_unkept.ensures.places c.args.at c.requires.at in
    let after = c.swap.ensures.places c.args.end first.0 in
    let new = joined c.swap.new.self in
    let is : (d : Step g.row.K.Denot g.row.V.Denot) → new ≡ swap (set items i (kept_at test items i d)) n i =
    λ (d : Step g.row.K.Denot g.row.V.Denot).
    c.swap.ensures.items ∙ ap (λ m. swap (joined c.drop_unkept.new.steps) m (place_at c.drop_unkept.new.steps c.args.at)) first.1
    ∙ ap (λ m. swap (joined c.drop_unkept.new.steps) n m) second.1 ∙ ap (λ (xs : List (Step g.row.K.Denot g.row.V.Denot)). swap xs n i) (c.drop_unkept.ensures.items d) in
    let d = (item_at items i c.requires.item).0 in
    len-moved order o E items n i c.requires.ordered c.requires.item test d new (is d)

pub returns-clause-later : goal.returns-clause-later
returns-clause-later g c =
    let order = g.K.Ord.cmp in
    let o = g.met.K.Ord.total in
    let E = g.V.PartialEq.eq in
    let lists = c.args.steps.now in
    let items = joined lists in
    let i = place_at lists c.args.at in
    let n = place_at lists c.args.end in
    let test = g.F.RangeFilter.is_kept c.args.filter.now in
    let first = c.drop_unkept.ensures.places c.args.end c.requires.end in
    let second = c.drop_unkept.ensures.places c.args.at c.requires.at in
    let after = c.swap.ensures.places c.args.end first.0 in
    let new = joined c.swap.new.self in
    let is : (d : Step g.row.K.Denot g.row.V.Denot) → new ≡ swap (set items i (kept_at test items i d)) n i =
    λ (d : Step g.row.K.Denot g.row.V.Denot).
    c.swap.ensures.items ∙ ap (λ m. swap (joined c.drop_unkept.new.steps) m (place_at c.drop_unkept.new.steps c.args.at)) first.1
    ∙ ap (λ m. swap (joined c.drop_unkept.new.steps) n m) second.1 ∙ ap (λ (xs : List (Step g.row.K.Denot g.row.V.Denot)). swap xs n i) (c.drop_unkept.ensures.items d) in
    let d = (item_at items i c.requires.item).0 in
    later-moved order o E items n i c.requires.ordered c.requires.item test d new (is d)

pub returns-clause-ordered : goal.returns-clause-ordered
returns-clause-ordered g c =
    let first = c.drop_unkept.ensures.places c.args.end c.requires.end in
    let after = c.swap.ensures.places c.args.end first.0 in
    omega (arith, c.requires.ordered, c.place_after.ensures.after, first.1, after.1)

pub returns-clause-put : goal.returns-clause-put
returns-clause-put g c = λ d.
    let order = g.K.Ord.cmp in
    let o = g.met.K.Ord.total in
    let E = g.V.PartialEq.eq in
    let lists = c.args.steps.now in
    let items = joined lists in
    let i = place_at lists c.args.at in
    let n = place_at lists c.args.end in
    let test = g.F.RangeFilter.is_kept c.args.filter.now in
    let first = c.drop_unkept.ensures.places c.args.end c.requires.end in
    let second = c.drop_unkept.ensures.places c.args.at c.requires.at in
    let after = c.swap.ensures.places c.args.end first.0 in
    let new = joined c.swap.new.self in
    let is : (d : Step g.row.K.Denot g.row.V.Denot) → new ≡ swap (set items i (kept_at test items i d)) n i =
    λ (d : Step g.row.K.Denot g.row.V.Denot).
    c.swap.ensures.items ∙ ap (λ m. swap (joined c.drop_unkept.new.steps) m (place_at c.drop_unkept.new.steps c.args.at)) first.1
    ∙ ap (λ m. swap (joined c.drop_unkept.new.steps) n m) second.1 ∙ ap (λ (xs : List (Step g.row.K.Denot g.row.V.Denot)). swap xs n i) (c.drop_unkept.ensures.items d) in
    let off : c.is_like_last.result ≡ false = c.if-is_like_last.false in
    let put = IsPut-moved order o E items n i c.requires.ordered c.requires.item test d c.is_like_last.result (c.is_like_last.ensures
    ∙ ap₂ (λ m k. option_eq E (get_or (None ∷ (steps_of (joined c.drop_unkept.new.steps)).options) m None) (get_or (steps_of (joined c.drop_unkept.new.steps)).options k None))
    (c.drop_unkept.ensures.places c.args.end c.requires.end).1 (c.drop_unkept.ensures.places c.args.at c.requires.at).1
    ∙ ap (λ (xs : List (Step g.row.K.Denot g.row.V.Denot)). option_eq E (get_or (None ∷ (steps_of xs).options) n None) (get_or (steps_of xs).options i None)) (c.drop_unkept.ensures.items d)) off new (is d) in
    subst (λ (m : ℕ). IsPut order E (steps_of (take n items)) (get_or items i d).key (kept_at test items i d).option (steps_of (take m new))) (sym (c.place_after.ensures.after ∙ ap (λ m. m + 1) (after.1 ∙ first.1))) put
