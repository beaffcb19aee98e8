use Rattle.std.proofs.Common.{◌≡◌, ◌-◌, List, Bool, true, false, None, Some, Option, sym, ap, ◌∙◌, option_copied, cond, not, true≢false}
use Rattle.std.specs.Borrow.{Bor}
use Rattle.std.specs.Bool.{then_some}
use Rattle.std.specs.Option.{is_some}
use Rattle.std.specs.Ordering.{is_lt}
use Rattle.std.specs.declared.cmp.Ordering.TheVariants.{Less}
use Rattle.range_collections.proofs.Values.{not_less-from_none}
use Rattle.range_list.specs.Lists.{joined, place_at}
use Rattle.range_map.specs.Listed.{steps_in}
use Rattle.range_map.specs.declared.step.Step.{Step}
use Rattle.range_map.proofs.GapsFound.{AreGaps-nothing, AreGaps-found, gaps-found}
use Rattle.range_map.proofs.Overlapping.{ordered}
use Rattle.range_map.proofs.Parts.{gaps_of-part}
use Rattle.range_map.specs.Gaps.{gaps_of}
use Rattle.range_map.proofs.within.gaps_between.Goals as goal

-- where no value holds at the start, the first part begins there
begins : {K V : Type 0} (p : Option (Bor V)) (q : Option V) (b : Bool) (start : Bor K) → option_copied p ≡ q → is_some p ≡ not b →
    option_copied (then_some b start) ≡ cond (not (is_some q)) (Some start.now) None
begins None q true start e h = ap (λ r. cond (not (is_some r)) (Some start.now) None) e
begins None q false start e h = absurd (true≢false (sym h))
begins (Some v) q true start e h = absurd (true≢false h)
begins (Some v) q false start e h = ap (λ r. cond (not (is_some r)) (Some start.now) None) e

pub between-requires-clause-ordered : goal.between-requires-clause-ordered
between-requires-clause-ordered g c =
    let some : is_lt (g.K.Ord.cmp c.args.start.now c.args.end.now) ≡ true = ap is_lt (c.has_elements.ensures.answer.0 c.if-not-has_elements.false) in
    let up = c.place_up_to-from.ensures in
    let to = c.place_below-to.ensures in
    let lists = c.args.steps.now in
    let m = steps_in lists in
    ordered g.K.Ord.cmp g.met.K.Ord.total c.args.start.now c.args.end.now some m.keys m.options c.requires.one_each
    (place_at lists c.place_up_to-from.result) (place_at lists c.place_below-to.result) up.within to.within up.up_to up.above to.below to.from

pub returns : goal.returns
returns g c =
    let order = g.K.Ord.cmp in
    let less : order c.args.start.now c.args.end.now ≡ Less = c.has_elements.ensures.answer.0 c.if-not-has_elements.false in
    let some : is_lt (order c.args.start.now c.args.end.now) ≡ true = ap is_lt less in
    let up = c.place_up_to-from.ensures in
    let to = c.place_below-to.ensures in
    let lists = c.args.steps.now in
    let m = steps_in lists in
    let n = place_at lists c.place_up_to-from.result in
    let e = place_at lists c.place_below-to.result in
    let on = ordered order g.met.K.Ord.total c.args.start.now c.args.end.now some m.keys m.options c.requires.one_each n e up.within to.within up.up_to up.above to.below to.from in
    rw (c.new-4.ensures
    ∙ ap (λ (xs : List (Step g.row.K.Denot g.row.V.Denot)). gaps_of (option_copied c.then_some-first.result) xs c.args.end.now) c.between.ensures
    ∙ gaps_of-part (joined lists) n (e - n) (option_copied c.then_some-first.result) c.args.end.now
    ∙ gaps-found order g.met.K.Ord.total g.V.PartialEq.eq g.met.V.Eq.laws m c.requires c.args.start.now c.args.end.now less
    n e up.within to.within on up.up_to up.above to.below to.from (option_copied c.then_some-first.result)
    (ap option_copied c.then_some-first.ensures ∙ begins c.option_before.result _ c.is_none.result c.args.start c.option_before.ensures c.is_none.ensures))
    (AreGaps-found order g.met.K.Ord.total g.V.PartialEq.eq g.met.V.Eq.laws m c.requires c.args.start.now c.args.end.now less
    n e up.within to.within on up.up_to up.above to.below to.from)

pub returns-then-not-has_elements : goal.returns-then-not-has_elements
returns-then-not-has_elements g c =
    let none : is_lt (g.K.Ord.cmp c.args.start.now c.args.end.now) ≡ false = not_less-from_none c.has_elements.result _ c.has_elements.ensures.answer c.if-not-has_elements.true in
    rw (c.new-then-not-has_elements.ensures ∙ ap (λ (xs : List (Step g.row.K.Denot g.row.V.Denot)). gaps_of None xs c.args.end.now) c.none.ensures)
    (AreGaps-nothing g.K.Ord.cmp g.met.K.Ord.total (steps_in c.args.steps.now) c.args.start.now c.args.end.now none)
