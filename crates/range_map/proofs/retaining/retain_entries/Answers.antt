use Rattle.std.proofs.Common.{◌≡◌, ◌+◌, ℕ, [], take, drop, refl, sym, ap, ◌∙◌, subst, arith}
use Rattle.range_list.specs.Lists.{joined, place_at}
use Rattle.range_list.proofs.Listed.{IsPlaceAt-front}
use Rattle.range_map.specs.Listed.{steps_of}
use Rattle.range_map.specs.Steps.{IsCanonical}
use Rattle.range_map.specs.Combining.{IsMadeUpTo}
use Rattle.range_map.specs.Updated.{kept_steps}
use Rattle.range_map.proofs.Retained.{item_at, later, nothing-made, IsMadeUpTo-kept, all-kept}
use Rattle.range_map.proofs.retaining.retain_entries.Goals as goal

pub loop-more-init : goal.loop-more-init
loop-more-init g c = record {
  at_place = IsPlaceAt-front _;
  end_place = IsPlaceAt-front _;
  ordered = omega arith;
  len = refl;
  within = omega arith;
  item = c.is_item-more.ensures.item;
  past = c.is_item-more.ensures.end;
  later = refl;
  made = nothing-made g.K.Ord.cmp g.met.K.Ord.total g.V.PartialEq.eq g.met.V.Eq.laws (g.F.RangeFilter.is_kept c.args.filter.now) (joined c.args.steps.now) (joined c.args.steps.now) 0 c.requires.ascending
      (steps_of (take 0 (joined c.args.steps.now))) refl refl;
}

pub loop-more-preserved : goal.loop-more-preserved
loop-more-preserved g c =
    let order = g.K.Ord.cmp in
    let E = g.V.PartialEq.eq in
    let test = g.F.RangeFilter.is_kept c.args.filter.now in
    let inv = c.loop-more.invariant in
    let old = joined c.args.steps.now in
    let items = joined c.loop-more.steps in
    let i = place_at c.loop-more.steps c.loop-more.at in
    let lists = c.keep_step-end.new.steps in
    let step = c.keep_step-end.ensures in
    let here = step.places c.loop-more.at inv.at_place in
    let next : place_at lists c.place_after-at.result ≡ i + 1 = c.place_after-at.ensures.after ∙ ap (λ n. n + 1) here.1 in
    let within = inv.item c.loop-more-test.true in
    let d = (item_at items i within).0 in
    record {
      at_place = c.place_after-at.ensures.place;
      end_place = step.place;
      ordered = omega (arith, step.ordered, next);
      len = step.len ∙ inv.len;
      within = omega (arith, next, within, step.len);
      item = c.is_item-more-in-loop-more.ensures.item;
      past = c.is_item-more-in-loop-more.ensures.end;
      later = ap (λ n. drop n (joined lists)) next ∙ step.later ∙ later items old i inv.later ∙ sym (ap (λ n. drop n old) next);
      made = subst (λ (n : ℕ). IsMadeUpTo order {W = Unit {0}} E (λ p q. p) (steps_of (kept_steps test old)) (record { keys = []; options = [] }) n 0 (steps_of (take (place_at lists c.keep_step-end.result) (joined lists)))) (sym next)
          (IsMadeUpTo-kept order g.met.K.Ord.total E g.met.V.Eq.laws test old items i c.requires.ascending
          (steps_of (take (place_at c.loop-more.steps c.loop-more.end) items)) (steps_of (take (place_at lists c.keep_step-end.result) (joined lists))) d inv.made (step.put d)
          (omega (arith, within, inv.len)) inv.later);
    }

pub returns-clause-canonical : goal.returns-clause-canonical
returns-clause-canonical g c =
    subst (λ xs. IsCanonical g.K.Ord.cmp g.V.PartialEq.eq (steps_of xs)) (sym c.truncate.ensures) c.loop-more.invariant.made.canonical

pub returns-clause-values : goal.returns-clause-values
returns-clause-values g c =
    let inv = c.loop-more.invariant in
    let old = joined c.args.steps.now in
    let i = place_at c.loop-more.steps c.loop-more.at in
    rw c.truncate.ensures
    (all-kept g.K.Ord.cmp g.met.K.Ord.total g.V.PartialEq.eq g.met.V.Eq.laws (g.F.RangeFilter.is_kept c.args.filter.now) old (joined c.loop-more.steps) i c.requires.ascending
    (steps_of (take (place_at c.loop-more.steps c.loop-more.end) (joined c.loop-more.steps))) (omega (arith, inv.past c.loop-more-test.false, inv.len)) (omega (arith, inv.within, inv.len)) inv.made)
