use Rattle.std.proofs.Common.{◌+◌, ◌-◌, ◌/◌, ◌<◌, ◌||◌, false, length, sym, refl, arith}
use Rattle.std.specs.Ordering.{is_eq}
use Rattle.std.specs.declared.cmp.Ordering.TheVariants.{Equal}
use Rattle.std.proofs.lemmas.Bool.{and_parts}
use Rattle.range_merge.proofs.Digits.{digits-le, digits-half}
use Rattle.range_merge.proofs.Searches.{at, Equal-from_test, none_equal, IsNarrowed-start, IsNarrowed-half}
use Rattle.range_merge.proofs.fast.branchless.search_selecting.Goals as goal

pub loop-remaining-init : goal.loop-remaining-init
loop-remaining-init g c = record {
  narrowed = (false, IsNarrowed-start g.C.Compare.order c.args.items.now c.args.key.now, λ _. refl);
  at_least = omega arith;
  at_most = omega arith;
}

pub compare-how-requires : goal.compare-how-requires
compare-how-requires g c = omega (arith, digits-le (length c.args.items.now), c.loop-remaining.invariant.at_most, c.requires.made)

pub returns-then-finds-is_eq-clause-answer : goal.returns-then-finds-is_eq-clause-answer
returns-then-finds-is_eq-clause-answer g c =
    let i = c.loop-remaining.front + (c.loop-remaining.remaining - c.loop-remaining.remaining / 2 - 1) in
    let is_within : i < length c.args.items.now = omega (arith, c.loop-remaining.invariant.narrowed.1.within) in
    let test = and_parts c.args.finds c.is_eq.result c.if-finds-is_eq.true in
    record {
      found_within = is_within;
      found = at g.C.Compare.order g.met.C.Compare.total c.args.items.now c.args.key.now c.requires.ascending
          i c.index-items-at.result is_within c.index-items-at.is
          Equal (Equal-from_test c.is_eq.result c.compare-how.result _ c.compare-how.ensures.answer c.is_eq.ensures test.1);
      within = tt;
      before = tt;
      missing = λ _. tt;
      from = tt;
    }

pub returns-then-finds-is_eq-clause-comparisons : goal.returns-then-finds-is_eq-clause-comparisons
returns-then-finds-is_eq-clause-comparisons g c = record {
  at_least = omega (arith, c.loop-remaining.invariant.at_least, c.compare-how.ensures.counted);
  at_most = omega (arith, digits-half 0 c.loop-remaining.remaining (omega arith) (omega arith), c.loop-remaining.invariant.at_most, c.compare-how.ensures.counted);
}

pub loop-remaining-preserved : goal.loop-remaining-preserved
loop-remaining-preserved g c =
    let i = c.loop-remaining.front + (c.loop-remaining.remaining - c.loop-remaining.remaining / 2 - 1) in
    let narrowed = c.loop-remaining.invariant.narrowed in
    let within : i < length c.args.items.now = omega (arith, narrowed.1.within) in
    record {
      narrowed = (
        narrowed.0 || is_eq c.compare-how.result,
        rw (c.select_unpredictable-front.ensures, c.is_le.ensures)
            (IsNarrowed-half g.C.Compare.order g.met.C.Compare.total c.args.items.now c.args.key.now c.requires.ascending
            i c.index-items-at.result within c.index-items-at.is
            c.loop-remaining.front c.loop-remaining.remaining narrowed.0 c.compare-how.result (sym c.compare-how.ensures.answer) (omega arith) refl narrowed.1),
        λ finds. none_equal c.args.finds narrowed.0 c.is_eq.result _ c.if-finds-is_eq.false c.is_eq.ensures finds (narrowed.2 finds),
      );
      at_least = omega (arith, c.loop-remaining.invariant.at_least, c.compare-how.ensures.counted);
      at_most = omega (arith, digits-half (c.loop-remaining.remaining / 2) c.loop-remaining.remaining (omega arith) (omega arith), c.loop-remaining.invariant.at_most, c.compare-how.ensures.counted);
    }

pub returns-clause-answer : goal.returns-clause-answer
returns-clause-answer g c =
    let narrowed = c.loop-remaining.invariant.narrowed in
    record {
      found_within = tt;
      found = tt;
      within = omega (arith, narrowed.1.within);
      before = narrowed.1.before;
      missing = λ finds. narrowed.1.missing (narrowed.2 finds);
      from = λ k d low high. narrowed.1.from k d (omega arith) high;
    }
