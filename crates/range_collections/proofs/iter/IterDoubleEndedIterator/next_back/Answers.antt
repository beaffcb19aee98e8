use Rattle.std.proofs.Common.{◌≡◌, ◌%◌, ◌∷◌, [], length, sym, ◌∙◌, arith, ap, length-append}
use Rattle.range_collections.specs.Ranges.{ranges_of}
use Rattle.range_collections.proofs.RangesAtEnds.{ranges_of-last_one, ranges_of-last_two, shorter-append}
use Rattle.range_collections.proofs.Points.{even-from_test, odd-from_test}
use Rattle.range_collections.proofs.iter.IterDoubleEndedIterator.next_back.Goals as goal
use Rattle.range_collections.proofs.iter.IterDoubleEndedIterator.next_back.Goals.{in_default-via-in-Some+else-not-is_odd, in_default-via-in_default}

pub returns-in-Some-clause-steps : goal.returns-in-Some-clause-steps
returns-in-Some-clause-steps g c =
    ranges_of-last_two c.args.self.now c.in_ok-last.before.now c.in-Some.rest.now c.in-Some.start.now c.in_ok-last.last.now
    (sym c.self.view_is ∙ c.in_ok-last.ensures.cases.0) c.in-Some.ensures.cases.0 (even-from_test c.is_odd.result (length c.in-Some.rest.now) c.is_odd.ensures c.if-not-is_odd.true)

pub returns-in-Some-clause-goes : goal.returns-in-Some-clause-goes
returns-in-Some-clause-goes g c = record {
  on = λ _. (tt, tt, shorter-append (ranges_of c.args.self.now) (ranges_of c.in-Some.rest.now) _ (returns-in-Some-clause-steps g c));
  keeps = tt;
  rests = λ _. tt;
}

pub returns-in_default-clause-steps : goal.returns-in_default-clause-steps
returns-in_default-clause-steps g c =
    let even : length c.in_ok-last.before.now % 2 ≡ 0 =
    elim c.in_default.branch [
      | in_default-via-in-Some+else-not-is_odd w ↦
          omega (arith, odd-from_test w.is_odd.result (length w.in-Some.rest.now) w.is_odd.ensures w.if-not-is_odd.false, ap length w.in-Some.ensures.cases.0, length-append w.in-Some.rest.now (w.in-Some.start.now ∷ []))
      | in_default-via-in_default w ↦ omega (arith, w.in_default.ensures.cases)
    ] in
    ranges_of-last_one c.args.self.now c.in_ok-last.before.now c.in_ok-last.last.now
    (sym c.self.view_is ∙ c.in_ok-last.ensures.cases.0) even

pub returns-in_default-clause-goes : goal.returns-in_default-clause-goes
returns-in_default-clause-goes g c = record {
  on = λ _. (tt, tt, shorter-append (ranges_of c.args.self.now) (ranges_of c.in_ok-last.before.now) _ (returns-in_default-clause-steps g c));
  keeps = tt;
  rests = λ _. tt;
}
