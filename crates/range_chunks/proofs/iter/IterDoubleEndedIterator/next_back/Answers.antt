use Rattle.std.proofs.Common.{◌≡◌, ◌%◌, ◌∷◌, [], length, sym, ◌∙◌, arith, ap, length-append}
use Rattle.range_collections.specs.Ranges.{ranges_of}
use Rattle.range_collections.proofs.RangesAtEnds.{ranges_of-last_one, ranges_of-last_two, shorter-append}
use Rattle.range_collections.proofs.Points.{even-from_test, odd-from_test}
use Rattle.range_chunks.proofs.iter.IterDoubleEndedIterator.next_back.Goals as goal

pub returns-then-self-clause-steps : goal.returns-then-self-clause-steps
returns-then-self-clause-steps g c =
    let is = sym c.self.view_is ∙ c.in_ok-last.ensures in
    let odd : length c.self.inside.unread % 2 ≡ 1 = omega (arith, odd-from_test c.self.inside.endless (length c.self.inside.unread) c.self.invariant c.if-self.true) in
    let even : length c.take_last.new.self % 2 ≡ 0 =
    omega (arith, odd, ap length c.in_ok-last.ensures, length-append c.take_last.new.self (c.in_ok-last.last.now ∷ [])) in
    ranges_of-last_one c.args.self.now c.take_last.new.self c.in_ok-last.last.now is even

pub returns-then-self-clause-goes : goal.returns-then-self-clause-goes
returns-then-self-clause-goes g c = record {
  on = λ _. (tt, tt, shorter-append (ranges_of c.args.self.now) (ranges_of c.take_last.new.self) _ (returns-then-self-clause-steps g c));
  keeps = tt;
  rests = λ _. tt;
}

pub returns-clause-steps : goal.returns-clause-steps
returns-clause-steps g c =
    let is = sym c.self.view_is ∙ c.in_ok-last.ensures in
    let all : length c.self.inside.unread % 2 ≡ 0 = even-from_test c.self.inside.endless (length c.self.inside.unread) c.self.invariant c.if-self.false in
    let even : length c.take_last-2.new.self % 2 ≡ 0 =
    omega (
      arith,
      all,
      ap length c.in_ok-last.ensures,
      length-append c.take_last.new.self (c.in_ok-last.last.now ∷ []),
      ap length c.in_ok-start.ensures,
      length-append c.take_last-2.new.self (c.in_ok-start.start.now ∷ []),
    ) in
    ranges_of-last_two c.args.self.now c.take_last.new.self c.take_last-2.new.self c.in_ok-start.start.now c.in_ok-last.last.now is c.in_ok-start.ensures even

pub returns-clause-goes : goal.returns-clause-goes
returns-clause-goes g c = record {
  on = λ _. (tt, tt, shorter-append (ranges_of c.args.self.now) (ranges_of c.take_last-2.new.self) _ (returns-clause-steps g c));
  keeps = tt;
  rests = λ _. tt;
}
