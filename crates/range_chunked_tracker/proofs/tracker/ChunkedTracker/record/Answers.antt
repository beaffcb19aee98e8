use Rattle.std.proofs.Common.{refl, true, take}
use Rattle.std.proofs.lemmas.Result.{err_from_is_err_and}
use Rattle.std.specs.Ordering.{nat_cmp}
use Rattle.range_merge.specs.Connective.{union_table}
use Rattle.range_collections.proofs.Cut.{IsAscending-take}
use Rattle.range_collections.proofs.Insertion.{union-alike}
use Rattle.range_tracker.specs.declared.tracker.Command.TheVariants.{Add}
use Rattle.range_list.specs.Lists.{joined}
use Rattle.range_chunked_tracker.proofs.SetWithin.{MayAnswer-refused, MayAnswer-done, offsets-done, IsTracking-done, is_even-front}
use Rattle.range_chunked_tracker.proofs.tracker.ChunkedTracker.record.Goals as goal

pub returns-in_err-self-inside-clause-answer : goal.returns-in_err-self-inside-clause-answer
returns-in_err-self-inside-clause-answer c =
    let xs = joined c.self.inside.list in
    let p = err_from_is_err_and c.from_residual.result c.from_residual.ensures.1 in
    rw (p.1, p.2, ← c.self.view_is)
    (MayAnswer-refused true union_table union-alike c.self.inside.limit (take c.self.inside.len xs) c.args.range (joined c.set_within.new.list)
    (IsAscending-take nat_cmp c.self.inside.len xs c.self.invariant.0.sorted) (Add c.args.range) refl _ c.in_err-self-inside.ensures.set)

pub invariant_of-self-2 : goal.invariant_of-self-2
invariant_of-self-2 c =
    let xs = joined c.self.inside.list in
    let held = c.self.invariant.0 in (
      IsTracking-done true union_table union-alike c.self.inside.limit (take c.self.inside.len xs) c.args.range (joined c.set_within.new.list)
          (IsAscending-take nat_cmp c.self.inside.len xs held.sorted) refl c.in_ok-self-inside.field-0 c.in_ok-self-inside.ensures.set
          (is_even-front c.self.inside.len xs held.front held.ended) held.room c.set_within.ensures.sorted,
      c.self.invariant.1,
    )

pub returns-clause-answer : goal.returns-clause-answer
returns-clause-answer c =
    let xs = joined c.self.inside.list in
    rw (← c.self.view_is)
    (MayAnswer-done true union_table union-alike c.self.inside.limit (take c.self.inside.len xs) c.args.range (joined c.set_within.new.list)
    (IsAscending-take nat_cmp c.self.inside.len xs c.self.invariant.0.sorted) (Add c.args.range) refl c.in_ok-self-inside.field-0 c.in_ok-self-inside.ensures.set)

pub returns-clause-ok : goal.returns-clause-ok
returns-clause-ok c =
    let xs = joined c.self.inside.list in
    rw (← c.self.view_is)
    (offsets-done true union_table union-alike c.self.inside.limit (take c.self.inside.len xs) c.args.range (joined c.set_within.new.list)
    (IsAscending-take nat_cmp c.self.inside.len xs c.self.invariant.0.sorted) c.in_ok-self-inside.field-0 c.in_ok-self-inside.ensures.set)
