use Rattle.std.proofs.Common.{◌<◌, sym, subst, length, arith, true≢false}
use Rattle.std.proofs.lemmas.Result.{on_ok_weaker}
use Rattle.range_collections.specs.Ranges.{AllEnds, AllEndsZip, range_boundaries}
use Rattle.range_collections.proofs.Underway.{AllEnds-from_boundaries, by_copies-more, by_copies-nothing, length-copies, zip_copies}
use Rattle.range_collections.proofs.range_set.many_ranges.add_copy.Goals as goal

pub returns-then-len-eq0-clause-underway : goal.returns-then-len-eq0-clause-underway
returns-then-len-eq0-clause-underway g c ranges u =
    by_copies-nothing g.met.T.Ord.total g.T.EntryClone.is_copy g.met.T.EntryClone.copy_is_equal g.row.N ranges c.args.range.now
    c.args.set.now c.args.aside.now.starts.items c.args.aside.now.ends.items u (omega (arith, c.len.ensures, c.if-len-eq0.true))

pub returns-in_err-cloned-clause-succeeds : goal.returns-in_err-cloned-clause-succeeds
returns-in_err-cloned-clause-succeeds g c ranges u few sure =
    let some : 0 < length (range_boundaries g.T.Ord.cmp c.args.range.now) = omega (arith, c.len.ensures, c.if-len-eq0.false) in
    absurd
    (true≢false
    (sym
    (c.in_err-cloned.ensures.succeeds
    (subst (AllEnds g.T.EntryClone.is_infallible) (sym c.as_ref.ensures)
    (AllEnds-from_boundaries g.T.Ord.cmp g.T.EntryClone.is_infallible c.args.range.now some sure)))))

pub returns-clause-underway : goal.returns-clause-underway
returns-clause-underway g c ranges u =
    let some : 0 < length (range_boundaries g.T.Ord.cmp c.args.range.now) = omega (arith, c.len.ensures, c.if-len-eq0.false) in
    let copied = zip_copies g.met.T.Ord.total g.T.EntryClone.is_copy g.met.T.EntryClone.copy_is_equal c.args.range.now c.in_ok-cloned.field-0 some
    (subst (λ r. AllEndsZip g.T.EntryClone.is_copy r c.in_ok-cloned.field-0) c.as_ref.ensures c.in_ok-cloned.ensures.copies) in
    on_ok_weaker c.add.result
    (λ after.
    by_copies-more g.met.T.Ord.total g.T.EntryClone.is_copy g.met.T.EntryClone.copy_is_equal g.row.N ranges c.args.range.now c.in_ok-cloned.field-0
    c.args.set.now c.args.aside.now.starts.items c.args.aside.now.ends.items c.add.new.set c.add.new.aside.starts.items c.add.new.aside.ends.items u copied after)
    (c.add.ensures.underway u.copies u.underway)

pub returns-clause-succeeds : goal.returns-clause-succeeds
returns-clause-succeeds g c ranges u few sure =
    let some : 0 < length (range_boundaries g.T.Ord.cmp c.args.range.now) = omega (arith, c.len.ensures, c.if-len-eq0.false) in
    let copied = zip_copies g.met.T.Ord.total g.T.EntryClone.is_copy g.met.T.EntryClone.copy_is_equal c.args.range.now c.in_ok-cloned.field-0 some
    (subst (λ r. AllEndsZip g.T.EntryClone.is_copy r c.in_ok-cloned.field-0) c.as_ref.ensures c.in_ok-cloned.ensures.copies) in
    c.add.ensures.succeeds u.copies u.underway
    (omega (
      arith,
      few,
      length-copies g.met.T.Ord.total g.T.EntryClone.is_copy g.met.T.EntryClone.copy_is_equal g.row.N ranges c.args.range.now c.in_ok-cloned.field-0
          c.args.set.now c.args.aside.now.starts.items c.args.aside.now.ends.items u copied,
    ))
