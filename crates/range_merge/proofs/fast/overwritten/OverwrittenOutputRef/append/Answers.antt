use Rattle.std.proofs.Common.{◌≡◌, ◌≤◌, ◌-◌, length, take, drop, arith}
use Rattle.std.proofs.lemmas.List.{length-drop, length-take-le}
use Rattle.range_merge.proofs.Overwritten.{AreCopies-written, AreCopies-no_more}
use Rattle.range_merge.proofs.fast.overwritten.OverwrittenOutputRef.append.Goals as goal

pub returns-in_ok-write_copies-clause-output : goal.returns-in_ok-write_copies-clause-output
returns-in_ok-write_copies-clause-output g c = λ first before ts are so_far.
    let items = c.args.self.now.items.now in
    let given = c.args.self.now.given in
    let n = length items - given in
    let out = c.write_copies.new.slots in
    let within : given ≤ length items = omega (arith, c.requires.fits.2) in
    let long : length (take n (drop given items)) ≡ n = length-take-le n (drop given items) (omega (arith, length-drop given items)) in
    let fits : length c.args.items.now ≤ length out = omega (arith, c.requires.fits.1, c.requires.fits.2, c.write_copies.ensures.len, long) in (
      so_far.0,
      AreCopies-written g.P.Copier.alike given (length c.args.items.now) n items out within fits before ts
          (rw (rw c.if-take.true at are) c.in_ok-write_copies.ensures.copied) so_far.1,
    )

pub returns-else-take-clause-output : goal.returns-else-take-clause-output
returns-else-take-clause-output g c = λ first before ts are so_far.
    (so_far.0, AreCopies-no_more g.P.Copier.alike _ before ts (rw c.if-take.false at are) so_far.1)
