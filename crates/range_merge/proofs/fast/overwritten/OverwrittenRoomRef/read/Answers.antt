use Rattle.std.proofs.Common.{◌-◌, length, take, arith, refl}
use Rattle.std.proofs.lemmas.List.{length-drop}
use Rattle.range_merge.proofs.Overwritten.{AreCopies-written}
use Rattle.range_merge.proofs.Works.{Progress-put}
use Rattle.range_merge.proofs.fast.overwritten.OverwrittenRoomRef.read.Goals as goal

pub returns-clause-read : goal.returns-clause-read
returns-clause-read g c =
    let read = c.read_over-read.ensures in
    let at = c.read_over-read.result.answer in
    let out = c.read_over-read.new.out in
    let items = c.args.self.now.items.now in
    let given = c.args.self.now.given in
    record {
      lefts = read.read.lefts;
      rights = read.read.rights;
      progress = λ first.
          Progress-put g.P.Copier.alike g.C.Compare.order (g.O.MergeOperation.connective c.args.op.now)
          _ _ (take at.k out)
          (λ before ts copied so_far. (
            so_far.0,
            AreCopies-written g.P.Copier.alike given at.k (length items - given) items out (omega (arith, c.requires.fits)) read.within before ts copied so_far.1,
          ))
          read.read.progress;
      stands = read.read.stands;
      stays = λ _. refl;
      still_fits = omega (
        arith,
        length-drop at.i c.args.a.now,
        length-drop at.j c.args.b.now,
        length-drop c.args.from.i c.args.a.now,
        length-drop c.args.from.j c.args.b.now,
        read.read.lefts,
        read.read.rights,
        read.at_most,
        read.read.stands.0,
        read.read.stands.1,
        read.len,
        c.requires.fits,
      );
      still_room = λ _. tt;
    }
