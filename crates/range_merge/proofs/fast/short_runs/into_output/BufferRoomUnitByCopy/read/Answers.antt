use Rattle.std.proofs.Common.{◌≡◌, take, arith, refl}
use Rattle.std.proofs.lemmas.List.{length-drop}
use Rattle.range_merge.proofs.Filled.{IsFilled-read}
use Rattle.range_merge.proofs.Works.{Progress-put}
use Rattle.range_merge.proofs.fast.short_runs.into_output.BufferRoomUnitByCopy.read.Goals as goal

pub returns-clause-read : goal.returns-clause-read
returns-clause-read g c =
    let read = c.read_behind-read.ensures in
    let at = c.read_behind-read.result.answer in
    let out = c.read_behind-read.new.out in
    record {
      lefts = read.read.lefts;
      rights = read.read.rights;
      progress = λ first.
          Progress-put (λ x y. y ≡ x) g.C.Compare.order (g.O.MergeOperation.connective c.args.op.now)
          _ _ (take at.k out)
          (λ before ts copied so_far. (
            so_far.0,
            IsFilled-read c.args.self.now.given c.min-at.result at.k c.args.self.now.items.now out (λ room. omega (arith, c.min-at.ensures, room)) (omega (arith, c.min-at.ensures))
                read.within read.len read.behind before ts copied so_far.1,
          ))
          read.read.progress;
      stands = read.read.stands;
      stays = λ _. refl;
      still_fits = omega (
        arith,
        length-drop at.i c.args.a.now,
        length-drop at.j c.args.b.now,
        length-drop c.args.from.i c.args.a.now,
        length-drop c.args.from.j c.args.b.now,
        read.read.lefts,
        read.read.rights,
        read.at_most,
        read.read.stands.0,
        read.read.stands.1,
        c.requires.fits,
      );
      still_room = λ _. tt;
    }
