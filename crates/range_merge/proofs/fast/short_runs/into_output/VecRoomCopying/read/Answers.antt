use Rattle.std.proofs.Common.{length, drop, refl}
use Rattle.range_merge.proofs.CopiesLemmas.{AreKeptThenCopies-behind}
use Rattle.range_merge.proofs.Works.{Progress-put}
use Rattle.range_merge.proofs.fast.short_runs.into_output.VecRoomCopying.read.Goals as goal

pub returns-clause-read : goal.returns-clause-read
returns-clause-read g c =
    let read = rw c.replace-list.ensures.value at c.read_into-read.ensures in
    let old = c.args.self.now.items in
    let new = c.read_into-read.result.list.items in
    record {
      lefts = read.read.lefts;
      rights = read.read.rights;
      progress = λ first.
          Progress-put g.P.Copier.alike g.C.Compare.order (g.O.MergeOperation.connective c.args.op.now) _ _ (drop (length old) new)
          (AreKeptThenCopies-behind g.P.Copier.alike first old new read.kept) read.read.progress;
      stands = c.read_into-read.ensures.read.stands;
      stays = λ _. refl;
      still_fits = tt;
      still_room = λ no. no;
    }
