use Rattle.std.proofs.Common.{[]}
use Rattle.range_merge.proofs.CopiesLemmas.{AreKeptThenCopies-first, AreCopies-kept}
use Rattle.range_merge.proofs.Testing.{went_through}
use Rattle.range_chunks.proofs.merging.merged.Goals as goal

pub returns : goal.returns
returns g c =
    let copy = g.T.EntryClone.is_copy in
    let went = went_through c.in_ok-_went_through._went_through c.in_ok-_went_through.ensures.stopped in
    let merged = rw (c.new.ensures, c.new-2.ensures) at c.in_ok-_went_through.ensures.taken in
    let kept = merged went [] (rw c.new-3.ensures.items (AreKeptThenCopies-first copy [])) in
    AreCopies-kept copy _ _ (rw (← c.state.view_is) at kept)
