use Rattle.range_merge.proofs.CountSteps.{Progress-counted}
use Rattle.range_merge.proofs.EvenSteps.{first-unread, odd-from, rest-read}
use Rattle.range_merge.proofs.fast.short_runs.counted.count_short_runs.Goals as goal

pub returns-clause-progress : goal.returns-clause-progress
returns-clause-progress g c =
    let it = c.state.inside in
    let at = c.apart-at.result in
    let from = c.unread-from in
    let read = c.apart-at.ensures.2.0.read in
    let lefts = rw (← c.state.view_is) at c.requires.lefts in
    let rights = rw (← c.state.view_is) at c.requires.rights in
    rw (c.drop_front.ensures, c.drop_front-2.ensures, c.since-read.ensures.lefts, c.since-read.ensures.rights, ← c.state.view_is)
    (rw (
      rest-read c.args.a.now _ from.result.i at.i it.ac from.ensures.lefts lefts read.lefts,
      rest-read c.args.b.now _ from.result.j at.j it.bc from.ensures.rights rights read.rights,
      first-unread c.args.a.now _ from.result.i it.ac from.ensures.lefts lefts,
      first-unread c.args.b.now _ from.result.j it.bc from.ensures.rights rights,
      odd-from from.result.i it.ac from.ensures.lefts,
      odd-from from.result.j it.bc from.ensures.rights,
    ) at (Progress-counted g.C.Compare.order (g.O.MergeOperation.connective c.args.op.now) c.args.a.now c.args.b.now from.result.i from.result.j at.i at.j at.k it.output c.apart-at.ensures.2.0))

pub returns-clause-stands : goal.returns-clause-stands
returns-clause-stands g c =
    let it = c.state.inside in
    let at = c.apart-at.result in
    let from = c.unread-from in
    let read = c.apart-at.ensures.2.0.read in
    let lefts = rw (← c.state.view_is) at c.requires.lefts in
    let rights = rw (← c.state.view_is) at c.requires.rights in
    rw (c.drop_front.ensures, c.drop_front-2.ensures, c.since-read.ensures.lefts, c.since-read.ensures.rights, c.since-read.ensures.next)
    (rw (
      rest-read c.args.a.now _ from.result.i at.i it.ac from.ensures.lefts lefts read.lefts,
      rest-read c.args.b.now _ from.result.j at.j it.bc from.ensures.rights rights read.rights,
    ) at read.stands)
