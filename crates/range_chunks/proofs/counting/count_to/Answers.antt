use Rattle.std.proofs.Common.{◌≡◌, ◌<◌, ◌≤◌, ◌∷◌, List, length, HoldsAt}
use Rattle.std.specs.List.{AllWithin}
use Rattle.std.proofs.lemmas.List.{map-id}
use Rattle.std.specs.declared.cmp.Ordering.TheVariants.{Equal, Greater, Less}
use Rattle.range_list.specs.Lists.{joined, place_at}
use Rattle.range_list.proofs.Placed.{place_at-within}
use Rattle.range_chunks.proofs.Lengths.{later-found, later-missing, before-found, counted-shared, counted-missing, before-later, before-later_found}
use Rattle.range_chunks.proofs.counting.count_to.Goals as goal

pub count_between-before-requires-clause-ordered : goal.count_between-before-requires-clause-ordered
count_between-before-requires-clause-ordered g c =
    let own = joined c.args.list.now in
    later-found g.met.T.Ord.total own c.requires.sorted c.args.at.now (place_at c.args.list.now c.args.from) c.requires.before (place_at c.args.list.now c.in-Ok.to)
    c.in-Ok.ensures.found_within (rw (map-id own) at c.in-Ok.ensures.found)

pub count_between-before-requires-in-Err-clause-ordered : goal.count_between-before-requires-in-Err-clause-ordered
count_between-before-requires-in-Err-clause-ordered g c =
    let own = joined c.args.list.now in
    later-missing g.met.T.Ord.total own c.requires.sorted c.args.at.now (place_at c.args.list.now c.args.from) c.requires.before (place_at c.args.list.now c.in-Err.to)
    (place_at-within c.args.list.now c.args.from c.requires.from) (place_at-within c.args.list.now c.in-Err.to c.in-Err.ensures.places) (rw (map-id own) at c.in-Err.ensures.missing_from)

pub returns-in-Ok-clause-passed : goal.returns-in-Ok-clause-passed
returns-in-Ok-clause-passed g c = λ ys vp.
    let own = joined c.args.list.now in
    let i = place_at c.args.list.now c.args.from in
    let m = place_at c.args.list.now c.in-Ok.to in
    let found : HoldsAt (λ y. g.T.Ord.cmp y c.args.at.now ≡ Equal) own m = rw (map-id own) at c.in-Ok.ensures.found in
    rw c.place_after.ensures.after
    (before-later_found g.met.T.Ord.total own c.requires.sorted c.args.at.now (g.O.MergeOperation.connective c.args.op.now) ys vp c.args.on i m
    (later-found g.met.T.Ord.total own c.requires.sorted c.args.at.now i c.requires.before m c.in-Ok.ensures.found_within found) (place_at-within c.args.list.now c.in-Ok.to c.in-Ok.ensures.places)
    (before-found g.met.T.Ord.total own c.requires.sorted c.args.at.now m c.in-Ok.ensures.found_within found) found)

pub returns-in-Ok-clause-counted : goal.returns-in-Ok-clause-counted
returns-in-Ok-clause-counted g c = λ ys vp.
    let own = joined c.args.list.now in
    let i = place_at c.args.list.now c.args.from in
    let m = place_at c.args.list.now c.in-Ok.to in
    let found : HoldsAt (λ y. g.T.Ord.cmp y c.args.at.now ≡ Equal) own m = rw (map-id own) at c.in-Ok.ensures.found in
    rw (c.place_after.ensures.after, c.count_between-before.ensures.value, c.takes_a.ensures, c.one_if.ensures, c.takes_both-taken.ensures, c.mark_at.ensures)
    (counted-shared g.met.T.Ord.total own c.requires.sorted c.args.at.now (g.O.MergeOperation.connective c.args.op.now) ys vp c.args.on i m
    (later-found g.met.T.Ord.total own c.requires.sorted c.args.at.now i c.requires.before m c.in-Ok.ensures.found_within found) (place_at-within c.args.list.now c.in-Ok.to c.in-Ok.ensures.places)
    (before-found g.met.T.Ord.total own c.requires.sorted c.args.at.now m c.in-Ok.ensures.found_within found) c.in-Ok.ensures.found_within found)

pub returns-in-Err-clause-passed : goal.returns-in-Err-clause-passed
returns-in-Err-clause-passed g c = λ ys vp.
    let own = joined c.args.list.now in
    before-later g.met.T.Ord.total own c.requires.sorted c.args.at.now (g.O.MergeOperation.connective c.args.op.now) ys vp c.args.on (place_at c.args.list.now c.args.from) (place_at c.args.list.now c.in-Err.to)
    (later-missing g.met.T.Ord.total own c.requires.sorted c.args.at.now (place_at c.args.list.now c.args.from) c.requires.before (place_at c.args.list.now c.in-Err.to)
    (place_at-within c.args.list.now c.args.from c.requires.from) (place_at-within c.args.list.now c.in-Err.to c.in-Err.ensures.places) (rw (map-id own) at c.in-Err.ensures.missing_from)) (place_at-within c.args.list.now c.in-Err.to c.in-Err.ensures.places) (rw (map-id own) at c.in-Err.ensures.missing_before)

pub returns-in-Err-clause-counted : goal.returns-in-Err-clause-counted
returns-in-Err-clause-counted g c = λ ys vp.
    let own = joined c.args.list.now in
    rw (c.count_between-before-in-Err.ensures.value, c.takes_a-in-Err.ensures, c.one_if-in-Err.ensures, c.takes_b-taken.ensures, c.mark_at-in-Err.ensures)
    (counted-missing g.met.T.Ord.total own c.requires.sorted c.args.at.now (g.O.MergeOperation.connective c.args.op.now) ys vp c.args.on (place_at c.args.list.now c.args.from) (place_at c.args.list.now c.in-Err.to)
    (later-missing g.met.T.Ord.total own c.requires.sorted c.args.at.now (place_at c.args.list.now c.args.from) c.requires.before (place_at c.args.list.now c.in-Err.to)
    (place_at-within c.args.list.now c.args.from c.requires.from) (place_at-within c.args.list.now c.in-Err.to c.in-Err.ensures.places) (rw (map-id own) at c.in-Err.ensures.missing_from)) (place_at-within c.args.list.now c.in-Err.to c.in-Err.ensures.places)
    (rw (map-id own) at c.in-Err.ensures.missing_before) (rw (map-id own) at c.in-Err.ensures.missing_from))
