use Rattle.std.proofs.Common.{◌≡◌, sym, ◌∙◌, ap, true≢false, ⊎_elim, inl, inr, [], ◌∷◌, true}
use Rattle.range_merge.specs.Boundaries.{IsAscending, member}
use Rattle.range_merge.proofs.Members.{member-nil}
use Rattle.range_chunks.proofs.Related.{first-or_later, later-ascends, member-first, member-later, from_start-some, from_start-none}
use Rattle.range_chunks.proofs.relating.first_meets.Goals as goal

pub returns-in-Some-clause-some : goal.returns-in-Some-clause-some
returns-in-Some-clause-some g c = λ t.
    let up = rw c.in-Some.ensures at c.requires.ranges_sorted in
    let (x, near, less, m) = c.meets_between.ensures.some t in
    (x, rw c.in-Some.ensures (member-first g.met.T.Ord.total c.args.start.now c.in-Some.end.now (g.U.Unread.unread c.take_first.new.self) up x near less), m)

pub returns-in-Some-clause-none : goal.returns-in-Some-clause-none
returns-in-Some-clause-none g c = λ f x m.
    let up = rw c.in-Some.ensures at c.requires.ranges_sorted in
    ⊎_elim (λ p. inr (c.meets_between.ensures.none f x p.0 p.1)) (λ there. inl there)
    (first-or_later g.met.T.Ord.total c.args.start.now c.in-Some.end.now (g.U.Unread.unread c.take_first.new.self) up x (rw c.in-Some.ensures at m))

pub returns-in-Some-clause-later : goal.returns-in-Some-clause-later
returns-in-Some-clause-later g c = λ x m.
    let up = rw c.in-Some.ensures at c.requires.ranges_sorted in
    rw c.in-Some.ensures (member-later g.met.T.Ord.total c.args.start.now c.in-Some.end.now (g.U.Unread.unread c.take_first.new.self) up x m)

pub returns-in-Some-clause-ranges_sorted : goal.returns-in-Some-clause-ranges_sorted
returns-in-Some-clause-ranges_sorted g c =
    later-ascends g.met.T.Ord.total c.args.start.now c.in-Some.end.now (g.U.Unread.unread c.take_first.new.self) (rw c.in-Some.ensures at c.requires.ranges_sorted)

pub returns-in-None-clause-some : goal.returns-in-None-clause-some
returns-in-None-clause-some g c = λ t.
    rw c.in-None.ensures.0
    (from_start-some g.met.T.Ord.total c.args.inside (g.L.Boundaries.items c.args.list) c.args.start.now c.next_at.result c.is_some.result c.is_some.ensures c.next_at.ensures.next t)

pub returns-in-None-clause-none : goal.returns-in-None-clause-none
returns-in-None-clause-none g c = λ f x m.
    inr (from_start-none g.met.T.Ord.total c.args.inside (g.L.Boundaries.items c.args.list) c.args.start.now c.next_at.result c.is_some.result c.is_some.ensures c.next_at.ensures.none f x (rw c.in-None.ensures.0 at m))

pub returns-in-None-clause-later : goal.returns-in-None-clause-later
returns-in-None-clause-later g c = λ x m.
    absurd (true≢false (sym (rw c.in-None.ensures.1 at m) ∙ member-nil g.T.Ord.cmp x))
