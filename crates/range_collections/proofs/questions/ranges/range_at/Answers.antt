use Rattle.std.proofs.Common.{◌∙◌, ◌+◌, ◌-◌, sym, refl, drop, arith}
use Rattle.range_collections.proofs.Points.{even-from_test, odd-from_test, member-even, member-odd, Contains-at, IsInRange-at}
use Rattle.range_collections.proofs.RangeMembers.{members-of_one}
use Rattle.range_collections.proofs.Around.{first-around, is_some-around}
use Rattle.range_collections.proofs.questions.ranges.range_at.Goals as goal

pub returns-then-not-is_odd-clause-member : goal.returns-then-not-is_odd-clause-member
returns-then-not-is_odd-clause-member g c = (
  λ e. absurd (cc),
  λ m. sym (member-even g.met.T.Ord.total c.args.value.now (g.L.Boundaries.items c.args.list) (g.L.Boundaries.index c.args.list c.up_to-after.result)
      c.up_to-after.ensures.within c.up_to-after.ensures.before c.up_to-after.ensures.from
      (even-from_test c.is_odd.result _ c.is_odd.ensures c.if-not-is_odd.true)) ∙ m,
)

pub returns-clause-member : goal.returns-clause-member
returns-clause-member g c =
    let odd = odd-from_test c.is_odd.result (g.L.Boundaries.index c.args.list c.up_to-after.result) c.is_odd.ensures c.if-not-is_odd.false in (
      λ _. member-odd g.met.T.Ord.total c.args.value.now (g.L.Boundaries.items c.args.list) (g.L.Boundaries.index c.args.list c.up_to-after.result)
          c.up_to-after.ensures.within c.up_to-after.ensures.before c.up_to-after.ensures.from odd,
      λ _. is_some-around (g.L.Boundaries.index c.args.list c.up_to-after.result) _ _ c.range_around.result (omega (arith, odd)) c.range_around.ensures,
    )

pub returns-clause-of_set : goal.returns-clause-of_set
returns-clause-of_set g c =
    let n = g.L.Boundaries.index c.args.list c.up_to-after.result in
    let odd = odd-from_test c.is_odd.result n c.is_odd.ensures c.if-not-is_odd.false in
    let ys = drop (n - 1) (g.L.Boundaries.items c.args.list) in
    let zs = drop (n + 1) (g.L.Boundaries.items c.args.list) in
    Contains-at g.met.T.Ord.total c.args.value.now (g.L.Boundaries.items c.args.list) n
    c.up_to-after.ensures.within c.up_to-after.ensures.before c.up_to-after.ensures.from
    odd ys zs refl c.range_around.result (first-around n ys zs c.range_around.result (omega (arith, odd)) c.range_around.ensures)

pub returns-clause-holds : goal.returns-clause-holds
returns-clause-holds g c =
    let n = g.L.Boundaries.index c.args.list c.up_to-after.result in
    let odd = odd-from_test c.is_odd.result n c.is_odd.ensures c.if-not-is_odd.false in
    let ys = drop (n - 1) (g.L.Boundaries.items c.args.list) in
    let zs = drop (n + 1) (g.L.Boundaries.items c.args.list) in
    IsInRange-at g.met.T.Ord.total c.args.value.now (g.L.Boundaries.items c.args.list) n
    c.up_to-after.ensures.within c.up_to-after.ensures.before c.up_to-after.ensures.from
    odd ys zs refl c.range_around.result (first-around n ys zs c.range_around.result (omega (arith, odd)) c.range_around.ensures)

pub returns-clause-members : goal.returns-clause-members
returns-clause-members g c =
    members-of_one g.met.T.Ord.total (g.L.Boundaries.items c.args.list) c.requires.sorted c.range_around.result (returns-clause-of_set g c)
