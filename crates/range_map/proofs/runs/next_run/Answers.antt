use Rattle.std.proofs.Common.{◌≡◌, List, sym, subst, arith}
use Rattle.std.proofs.lemmas.List.{length-drop}
use Rattle.std.specs.declared.cmp.Ordering.TheVariants.{Less}
use Rattle.range_merge.proofs.Pairs.{AllPairs-drop}
use Rattle.range_merge.specs.Boundaries.{IsAscending}
use Rattle.range_map.proofs.RunPlaces.{IsRun-first, some-first, weighs-first}
use Rattle.range_map.proofs.runs.next_run.Goals as goal

pub first_run-requires-clause-a_some : goal.first_run-requires-clause-a_some
first_run-requires-clause-a_some g c = rw c.behind.ensures (omega (arith, length-drop c.args.i c.args.a.now.keys, c.requires.a_some))

pub first_run-requires-clause-b_some : goal.first_run-requires-clause-b_some
first_run-requires-clause-b_some g c = rw c.behind-2.ensures (omega (arith, length-drop c.args.j c.args.b.now.keys, c.requires.b_some))

pub first_run-requires-clause-a_ascends : goal.first_run-requires-clause-a_ascends
first_run-requires-clause-a_ascends g c =
    subst (λ (ks : List g.row.K.Denot). IsAscending g.K.Ord.cmp ks) (sym c.behind.ensures) (AllPairs-drop (λ x y. g.K.Ord.cmp x y ≡ Less) c.args.i c.args.a.now.keys c.requires.a_ascends)

pub first_run-requires-clause-b_ascends : goal.first_run-requires-clause-b_ascends
first_run-requires-clause-b_ascends g c =
    subst (λ (ks : List g.row.K.Denot). IsAscending g.K.Ord.cmp ks) (sym c.behind-2.ensures) (AllPairs-drop (λ x y. g.K.Ord.cmp x y ≡ Less) c.args.j c.args.b.now.keys c.requires.b_ascends)

pub returns-clause-run : goal.returns-clause-run
returns-clause-run g c =
    let first = rw (c.behind.ensures, c.behind-2.ensures) at c.first_run.ensures.first in
    IsRun-first g.K.Ord.cmp g.met.K.Ord.total c.args.a.now.keys c.args.b.now.keys c.requires.a_ascends c.requires.b_ascends c.args.i c.args.j c.requires.a_some c.requires.b_some c.first_run.result first

pub returns-clause-onward : goal.returns-clause-onward
returns-clause-onward g c =
    let first = rw (c.behind.ensures, c.behind-2.ensures) at c.first_run.ensures.first in
    some-first g.K.Ord.cmp g.met.K.Ord.total c.args.a.now.keys c.args.b.now.keys c.requires.a_ascends c.requires.b_ascends c.args.i c.args.j c.requires.a_some c.requires.b_some c.first_run.result first

pub returns-clause-paid : goal.returns-clause-paid
returns-clause-paid g c =
    let first = rw (c.behind.ensures, c.behind-2.ensures) at c.first_run.ensures.first in
    omega (
      arith,
      weighs-first g.K.Ord.cmp g.met.K.Ord.total c.args.a.now.keys c.args.b.now.keys c.requires.a_ascends c.requires.b_ascends c.args.i c.args.j c.requires.a_some c.requires.b_some c.first_run.result first,
      c.first_run.ensures.comparisons.at_most,
    )
