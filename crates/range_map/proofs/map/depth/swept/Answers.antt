use Rattle.std.proofs.Common.{◌≡◌, ◌-◌, ◌∷◌, [], None, get_or, refl, sym, ap, ap₂, ◌∙◌, subst, arith}
use Rattle.range_merge.proofs.Members.{count_up_to-nil}
use Rattle.range_map.specs.Depth.{number_or_none, IsDifference}
use Rattle.range_map.specs.Listed.{steps_of}
use Rattle.range_collections.proofs.Shortest.{count_up_to-le_length}
use Rattle.range_map.proofs.Depths.{first_ahead, first_read, IsSweptTo-nothing, IsSweptTo-step, IsDifference-swept}
use Rattle.range_map.proofs.Setlike.{if_ok}
use Rattle.range_map.proofs.map.depth.swept.Goals as goal

pub past-i-requires-clause-from : goal.past-i-requires-clause-from
past-i-requires-clause-from g c =
    (first_ahead g.K.Ord.cmp c.args.starts.now c.args.ends.now g.met.K.Ord.total c.requires.starts c.requires.ends c.requires.fewer c.loop-j.i c.loop-j.j (steps_of c.loop-j.list.items) c.loop-j.invariant
    c.first_of-key.result.now c.index-ends-j.result c.loop-j-test.true c.index-ends-j.is c.first_of-key.ensures.one).starts_read

pub past-j-requires-clause-from : goal.past-j-requires-clause-from
past-j-requires-clause-from g c =
    (first_ahead g.K.Ord.cmp c.args.starts.now c.args.ends.now g.met.K.Ord.total c.requires.starts c.requires.ends c.requires.fewer c.loop-j.i c.loop-j.j (steps_of c.loop-j.list.items) c.loop-j.invariant
    c.first_of-key.result.now c.index-ends-j.result c.loop-j-test.true c.index-ends-j.is c.first_of-key.ensures.one).ends_read

pub loop-j-init : goal.loop-j-init
loop-j-init g c =
    rw c.new-list.ensures.items
    (IsSweptTo-nothing g.K.Ord.cmp c.args.starts.now c.args.ends.now g.met.K.Ord.total (steps_of []) refl refl
    (λ x. ap (λ n. get_or (None ∷ []) n None) (count_up_to-nil g.K.Ord.cmp x)))

pub loop-j-smaller : goal.loop-j-smaller
loop-j-smaller g c =
    let order = g.K.Ord.cmp in
    let key = c.first_of-key.result.now in
    omega (
      arith,
      first_read order c.args.starts.now c.args.ends.now g.met.K.Ord.total c.requires.starts c.requires.ends c.requires.fewer c.loop-j.i c.loop-j.j (steps_of c.loop-j.list.items) c.loop-j.invariant
          key c.index-ends-j.result c.loop-j-test.true c.index-ends-j.is c.first_of-key.ensures.one,
      count_up_to-le_length order key c.args.starts.now,
      count_up_to-le_length order key c.args.ends.now,
      c.past-i.ensures,
      c.past-j.ensures,
    )

pub loop-j-preserved : goal.loop-j-preserved
loop-j-preserved g c =
    let option : c.number_or_none.result ≡ _ = c.number_or_none.ensures ∙ ap₂ (λ n m. number_or_none (n - m)) c.past-i.ensures c.past-j.ensures in
    rw (c.past-i.ensures, c.past-j.ensures)
    (IsSweptTo-step g.K.Ord.cmp c.args.starts.now c.args.ends.now g.met.K.Ord.total c.requires.starts c.requires.ends c.requires.fewer c.loop-j.i c.loop-j.j (steps_of c.loop-j.list.items) c.loop-j.invariant
    c.first_of-key.result.now c.index-ends-j.result c.loop-j-test.true c.index-ends-j.is c.first_of-key.ensures.one c.first_of-key.ensures.end c.first_of-key.ensures.start
    (steps_of c.put.new.list.items) c.number_or_none.result (c.in_ok-put.ensures [] refl) option)

pub of_steps-requires : goal.of_steps-requires
of_steps-requires g c = c.loop-j.invariant.canonical

pub returns : goal.returns
returns g c =
    if_ok c.of_steps.result _ _
    (λ map is.
    subst (λ m. IsDifference g.K.Ord.cmp c.args.starts.now c.args.ends.now m) (sym is)
    (IsDifference-swept g.K.Ord.cmp c.args.starts.now c.args.ends.now c.loop-j.i c.loop-j.j (steps_of c.loop-j.list.items) c.requires.as_many (omega (arith, c.loop-j-test.false)) c.loop-j.invariant))
    c.of_steps.ensures
