use Rattle.std.proofs.Common.{◌≡◌, ◌∙◌, arith}
use Rattle.std.proofs.lemmas.List.{length-take-le}
use Rattle.range_merge.proofs.EvenSteps.{few-even}
use Rattle.range_merge.proofs.CountSteps.{Counts-then, Counts-window}
use Rattle.range_merge.proofs.fast.short_runs.counted.sixteen_steps.Goals as goal

pub four_more-four-requires-clause-left_some : goal.four_more-four-requires-clause-left_some
four_more-four-requires-clause-left_some g c = omega (arith, length-take-le 18 c.args.a.now c.requires.left_some, c.from_even.ensures.lefts, c.requires.left_few)

pub four_more-four-requires-clause-right_some : goal.four_more-four-requires-clause-right_some
four_more-four-requires-clause-right_some g c = omega (arith, length-take-le 18 c.args.b.now c.requires.right_some, c.from_even.ensures.rights, c.requires.right_few)

pub four_more-eight-requires-clause-left_some : goal.four_more-eight-requires-clause-left_some
four_more-eight-requires-clause-left_some g c = omega (arith, length-take-le 18 c.args.a.now c.requires.left_some, c.from_even.ensures.lefts, c.requires.left_few, c.four_more-four.ensures.left_within)

pub four_more-eight-requires-clause-right_some : goal.four_more-eight-requires-clause-right_some
four_more-eight-requires-clause-right_some g c = omega (arith, length-take-le 18 c.args.b.now c.requires.right_some, c.from_even.ensures.rights, c.requires.right_few, c.four_more-four.ensures.right_within)

pub four_more-twelve-requires-clause-left_some : goal.four_more-twelve-requires-clause-left_some
four_more-twelve-requires-clause-left_some g c = omega (arith, length-take-le 18 c.args.a.now c.requires.left_some, c.from_even.ensures.lefts, c.requires.left_few, c.four_more-four.ensures.left_within, c.four_more-eight.ensures.left_within)

pub four_more-twelve-requires-clause-right_some : goal.four_more-twelve-requires-clause-right_some
four_more-twelve-requires-clause-right_some g c = omega (arith, length-take-le 18 c.args.b.now c.requires.right_some, c.from_even.ensures.rights, c.requires.right_few, c.four_more-four.ensures.right_within, c.four_more-eight.ensures.right_within)

pub four_more-requires-clause-left_some : goal.four_more-requires-clause-left_some
four_more-requires-clause-left_some g c = omega (arith, length-take-le 18 c.args.a.now c.requires.left_some, c.from_even.ensures.lefts, c.requires.left_few, c.four_more-four.ensures.left_within, c.four_more-eight.ensures.left_within, c.four_more-twelve.ensures.left_within)

pub four_more-requires-clause-right_some : goal.four_more-requires-clause-right_some
four_more-requires-clause-right_some g c = omega (arith, length-take-le 18 c.args.b.now c.requires.right_some, c.from_even.ensures.rights, c.requires.right_few, c.four_more-four.ensures.right_within, c.four_more-eight.ensures.right_within, c.four_more-twelve.ensures.right_within)

pub returns-clause-steps : goal.returns-clause-steps
returns-clause-steps g c =
    let i_is : c.from_even.result.i ≡ c.args.at.i = c.from_even.ensures.lefts ∙ few-even c.args.at.i c.requires.left_few in
    let j_is : c.from_even.result.j ≡ c.args.at.j = c.from_even.ensures.rights ∙ few-even c.args.at.j c.requires.right_few in
    rw (i_is, j_is, c.from_even.ensures.taken, c.from_even.ensures.next) at
    (Counts-window g.C.Compare.order (g.O.MergeOperation.connective c.args.op.now) c.args.a.now c.args.b.now 18 18
    (Counts-then c.four_more-four.ensures.looked (Counts-then c.four_more-eight.ensures.looked (Counts-then c.four_more-twelve.ensures.looked c.four_more.ensures.looked))))
