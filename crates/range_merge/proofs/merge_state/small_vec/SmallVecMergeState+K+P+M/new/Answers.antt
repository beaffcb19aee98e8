use Rattle.std.proofs.Common.{ap, ◌∙◌, arith}
use Rattle.range_merge.proofs.CopiesLemmas.{AreKeptThenCopies-first}
use Rattle.range_merge.proofs.merge_state.small_vec.SmallVecMergeState+K+P+M.new.Goals as goal

pub returns-clause-output : goal.returns-clause-output
returns-clause-output g c = rw (c.over.ensures.taken, c.over.ensures.fixed ∙ c.len-at_first.ensures.value) (AreKeptThenCopies-first g.P.Copier.alike c.args.r.items)

pub returns-clause-left : goal.returns-clause-left
returns-clause-left g c = c.over.ensures.left

pub returns-clause-right : goal.returns-clause-right
returns-clause-right g c = c.over.ensures.right

pub returns-clause-items : goal.returns-clause-items
returns-clause-items g c = ap (λ list. list.items) c.over.ensures.taken

pub returns-clause-fixed : goal.returns-clause-fixed
returns-clause-fixed g c = c.over.ensures.fixed ∙ c.len-at_first.ensures.value

pub returns-clause-left_on : goal.returns-clause-left_on
returns-clause-left_on g c = c.over.ensures.left_on

pub returns-clause-right_on : goal.returns-clause-right_on
returns-clause-right_on g c = c.over.ensures.right_on

pub returns-clause-at_least_inline : goal.returns-clause-at_least_inline
returns-clause-at_least_inline g c =
    rw (c.over.ensures.taken, ← c.capacity-inline.ensures.value) c.capacity-inline.ensures.at_least_inline

pub returns-clause-infallible : goal.returns-clause-infallible
returns-clause-infallible g c = λ fits left right.
    rw (c.over.ensures.taken, c.over.ensures.left, c.over.ensures.right, ← c.capacity-inline.ensures.value)
    (omega (arith, fits, c.capacity-inline.ensures.at_least_inline), left, right)
