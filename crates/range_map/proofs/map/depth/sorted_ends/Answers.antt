use Rattle.std.proofs.Common.{sym, ◌∙◌}
use Rattle.std.proofs.lemmas.List.Sorted.{length_permutation}
use Rattle.range_map.proofs.Depths.{count_up_to-permutation}
use Rattle.range_map.proofs.map.depth.sorted_ends.Goals as goal

pub returns-clause-depths : goal.returns-clause-depths
returns-clause-depths g c = λ x.
    let made = c.in_ok-starts.field-0 in
    rw (
      count_up_to-permutation g.K.Ord.cmp made.starts.items c.in_ok-sorted.field-0.items x c.in_ok-sorted.ensures.permutation,
      count_up_to-permutation g.K.Ord.cmp made.ends.items c.in_ok-sorted-2.field-0.items x c.in_ok-sorted-2.ensures.permutation,
    )
    (c.in_ok-starts.ensures.depths x)

pub returns-clause-as_many : goal.returns-clause-as_many
returns-clause-as_many g c =
    let made = c.in_ok-starts.field-0 in
    length_permutation made.starts.items c.in_ok-sorted.field-0.items c.in_ok-sorted.ensures.permutation
    ∙ c.in_ok-starts.ensures.as_many
    ∙ sym (length_permutation made.ends.items c.in_ok-sorted-2.field-0.items c.in_ok-sorted-2.ensures.permutation)
