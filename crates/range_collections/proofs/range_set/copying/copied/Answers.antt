use Rattle.std.proofs.Common.{rules}
use Rattle.range_collections.proofs.Unions.{copies_are_equal}
use Rattle.range_collections.proofs.Values.{IsAscending-equal}
use Rattle.range_collections.proofs.range_set.copying.copied.Goals as goal

pub new_unchecked-requires : goal.new_unchecked-requires
new_unchecked-requires g c = (
  search rules,
  (
    search rules,
    IsAscending-equal g.met.T.Ord.total c.args.set.boundaries.now c.in_ok-copies.field-0.items
        (copies_are_equal g.met.T.Ord.total c.requires.copies c.args.set.boundaries.now c.in_ok-copies.field-0.items
        c.in_ok-copies.ensures.copies)
        c.args.set.sorted,
  ),
)
