use Rattle.std.proofs.Common.{arith}
use Rattle.range_list.specs.Lists.{joined, place_at}
use Rattle.range_list.proofs.Placed.{place_at-within}
use Rattle.range_collections.proofs.Splices.{length-spliced}
use Rattle.range_chunked_tracker.proofs.tracking.len_spliced.Goals as goal

pub overflow_cast-result : goal.overflow_cast-result
overflow_cast-result c = omega (arith, c.len_between.ensures, c.requires.len, c.requires.room, place_at-within c.args.list.now c.args.to c.requires.to)

pub overflow_sub-result : goal.overflow_sub-result
overflow_sub-result c = omega (arith, c.len_between.ensures, c.requires.len, place_at-within c.args.list.now c.args.to c.requires.to)

pub returns : goal.returns
returns c =
    let xs = c.args.list.now in
    omega (
      arith,
      c.len_between.ensures,
      c.requires.len,
      c.count.ensures,
      c.count-2.ensures,
      place_at-within xs c.args.to c.requires.to,
      length-spliced (joined xs) (place_at xs c.args.from) (place_at xs c.args.to) c.args.start c.args.end c.requires.ordered (place_at-within xs c.args.to c.requires.to),
    )
