use Rattle.std.proofs.Common.{rules}
use Rattle.range_list.specs.Chunks.{items_of}
use Rattle.range_list.proofs.Between.{behind-first, with-first, nothing-between}
use Rattle.range_list.proofs.chunk.Chunk.between.Goals as goal

pub returns-then-from-gt0 : goal.returns-then-from-gt0
returns-then-from-gt0 g c =
    rw c.as_slice-rest.ensures.value (behind-first c.args.self.now.first c.args.self.now.rest.items c.args.from c.args.to (search rules))

pub returns-then-to-gt0 : goal.returns-then-to-gt0
returns-then-to-gt0 g c =
    rw c.as_slice-rest.ensures.value (with-first c.args.self.now.first c.args.self.now.rest.items c.args.from c.args.to (search rules) (search rules))

pub returns-else-to-gt0 : goal.returns-else-to-gt0
returns-else-to-gt0 g c = nothing-between (items_of c.args.self.now) c.args.from c.args.to (search rules)
