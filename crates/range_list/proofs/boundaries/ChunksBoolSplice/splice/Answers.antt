use Rattle.range_list.specs.Lists.{place_at}
use Rattle.range_collections.proofs.Changing.{alike-spliced, alike_next-spliced}
use Rattle.range_list.proofs.boundaries.ChunksBoolSplice.splice.Goals as goal

pub splice-requires-clause-alike : goal.splice-requires-clause-alike
splice-requires-clause-alike g c = alike-spliced (place_at c.args.self.now c.args.from) (place_at c.args.self.now c.args.to) c.args.start c.args.end c.requires.parity

pub splice-requires-clause-alike_next : goal.splice-requires-clause-alike_next
splice-requires-clause-alike_next g c = alike_next-spliced (place_at c.args.self.now c.args.from) (place_at c.args.self.now c.args.to) c.args.start c.args.end c.requires.parity
