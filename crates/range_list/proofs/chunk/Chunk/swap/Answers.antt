use Rattle.std.proofs.Common.{rules}
use Rattle.range_list.proofs.Swapped.{swapped-rest}
use Rattle.range_list.proofs.chunk.Chunk.swap.Goals as goal

pub returns-else-a-eq0-clause-items : goal.returns-else-a-eq0-clause-items
returns-else-a-eq0-clause-items g c = λ d.
    swapped-rest c.args.self.now.first c.args.self.now.rest.items c.swap_in_list.new.list.items c.args.a c.args.b d (search rules) c.requires.ordered c.requires.within
    c.swap_in_list.ensures
