use Rattle.std.proofs.Common.{◌∙◌, ap, ◌∷◌}
use Rattle.std.specs.List.{remove_range}
use Rattle.range_list.specs.Chunks.{items_of}
use Rattle.range_list.proofs.Replaced.{replaced-put, put-behind}
use Rattle.range_list.proofs.chunk.Chunk.replace.Goals as goal

pub returns-clause-items : goal.returns-clause-items
returns-clause-items g c =
    let xs = items_of c.args.self.now in
    let put = rw c.in_ok-reserve.ensures.items at c.insert_list_reserved.ensures in
    c.remove_between.ensures.items
    ∙ ap (λ ws. remove_range ws c.args.from c.args.to) (ap (λ ws. c.args.self.now.first ∷ ws) put ∙ put-behind c.args.self.now.first c.args.self.now.rest.items c.args.list.items c.args.to c.requires.behind)
    ∙ replaced-put xs c.args.list.items c.args.from c.args.to c.requires.ordered c.requires.within
