use Rattle.std.proofs.Common.{◌∷◌, ◌∙◌}
use Rattle.std.specs.Option.{option_to_list}
use Rattle.std.proofs.lemmas.List.{append-nil}
use Rattle.range_list.proofs.Emptied.{AreChunks-one, flat-one, one_or_two}
use Rattle.range_list.proofs.inserting.put_first.Goals as goal

pub returns-clause-items : goal.returns-clause-items
returns-clause-items g c =
    flat-one c.args.chunks.now.items c.push_reserved.new.self.items c.first_chunk-chunk.result (c.args.first ∷ option_to_list c.args.second) c.requires.none
    c.push_reserved.ensures.items c.first_chunk-chunk.ensures.items ∙ append-nil (c.args.first ∷ option_to_list c.args.second)

pub returns-clause-chunks : goal.returns-clause-chunks
returns-clause-chunks g c =
    AreChunks-one g.M.Mark.of c.args.chunks.now.items c.push_reserved.new.self.items c.first_chunk-chunk.result (c.args.first ∷ option_to_list c.args.second) c.requires.none
    c.push_reserved.ensures.items c.first_chunk-chunk.ensures.items (one_or_two c.args.first c.args.second g.met.M.Mark.some) c.first_chunk-chunk.ensures.mark
