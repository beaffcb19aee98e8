use Rattle.std.proofs.Common.{◌++◌, ap, ◌∙◌, arith}
use Rattle.std.proofs.lemmas.List.{take_all}
use Rattle.range_merge.proofs.in_place.builder.InPlaceBuilder.finish.Goals as goal

pub returns-clause-items : goal.returns-clause-items
returns-clause-items g c =
    let all = take_all c.unread_len-rest.result c.args.self.unread (omega (arith, c.unread_len-rest.ensures)) in
    c.only_kept.ensures.items ∙ c.keep.ensures.kept ∙ ap (λ items. c.args.self.kept ++ items) all

pub returns-clause-room : goal.returns-clause-room
returns-clause-room g c = c.only_kept.ensures.room ∙ c.keep.ensures.room
