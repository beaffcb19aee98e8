use Rattle.std.proofs.Common.{◌∙◌, take, sym, ap}
use Rattle.std.proofs.lemmas.List.{take-take}
use Rattle.range_merge.proofs.in_place.builder.with_hole.Goals as goal

pub returns-clause-kept : goal.returns-clause-kept
returns-clause-kept g c =
    let items = g.L.Indexed.items in
    sym (take-take c.args.kept c.args.start (items c.open_hole.new.self) c.requires.sound.ordered)
    ∙ ap (take c.args.kept) c.open_hole.ensures.front
    ∙ take-take c.args.kept c.args.start (items c.args.list.now) c.requires.sound.ordered
