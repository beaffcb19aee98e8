use Rattle.std.proofs.Common.{sym, ap, ◌∙◌}
use Rattle.std.proofs.lemmas.Result.{on_ok_weaker}
use Rattle.range_map.specs.Listed.{steps_in}
use Rattle.range_map.specs.Updated.{unit_on}
use Rattle.range_map.proofs.Windowed.{updated-combined}
use Rattle.range_map.proofs.updating.update_range.Goals as goal

pub returns-in-Some-clause-values : goal.returns-in-Some-clause-values
returns-in-Some-clause-values g c =
    on_ok_weaker c.combine_in_place.result
    (updated-combined g.K.Ord.cmp g.met.K.Ord.total g.V.PartialEq.eq (g.O.MapUpdate.gives c.args.op.now) (steps_in c.args.steps.now) (steps_in c.combine_in_place.new.steps) c.new-range.result
    c.args.start.now c.args.end.now c.requires.some (c.new-range.ensures ∙ ap (unit_on c.args.start.now) (sym c.in-Some.is)))
    c.combine_in_place.ensures.values

pub returns-in-None-clause-values : goal.returns-in-None-clause-values
returns-in-None-clause-values g c =
    on_ok_weaker c.combine_in_place-in-None.result
    (updated-combined g.K.Ord.cmp g.met.K.Ord.total g.V.PartialEq.eq (g.O.MapUpdate.gives c.args.op.now) (steps_in c.args.steps.now) (steps_in c.combine_in_place-in-None.new.steps) c.new-range-in-None.result
    c.args.start.now c.args.end.now c.requires.some (c.new-range-in-None.ensures ∙ ap (unit_on c.args.start.now) (sym c.in-None.is)))
    c.combine_in_place-in-None.ensures.values
