use Rattle.std.proofs.lemmas.Result.{on_ok_weaker}
use Rattle.range_map.specs.Listed.{steps_in}
use Rattle.range_map.proofs.InSet.{values-outside}
use Rattle.range_map.proofs.map.RangeMap.remove_all_by.Goals as goal

pub returns-clause-values : goal.returns-clause-values
returns-clause-values g c =
    rw (← c.self.view_is)
    (on_ok_weaker c.combine_in_place.result
    (values-outside g.K.Ord.cmp g.V.PartialEq.eq c.args.set.boundaries.now c.deref.result.now c.in_ok-units.units.items c.new-right.result
    c.new-right.ensures c.deref.ensures.value c.in_ok-units.ensures.keys c.in_ok-units.ensures.options
    (steps_in c.self.inside.steps) (steps_in c.combine_in_place.new.steps))
    c.combine_in_place.ensures.values)
