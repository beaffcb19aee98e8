use Rattle.std.proofs.Common.{None, cond, ap, ◌∙◌}
use Rattle.std.specs.Option.{option_eq}
use Rattle.range_merge.specs.Boundaries.{member}
use Rattle.range_map.specs.Listed.{steps_in, steps_of}
use Rattle.range_map.specs.Steps.{Steps, value_at}
use Rattle.range_map.proofs.Setlike.{if_ok}
use Rattle.range_map.proofs.InSet.{values-inside}
use Rattle.range_map.proofs.map.RangeMap.restrict_by.Goals as goal

pub returns-clause-values : goal.returns-clause-values
returns-clause-values g c =
    let order = g.K.Ord.cmp in
    let items = c.args.set.boundaries.now in
    rw (← c.self.view_is)
    (if_ok c.of_steps.result _ _
    (λ map is x.
    ap (λ (m : Steps g.row.K.Denot g.row.V.Denot). option_eq g.V.PartialEq.eq (value_at order m x) (cond (member order items x) (value_at order (steps_in c.self.inside.steps) x) None)) is
    ∙ values-inside order g.V.PartialEq.eq items c.deref.result.now c.in_ok-units.units.items c.new-right.result
    c.new-right.ensures c.deref.ensures.value c.in_ok-units.ensures.keys c.in_ok-units.ensures.options
    (steps_in c.self.inside.steps) (steps_of c.in_ok-list.list.items) c.in_ok-list.ensures.values x)
    c.of_steps.ensures)
