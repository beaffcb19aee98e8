use Rattle.std.proofs.Common.{None, cond, ap, ◌∙◌}
use Rattle.std.specs.Option.{option_eq}
use Rattle.range_merge.specs.Boundaries.{member}
use Rattle.range_map.specs.Steps.{Steps, value_at}
use Rattle.range_map.proofs.map.RangeMap.retain_all.Goals as goal

pub returns-clause-values : goal.returns-clause-values
returns-clause-values g c x =
    ap (λ (m : Steps g.row.K.Denot g.row.V.Denot).
    option_eq g.V.PartialEq.eq (value_at g.K.Ord.cmp m x) (cond (member g.K.Ord.cmp c.args.set.boundaries.now x) (value_at g.K.Ord.cmp c.args.self.now x) None))
    c.drop.view_is
    ∙ c.in_ok-self-inside.ensures.values x
