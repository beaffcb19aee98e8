use Rattle.range_list.specs.Lists.{joined}
use Rattle.range_map.specs.Listed.{steps_in}
use Rattle.range_map.proofs.Retained.{kept-by_value}
use Rattle.range_map.proofs.map.RangeMap.retain.Goals as goal

pub returns : goal.returns
returns g c x =
    rw (← c.self.view_is)
    (kept-by_value g.K.Ord.cmp g.met.K.Ord.total g.V.PartialEq.eq (g.F.MapFilter.is_kept c.args.filter.now) (joined c.self.inside.steps) (steps_in c.retain_entries.new.steps)
    c.self.invariant.ascending c.retain_entries.ensures.values x)
