use Rattle.std.proofs.Common.{sym, ◌∙◌, option_copied}
use Rattle.range_list.specs.Lists.{place_at}
use Rattle.range_map.specs.Listed.{steps_in}
use Rattle.range_map.proofs.Stretched.{at_x, start_from, IsStretch-around}
use Rattle.range_map.proofs.map.RangeMap.range_at.Goals as goal

pub returns-clause-value : goal.returns-clause-value
returns-clause-value g c =
    let m = steps_in c.self.inside.steps in
    let f = c.place_up_to-place.ensures in
    let n = place_at c.self.inside.steps c.place_up_to-place.result in
    rw (← c.self.view_is)
    (c.option_before.ensures ∙ sym (at_x g.K.Ord.cmp g.met.K.Ord.total g.V.PartialEq.eq g.met.V.Eq.laws m c.self.invariant c.args.key.now n f.within f.up_to f.above))

pub returns-clause-around : goal.returns-clause-around
returns-clause-around g c =
    let m = steps_in c.self.inside.steps in
    let f = c.place_up_to-place.ensures in
    let n = place_at c.self.inside.steps c.place_up_to-place.result in
    rw (← c.self.view_is)
    (IsStretch-around g.K.Ord.cmp g.met.K.Ord.total g.V.PartialEq.eq g.met.V.Eq.laws m c.self.invariant c.args.key.now n f.within f.up_to f.above
    (option_copied c.key_before.result) (option_copied c.key_at.result)
    (start_from n m.keys (option_copied c.key_before.result) c.key_before.ensures f.within) c.key_at.ensures)
