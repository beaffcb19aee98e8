use Rattle.std.proofs.Common.{◌≡◌, ◌∷◌, None, get_or, sym, ap, ◌∙◌}
use Rattle.range_merge.specs.Boundaries.{count_up_to}
use Rattle.range_collections.proofs.CountUpTo.{count_up_to-split}
use Rattle.range_list.specs.Lists.{place_at}
use Rattle.range_map.specs.Listed.{steps_in}
use Rattle.range_map.proofs.map.RangeMap.get_counted.Goals as goal

pub returns-clause-value : goal.returns-clause-value
returns-clause-value g c =
    let m = steps_in c.self.inside.steps in
    let f = c.place_up_to-place.ensures in
    let n = place_at c.self.inside.steps c.place_up_to-place.result in
    let e : count_up_to g.K.Ord.cmp m.keys c.args.key.now ≡ n = count_up_to-split g.K.Ord.cmp c.args.key.now m.keys n f.within f.up_to f.above in
    rw (← c.self.view_is) (c.option_before.ensures ∙ ap (λ k. get_or (None ∷ m.options) k None) (sym e))
