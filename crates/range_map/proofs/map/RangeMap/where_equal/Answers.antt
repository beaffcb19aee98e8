use Rattle.std.proofs.Common.{◌∙◌}
use Rattle.range_map.proofs.Setlike.{is_some-alike, if_ok}
use Rattle.range_map.proofs.map.RangeMap.where_equal.Goals as goal

pub returns-clause-members : goal.returns-clause-members
returns-clause-members g c =
    if_ok c.into_set.result _ _ (λ set h x. h x ∙ is_some-alike _ _ _ (c.in_ok-units.ensures.values x)) c.into_set.ensures
