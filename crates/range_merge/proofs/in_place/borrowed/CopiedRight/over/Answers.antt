use Rattle.range_merge.proofs.in_place.borrowed.CopiedRight.over.Goals as goal

pub invariant_of-result : goal.invariant_of-result
invariant_of-result g c = rw (c.new.ensures, c.over.ensures) c.requires

pub returns : goal.returns
returns g c = c.new.ensures
