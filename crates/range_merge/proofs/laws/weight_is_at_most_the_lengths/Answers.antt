use Rattle.range_merge.proofs.Digits.{digits-le, weight-le}
use Rattle.range_merge.proofs.laws.weight_is_at_most_the_lengths.Goals as goal

pub returns-clause-digits : goal.returns-clause-digits
returns-clause-digits g c = digits-le

pub returns-clause-weight : goal.returns-clause-weight
returns-clause-weight g c = weight-le g.C.Compare.order
