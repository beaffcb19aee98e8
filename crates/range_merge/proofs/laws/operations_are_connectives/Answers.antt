use Rattle.std.proofs.Common.{◌≡◌, Bool, true, false, refl}
use Rattle.range_merge.specs.Connective.{table_of, union_table, intersection_table, difference_table, symmetric_difference_table}
use Rattle.range_merge.proofs.laws.operations_are_connectives.Goals as goal

union : (a b : Bool) → union_table a b ≡ table_of false true true true a b
union true true = refl
union true false = refl
union false true = refl
union false false = refl

pub returns-clause-union : goal.returns-clause-union
returns-clause-union c = union

intersection : (a b : Bool) → intersection_table a b ≡ table_of false false false true a b
intersection true true = refl
intersection true false = refl
intersection false true = refl
intersection false false = refl

pub returns-clause-intersection : goal.returns-clause-intersection
returns-clause-intersection c = intersection

difference : (a b : Bool) → difference_table a b ≡ table_of false true false false a b
difference true true = refl
difference true false = refl
difference false true = refl
difference false false = refl

pub returns-clause-difference : goal.returns-clause-difference
returns-clause-difference c = difference

symmetric_difference : (a b : Bool) → symmetric_difference_table a b ≡ table_of false true true false a b
symmetric_difference true true = refl
symmetric_difference true false = refl
symmetric_difference false true = refl
symmetric_difference false false = refl

pub returns-clause-symmetric_difference : goal.returns-clause-symmetric_difference
returns-clause-symmetric_difference c = symmetric_difference
