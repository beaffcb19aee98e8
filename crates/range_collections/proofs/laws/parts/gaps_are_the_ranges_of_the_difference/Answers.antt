use Rattle.range_merge.specs.Connective.{intersection_table, difference_table}
use Rattle.range_collections.specs.Ranges.{range_items}
use Rattle.range_collections.proofs.PartsLaws.{AllZip-meant}
use Rattle.range_collections.proofs.laws.parts.gaps_are_the_ranges_of_the_difference.Goals as goal

pub returns-clause-gaps : goal.returns-clause-gaps
returns-clause-gaps g c = λ start end items gaps list m n.
    AllZip-meant g.met.T.Ord.total difference_table (range_items g.T.Ord.cmp start end) items gaps list m n

pub returns-clause-within : goal.returns-clause-within
returns-clause-within g c = λ start end items parts list m n.
    AllZip-meant g.met.T.Ord.total intersection_table (range_items g.T.Ord.cmp start end) items parts list m n
