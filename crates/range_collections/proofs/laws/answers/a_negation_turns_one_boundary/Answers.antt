use Rattle.range_collections.proofs.Answered.{length-flipped, length-flipped_copies}
use Rattle.range_collections.proofs.laws.answers.a_negation_turns_one_boundary.Goals as goal

pub returns-clause-length : goal.returns-clause-length
returns-clause-length g c = λ least room a items gives.
    length-flipped_copies g.met.T.Ord.total least items g.T.EntryClone.is_copy a gives.flipped

pub returns-clause-own_length : goal.returns-clause-own_length
returns-clause-own_length g c = λ least room a items gives. length-flipped g.met.T.Ord.total least items a gives.flipped
