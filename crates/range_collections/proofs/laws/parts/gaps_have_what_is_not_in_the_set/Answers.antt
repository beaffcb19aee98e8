use Rattle.range_collections.proofs.PartsLaws.{Any-gaps, Any-within, nil-nothing}
use Rattle.range_collections.proofs.RangesLemmas.{All-ranges_have, ranges_apart}
use Rattle.range_collections.proofs.laws.parts.gaps_have_what_is_not_in_the_set.Goals as goal

pub returns-clause-gaps : goal.returns-clause-gaps
returns-clause-gaps g c = Any-gaps g.met.T.Ord.total

pub returns-clause-within : goal.returns-clause-within
returns-clause-within g c = Any-within g.met.T.Ord.total

pub returns-clause-filled : goal.returns-clause-filled
returns-clause-filled g c = λ start end items gaps m. All-ranges_have g.met.T.Ord.total gaps m.sorted

pub returns-clause-apart : goal.returns-clause-apart
returns-clause-apart g c = λ start end items gaps m. ranges_apart g.met.T.Ord.total gaps m.sorted

pub returns-clause-nothing : goal.returns-clause-nothing
returns-clause-nothing g c = nil-nothing g.met.T.Ord.total
