use Rattle.range_collections.proofs.JsonLemmas.{IsReadingOf-array_of, reading-array_of}
use Rattle.range_collections.proofs.laws.ranges.arrays_read_back.Goals as goal

pub returns-clause-reads : goal.returns-clause-reads
returns-clause-reads c = IsReadingOf-array_of

pub returns-clause-only : goal.returns-clause-only
returns-clause-only c = reading-array_of
