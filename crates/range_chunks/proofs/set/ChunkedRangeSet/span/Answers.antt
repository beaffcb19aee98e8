use Rattle.std.proofs.Common.{refl}
use Rattle.range_collections.specs.Ranges.{range_now}
use Rattle.range_chunks.proofs.set.ChunkedRangeSet.span.Goals as goal

pub returns-in-Range : goal.returns-in-Range
returns-in-Range g c = record {
  first = range_now c.in_ok-first.field-0;
  last = range_now c.in_ok-range.field-0;
  is_first = c.in_ok-first.ensures;
  is_last = c.in_ok-range.ensures;
  start = c.start_of-start.ensures;
  end = rw c.in-Range.is refl;
}

pub returns-in-RangeFrom : goal.returns-in-RangeFrom
returns-in-RangeFrom g c = record {
  first = range_now c.in_ok-first.field-0;
  last = range_now c.in_ok-range.field-0;
  is_first = c.in_ok-first.ensures;
  is_last = c.in_ok-range.ensures;
  start = c.start_of-start.ensures;
  end = rw c.in-RangeFrom.is refl;
}
