use Rattle.range_collections.specs.Ranges.{range_now}
use Rattle.range_map.specs.Entries.{entries}
use Rattle.range_map.proofs.EntriesLemmas.{first-of, last-of}
use Rattle.range_map.proofs.map.RangeMap.span.Goals as goal

pub returns : goal.returns
returns g c = record {
  first = range_now c.in_ok-first.first;
  last = range_now c.in_ok-last.last;
  is_first = first-of (λ e. e.0) (entries c.args.self.now) (range_now c.in_ok-first.first, c.in_ok-first.field-0-1.now) c.in_ok-first.ensures;
  is_last = last-of (λ e. e.0) (entries c.args.self.now) (range_now c.in_ok-last.last, c.in_ok-last.field-0-1.now) c.in_ok-last.ensures;
  start = c.hull.ensures.start;
  end = c.hull.ensures.end;
}
