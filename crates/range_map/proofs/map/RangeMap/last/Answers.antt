use Rattle.range_map.specs.Entries.{entries, entry_now}
use Rattle.range_map.proofs.EntriesLemmas.{MatchOption-last}
use Rattle.range_map.proofs.map.RangeMap.last.Goals as goal

pub returns : goal.returns
returns g c = MatchOption-last entry_now (entries c.args.self.now) c.iter.result c.next_back.new.self c.next_back.result c.iter.ensures c.next_back.ensures.steps
