use Rattle.std.proofs.lemmas.List.{map-id}
use Rattle.range_list.proofs.itself.ItselfSearchBy.search.Goals as goal

pub search-requires-clause-ascending : goal.search-requires-clause-ascending
search-requires-clause-ascending g c = rw (map-id c.args.items.now) at c.requires.ascending

pub returns-clause-found : goal.returns-clause-found
returns-clause-found g c = rw (map-id c.args.items.now) c.search.ensures.found

pub returns-clause-missing_before : goal.returns-clause-missing_before
returns-clause-missing_before g c = rw (map-id c.args.items.now) c.search.ensures.missing_before

pub returns-clause-missing_from : goal.returns-clause-missing_from
returns-clause-missing_from g c = rw (map-id c.args.items.now) c.search.ensures.missing_from
