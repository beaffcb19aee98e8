use Rattle.std.proofs.Common.{List, [], ◌∷◌, sym, subst}
use Rattle.range_merge.specs.Connective.{Means}
use Rattle.range_collections.specs.Splicing.{range_table}
use Rattle.range_list.specs.Lists.{joined}
use Rattle.range_chunks.proofs.OpenEnded.{Means-behind_open, pushed}
use Rattle.range_chunks.proofs.several.set_behind_open.Goals as goal

pub returns-clause-means : goal.returns-clause-means
returns-clause-means g c =
    Means-behind_open g.met.T.Ord.total c.args.inside c.args.ranges.now c.args.start c.requires.even c.requires.below
    (joined c.args.list.now) (joined c.push.new.self) (joined c.set_ranges.new.list)
    (subst (λ (l : List g.row.T.Denot). Means g.T.Ord.cmp (range_table c.args.inside) l (joined c.args.list.now) (c.args.start ∷ [])) (sym c.in_ok-push.ensures.items)
    (pushed g.met.T.Ord.total c.args.inside (joined c.args.list.now) c.args.start c.requires.sorted c.requires.all_below c.requires.longer))
    c.in_default.ensures.means
