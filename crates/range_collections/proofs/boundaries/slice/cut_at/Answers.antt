use Rattle.std.proofs.Common.{refl, rules}
use Rattle.range_collections.proofs.Changing.{finds}
use Rattle.range_collections.proofs.boundaries.slice.cut_at.Goals as goal

pub cut-requires : goal.cut-requires
cut-requires g c =
    λ k. (
      (refl, tt),
      (
        c.requires.sorted,
        (
          search rules,
          finds g.T.Ord.cmp c.args.items.now c.args.at (λ i. i) c.search-found.result
              c.search-found.ensures.found_within c.search-found.ensures.found c.search-found.ensures.missing_within c.search-found.ensures.missing_before c.search-found.ensures.missing_from,
        ),
      ),
    )
