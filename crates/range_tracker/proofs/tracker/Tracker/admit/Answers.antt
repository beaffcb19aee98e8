use Rattle.std.proofs.Common.{◌≡◌, refl, sym, ap, ◌∙◌, ℕ, List, length, arith, rules}
use Rattle.std.specs.Ordering.{nat_cmp}
use Rattle.range_merge.specs.Changes.{changes, taken_items}
use Rattle.range_merge.specs.Connective.{Table}
use Rattle.range_collections.specs.Ranges.{range_items}
use Rattle.range_tracker.proofs.OffsetsLemmas.{length-range_items, IsAscending-range_items, IsListOf-from_means, Means-from_list, TooMany-from, told-too_many, not_memory}
use Rattle.range_tracker.proofs.tracker.Tracker.admit.Goals as goal

pub merge_len-boundaries-requires : goal.merge_len-boundaries-requires
merge_len-boundaries-requires g c =
    let range = c.args.range.now in
    let few = length-range_items range.start range.end in
    let is = ap length (c.offsets_between.ensures range.start range.end refl) in
    (search rules, (c.requires, (omega (arith, few, is, c.self.invariant.within, c.self.invariant.room), search rules)))

pub returns-clause-too_many : goal.returns-clause-too_many
returns-clause-too_many g c =
    λ n.
    let f : Table = g.O.MergeOperation.connective c.args.op.now in
    let range = c.args.range.now in
    let is = c.offsets_between.ensures range.start range.end refl in
    let made = c.changes_mean_the_connective.ensures.means f c.self.inside.set (range_items nat_cmp range.start range.end) c.requires c.self.invariant.sorted (IsAscending-range_items range.start range.end) in
    let items : List ℕ = taken_items (changes nat_cmp f c.self.inside.set (range_items nat_cmp range.start range.end)) in
    let count = rw is at c.merge_len-boundaries.ensures.means items made in
    rw (← c.self.view_is) (
      λ same.
          let told = told-too_many c.within_limit.result c.merge_len-boundaries.result c.self.inside.limit n c.within_limit.ensures.too_many same in
          ((items, IsListOf-from_means f items c.self.inside.set range made, count ∙ told.0), omega (arith, told.0, told.1)),
      λ many.
          let n-is : c.merge_len-boundaries.result ≡ n =
          sym (rw is at c.merge_len-boundaries.ensures.means many.0.0 (Means-from_list f many.0.0 c.self.inside.set range many.0.1)) ∙ many.0.2 in
          TooMany-from c.within_limit.result c.merge_len-boundaries.result c.self.inside.limit n c.within_limit.ensures.within c.within_limit.ensures.too_many n-is many.1,
    )

pub returns-clause-no_memory : goal.returns-clause-no_memory
returns-clause-no_memory g c = not_memory c.within_limit.result c.merge_len-boundaries.result c.self.inside.limit c.within_limit.ensures.too_many
