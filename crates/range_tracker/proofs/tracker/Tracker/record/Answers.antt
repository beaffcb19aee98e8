use Rattle.std.proofs.Common.{refl, sym, ℕ, ◌≤◌, ◌⊎◌, List, length, true≢false}
use Rattle.std.proofs.lemmas.Result.{err_from_is_err_and}
use Rattle.std.specs.Ordering.{nat_cmp}
use Rattle.range_merge.specs.Connective.{Means, union_table}
use Rattle.range_collections.specs.Ranges.{range_items}
use Rattle.range_tracker.proofs.OffsetsLemmas.{length-range_items, IsListOf-from_means, IsListOf-first_added, refused-grows, refused-not_first, is_even-from_means, length-within}
use Rattle.range_merge.specs.Boundaries.{member}
use Rattle.range_tracker.proofs.tracker.Tracker.record.Goals as goal

pub returns-in_err-admit-clause-answer : goal.returns-in_err-admit-clause-answer
returns-in_err-admit-clause-answer c =
    let p = err_from_is_err_and c.from_residual.result c.from_residual.ensures.1 in
    let told = c.in_err-admit.ensures in
    rw (p.1, p.2) (record {
      too_many = told.too_many;
      no_growth = λ m n old new few. told.no_memory;
      first = λ none. told.no_memory;
    })

pub returns-in_err-insert-clause-answer : goal.returns-in_err-insert-clause-answer
returns-in_err-insert-clause-answer c =
    let p = err_from_is_err_and c.from_residual-in_err-insert.result c.from_residual-in_err-insert.ensures.1 in
    let range = c.args.range in
    let a : List ℕ = c.self.inside.set in
    let fails : (items : List ℕ) → Means nat_cmp union_table items a (range_items nat_cmp range.start range.end) →
    (length items ≤ length a) ⊎ (length items ≤ 2) → ⊥ =
    λ items means room. true≢false (sym (c.in_err-insert.ensures.changed.succeeds items means room)) in
    rw (p.1, p.2, ← c.self.view_is) (record {
      too_many = λ n. (λ same. cc, λ many. let done = (rw (← c.self.view_is) at c.in_ok-admit.ensures.too_many n).1 many in cc);
      no_growth = λ m n old new few bad. refused-grows union_table a range fails c.self.invariant.sorted m n old new few;
      first = λ none bad. refused-not_first union_table a range fails (range_items nat_cmp c.args.range.start c.args.range.end) (IsListOf-first_added (member nat_cmp a) range none) (length-range_items c.args.range.start c.args.range.end);
    })

pub invariant_of-self-2 : goal.invariant_of-self-2
invariant_of-self-2 c =
    let means = c.in_ok-insert.ensures.changed.means in
    record {
      sorted = means.sorted;
      ended = is_even-from_means union_table refl c.insert.new.self c.self.inside.set c.args.range means c.self.invariant.ended;
      within = length-within _ c.insert.new.self c.self.inside.limit
          (IsListOf-from_means union_table c.insert.new.self c.self.inside.set c.args.range means)
          (λ n many. let done = (rw (← c.self.view_is) at c.in_ok-admit.ensures.too_many n).1 many in cc);
      room = c.self.invariant.room;
    }

pub returns-clause-ok : goal.returns-clause-ok
returns-clause-ok c =
    rw (← c.self.view_is) (IsListOf-from_means union_table c.insert.new.self c.self.inside.set c.args.range c.in_ok-insert.ensures.changed.means).offsets
