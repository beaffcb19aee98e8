use Rattle.std.proofs.Common.{◌≡◌, refl, ap, ◌∙◌, ℕ, ◌&&◌, not, List, length, arith}
use Rattle.std.proofs.lemmas.Result.{IfOk-weaker}
use Rattle.range_tracker.proofs.OffsetsLemmas.{length-range_items, offsets_of-below, same_length, IsListOf-self}
use Rattle.range_merge.specs.Boundaries.{member}
use Rattle.std.specs.Ordering.{nat_cmp}
use Rattle.range_tracker.proofs.tracker.Tracker.missing.Goals as goal

pub returns-clause-missing : goal.returns-clause-missing
returns-clause-missing c =
    let is = c.offsets_between.ensures 0 c.args.len refl in
    let means = rw (is, c.as_ref.ensures.same) at c.difference.ensures.gives.means in
    rw (← c.self.view_is) (IfOk-weaker c.difference.result _ _
    (λ set m. record {
      sorted = m.sorted;
      offsets = λ n. m.members n ∙ ap (λ b. b && not (member nat_cmp c.self.inside.set n)) (offsets_of-below c.args.len n);
    })
    means)

pub returns-clause-succeeds : goal.returns-clause-succeeds
returns-clause-succeeds c =
    λ none.
    let is = c.offsets_between.ensures 0 c.args.len refl in
    let few = length-range_items 0 c.args.len in
    let a : List ℕ = c.self.inside.set in
    let held = rw (← c.self.view_is) at none in
    let empty : length a ≡ 0 = same_length (member nat_cmp a) a held.0 (IsListOf-self a c.self.invariant.sorted) held.1 ∙ held.2 in
    let succeeds = rw (is, c.as_ref.ensures.same) at c.difference.ensures.gives.succeeds in
    succeeds (omega arith) (λ k d h. tt) (λ k d h. tt)
