use Rattle.std.proofs.Common.{◌≡◌, ◌∙◌, sym, take, arith}
use Rattle.std.specs.declared.cmp.Ordering.TheVariants.{Less, Equal}
use Rattle.std.proofs.lemmas.List.{length-take-le}
use Rattle.std.proofs.lemmas.List.Elements.{length_all_zip}
use Rattle.range_merge.proofs.SameSet.{same_items}
use Rattle.range_collections.specs.Splicing.{IsCut}
use Rattle.range_collections.proofs.Ascending.{Less-from_is_lt}
use Rattle.range_collections.proofs.Insertion.{cuts_ordered, Means-spliced, length-meant, Means-no_range}
use Rattle.range_c.proofs.in_place.set_range.Goals as goal

pub returns-then-not-has_elements : goal.returns-then-not-has_elements
returns-then-not-has_elements g c =
    let order = g.T.Ord.cmp in
    let a = take c.args.len c.args.buffer.now in
    let up = c.requires.sorted in
    let same = Means-no_range g.met.T.Ord.total c.args.inside a c.args.start c.args.end up
    (sym c.has_elements.ensures.value ∙ c.if-not-has_elements.true) in
    record {
      counted = λ items m.
          sym (length_all_zip (λ x y. order x y ≡ Equal) items a
          (same_items g.met.T.Ord.total items a m.sorted up (λ x. m.members x ∙ sym (same.members x))) ∙ length-take-le c.args.len c.args.buffer.now c.requires.within);
      means = λ _. same;
      unchanged = λ short. absurd (omega (arith, short, c.requires.within));
    }

pub splice-requires-clause-ordered : goal.splice-requires-clause-ordered
splice-requires-clause-ordered g c =
    let order = g.T.Ord.cmp in
    let a = take c.args.len c.args.buffer.now in
    let less : order c.args.start c.args.end ≡ Less = Less-from_is_lt (order c.args.start c.args.end) (sym c.has_elements.ensures.value ∙ c.if-not-has_elements.false) in
    let p : IsCut order c.args.inside a c.args.start c.cut_at-from.result.0 c.cut_at-from.result.1 = rw c.split_at.ensures.front at c.cut_at-from.ensures.cut in
    let q : IsCut order c.args.inside a c.args.end c.cut_at-to.result.0 c.cut_at-to.result.1 = rw c.split_at.ensures.front at c.cut_at-to.ensures.cut in
    cuts_ordered g.met.T.Ord.total c.args.inside a c.args.start c.args.end _ _ _ _ c.requires.sorted less p q

pub returns : goal.returns
returns g c =
    let order = g.T.Ord.cmp in
    let a = take c.args.len c.args.buffer.now in
    let less : order c.args.start c.args.end ≡ Less = Less-from_is_lt (order c.args.start c.args.end) (sym c.has_elements.ensures.value ∙ c.if-not-has_elements.false) in
    let p : IsCut order c.args.inside a c.args.start c.cut_at-from.result.0 c.cut_at-from.result.1 = rw c.split_at.ensures.front at c.cut_at-from.ensures.cut in
    let q : IsCut order c.args.inside a c.args.end c.cut_at-to.result.0 c.cut_at-to.result.1 = rw c.split_at.ensures.front at c.cut_at-to.ensures.cut in
    record {
      counted = λ items m. c.splice.ensures.counted ∙ sym (length-meant g.met.T.Ord.total c.args.inside a c.args.start c.args.end _ _ _ _ c.requires.sorted less p q items m);
      means = λ fits. rw (c.splice.ensures.items fits) (Means-spliced g.met.T.Ord.total c.args.inside a c.args.start c.args.end _ _ _ _ c.requires.sorted less p q);
      unchanged = c.splice.ensures.unchanged;
    }
