use Rattle.std.proofs.Common.{Ok, inr, refl, sym, ◌∙◌, arith, true≢false}
use Rattle.std.proofs.lemmas.Bool.{false≢true}
use Rattle.std.proofs.lemmas.Result.{IfOk-from_err, IfOk-weaker}
use Rattle.range_collections.specs.Values.{IsFlipped}
use Rattle.range_collections.proofs.Combined.{MeansAmong-from_means, IfOk-negated}
use Rattle.range_collections.proofs.Headline.{IsTheResult-combined, AreValues-copied}
use Rattle.range_collections.proofs.view.RangeSetRef.combine.Goals as goal

pub returns-then-flips-clause-means : goal.returns-then-flips-clause-means
returns-then-flips-clause-means g c =
    let f = g.O.MergeOperation.connective c.args.op.now in
    let a = c.args.self.now.boundaries.now in
    let b = c.args.that.boundaries.now in
    let on = sym c.when_off-flips.ensures ∙ c.if-flips.true in
    IfOk-negated g.T.Ord.cmp g.T.RangeSetEntry.is_value f c.in_ok-merged.merged a b c.not.result on
    (c.in_ok-merged.ensures.opposite on) c.not.ensures.gives.negates

pub returns-then-flips-clause-flipped : goal.returns-then-flips-clause-flipped
returns-then-flips-clause-flipped g c = λ _.
    let Flipped = IsFlipped g.T.Ord.cmp g.T.RangeSetEntry.least c.in_ok-merged.merged in
    IfOk-weaker c.not.result Flipped _ (λ items w. (c.in_ok-merged.merged, c.in_ok-merged.ensures.copies, w)) c.not.ensures.gives.flipped

pub returns-then-flips-clause-succeeds_flipped : goal.returns-then-flips-clause-succeeds_flipped
returns-then-flips-clause-succeeds_flipped g c = λ _ room _ _ infallible.
    let f = g.O.MergeOperation.connective c.args.op.now in
    let a = c.args.self.now.boundaries.now in
    let b = c.args.that.boundaries.now in
    c.not.ensures.gives.succeeds (inr (omega (arith, room, c.changes_are_at_most_the_lengths.ensures.at_most f a b, c.in_ok-merged.ensures.len), infallible))

pub returns-else-flips-clause-means : goal.returns-else-flips-clause-means
returns-else-flips-clause-means g c =
    let f = g.O.MergeOperation.connective c.args.op.now in
    let a = c.args.self.now.boundaries.now in
    let b = c.args.that.boundaries.now in
    let off = sym c.when_off-flips.ensures ∙ c.if-flips.false in
    MeansAmong-from_means g.T.Ord.cmp g.T.RangeSetEntry.is_value f c.in_ok-merged.merged a b (c.in_ok-merged.ensures.gives off).means

pub returns-then-flips-clause-left_own_item : goal.returns-then-flips-clause-left_own_item
returns-then-flips-clause-left_own_item g c = λ off. absurd (true≢false (sym (sym c.when_off-flips.ensures ∙ c.if-flips.true) ∙ off))

pub returns-else-flips-clause-left_own_item : goal.returns-else-flips-clause-left_own_item
returns-else-flips-clause-left_own_item g c = λ _. c.in_ok-merged.ensures.copies

pub returns-in_err-merged-clause-left_own_item : goal.returns-in_err-merged-clause-left_own_item
returns-in_err-merged-clause-left_own_item g c = λ off. IfOk-from_err c.from_residual.result _ c.from_residual.ensures.0

pub returns-in_err-merged-clause-succeeds : goal.returns-in_err-merged-clause-succeeds
returns-in_err-merged-clause-succeeds g c = λ off room left right. absurd (false≢true (c.in_err-merged.ensures.succeeds room left right))

pub returns-in_err-merged-clause-succeeds_flipped : goal.returns-in_err-merged-clause-succeeds_flipped
returns-in_err-merged-clause-succeeds_flipped g c = λ on room left right infallible. absurd (false≢true (c.in_err-merged.ensures.succeeds (omega (arith, room)) left right))

pub returns-in_err-merged-clause-means : goal.returns-in_err-merged-clause-means
returns-in_err-merged-clause-means g c = IfOk-from_err c.from_residual.result _ c.from_residual.ensures.0

pub returns-in_err-merged-clause-flipped : goal.returns-in_err-merged-clause-flipped
returns-in_err-merged-clause-flipped g c = λ on. IfOk-from_err c.from_residual.result _ c.from_residual.ensures.0

pub returns-in_err-merged-clause-comparisons : goal.returns-in_err-merged-clause-comparisons
returns-in_err-merged-clause-comparisons g c = c.merged.ensures.comparisons

pub returns-then-flips-clause-succeeds : goal.returns-then-flips-clause-succeeds
returns-then-flips-clause-succeeds g c = λ off. absurd (true≢false (sym (sym c.when_off-flips.ensures ∙ c.if-flips.true) ∙ off))

pub returns-then-flips-clause-comparisons : goal.returns-then-flips-clause-comparisons
returns-then-flips-clause-comparisons g c = c.merged.ensures.comparisons

pub returns-else-flips-clause-flipped : goal.returns-else-flips-clause-flipped
returns-else-flips-clause-flipped g c = λ on. absurd (true≢false (sym on ∙ sym c.when_off-flips.ensures ∙ c.if-flips.false))

pub returns-else-flips-clause-succeeds : goal.returns-else-flips-clause-succeeds
returns-else-flips-clause-succeeds g c = λ off room left right. refl

pub returns-else-flips-clause-succeeds_flipped : goal.returns-else-flips-clause-succeeds_flipped
returns-else-flips-clause-succeeds_flipped g c = λ on. absurd (true≢false (sym on ∙ sym c.when_off-flips.ensures ∙ c.if-flips.false))

pub returns-else-flips-clause-comparisons : goal.returns-else-flips-clause-comparisons
returns-else-flips-clause-comparisons g c = c.merged.ensures.comparisons

pub returns-then-flips-clause-headline : goal.returns-then-flips-clause-headline
returns-then-flips-clause-headline g c =
    let f = g.O.MergeOperation.connective c.args.op.now in
    let a = c.args.self.now.boundaries.now in
    let b = c.args.that.boundaries.now in
    record {
      fact =
          IsTheResult-combined g.met.T.Ord.total g.met.T.EntryClone.copy_is_equal g.T.RangeSetEntry.is_value g.T.RangeSetEntry.least
          g.met.T.RangeSetEntry.least_is_least f a b _ (c.changes_are_marked_truly.ensures.marks f a b c.args.self.now.sorted c.args.that.sorted)
          (returns-then-flips-clause-means g c) (returns-then-flips-clause-left_own_item g c) (returns-then-flips-clause-flipped g c);
      comparisons = returns-then-flips-clause-comparisons g c;
    }

pub returns-else-flips-clause-headline : goal.returns-else-flips-clause-headline
returns-else-flips-clause-headline g c =
    let f = g.O.MergeOperation.connective c.args.op.now in
    let a = c.args.self.now.boundaries.now in
    let b = c.args.that.boundaries.now in
    record {
      fact =
          IsTheResult-combined g.met.T.Ord.total g.met.T.EntryClone.copy_is_equal g.T.RangeSetEntry.is_value g.T.RangeSetEntry.least
          g.met.T.RangeSetEntry.least_is_least f a b (Ok c.in_ok-merged.merged) (c.changes_are_marked_truly.ensures.marks f a b c.args.self.now.sorted c.args.that.sorted)
          (returns-else-flips-clause-means g c) (returns-else-flips-clause-left_own_item g c) (returns-else-flips-clause-flipped g c);
      comparisons = returns-else-flips-clause-comparisons g c;
    }

pub returns-in_err-merged-clause-headline : goal.returns-in_err-merged-clause-headline
returns-in_err-merged-clause-headline g c =
    let f = g.O.MergeOperation.connective c.args.op.now in
    let a = c.args.self.now.boundaries.now in
    let b = c.args.that.boundaries.now in
    record {
      fact =
          IsTheResult-combined g.met.T.Ord.total g.met.T.EntryClone.copy_is_equal g.T.RangeSetEntry.is_value g.T.RangeSetEntry.least
          g.met.T.RangeSetEntry.least_is_least f a b _ (c.changes_are_marked_truly.ensures.marks f a b c.args.self.now.sorted c.args.that.sorted)
          (returns-in_err-merged-clause-means g c) (returns-in_err-merged-clause-left_own_item g c) (returns-in_err-merged-clause-flipped g c);
      comparisons = returns-in_err-merged-clause-comparisons g c;
    }

pub returns-then-flips-clause-values : goal.returns-then-flips-clause-values
returns-then-flips-clause-values g c equals v w =
    let f = g.O.MergeOperation.connective c.args.op.now in
    let a = c.args.self.now.boundaries.now in
    let b = c.args.that.boundaries.now in
    c.not.ensures.gives.values equals
    (AreValues-copied g.met.T.Ord.total g.met.T.EntryClone.copy_is_equal g.T.RangeSetEntry.is_value equals a b v w _ c.in_ok-merged.merged
    (c.changes_are_marked_truly.ensures.marks f a b c.args.self.now.sorted c.args.that.sorted) c.in_ok-merged.ensures.copies)

pub returns-else-flips-clause-values : goal.returns-else-flips-clause-values
returns-else-flips-clause-values g c equals v w =
    let f = g.O.MergeOperation.connective c.args.op.now in
    let a = c.args.self.now.boundaries.now in
    let b = c.args.that.boundaries.now in
    AreValues-copied g.met.T.Ord.total g.met.T.EntryClone.copy_is_equal g.T.RangeSetEntry.is_value equals a b v w _ c.in_ok-merged.merged
    (c.changes_are_marked_truly.ensures.marks f a b c.args.self.now.sorted c.args.that.sorted) c.in_ok-merged.ensures.copies

pub returns-in_err-merged-clause-values : goal.returns-in_err-merged-clause-values
returns-in_err-merged-clause-values g c = λ equals v w. IfOk-from_err c.from_residual.result _ c.from_residual.ensures.0
