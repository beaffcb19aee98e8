use Rattle.std.proofs.Common.{◌≤◌, ◌≡◌, ◌+◌, ◌*◌, ◌/◌, [], ◌++◌, length, arith, sym, ap, ◌∙◌}
use Rattle.std.proofs.lemmas.List.{append-nil}
use Rattle.std.specs.List.{flat_map}
use Rattle.range_merge.specs.Counting.{AddsAtMost}
use Rattle.range_collections.proofs.Unions.{AddsAtMost-front, AddsAtMost-halves, GivesUnion-none, GivesUnion-one, GivesUnion-refused, GivesUnion-joined, length-halves}
use Rattle.range_collections.proofs.range_set.joining.+union_of.Goals as goal

pub returns-in-0-clause-gives : goal.returns-in-0-clause-gives
returns-in-0-clause-gives g t c =
    rw c.empty.ensures.boundaries
    (GivesUnion-none g.met.T.Ord.total g.C.Copier.alike g.C.Copier.is_infallible c.requires.copies (λ set. set.boundaries.now) _
    c.args.sets.now c.in-0.is)

pub returns-in-1-clause-gives : goal.returns-in-1-clause-gives
returns-in-1-clause-gives g t c =
    GivesUnion-one g.met.T.Ord.total g.C.Copier.alike g.C.Copier.is_infallible c.requires.copies (λ set. set.boundaries.now) _
    c.args.sets.now c.index-sets-0.result c.copied.result c.in-1.is (sym c.index-sets-0.is)
    c.index-sets-0.result.sorted c.copied.ensures.copies c.copied.ensures.succeeds

pub returns-in_err-set-in_default-clause-gives : goal.returns-in_err-set-in_default-clause-gives
returns-in_err-set-in_default-clause-gives g t c =
    GivesUnion-refused g.met.T.Ord.total g.C.Copier.alike g.C.Copier.is_infallible c.requires.copies (λ set. set.boundaries.now) _
    c.args.sets.now [] c.split_at.result.0.now c.split_at.result.1.now c.in_err-set-in_default.field-0.0
    c.from_residual.result c.split_at.ensures.by_index.0 c.from_residual.ensures.0 c.in_err-set-in_default.ensures.gives

pub returns-in_err-that-in_default-clause-gives : goal.returns-in_err-that-in_default-clause-gives
returns-in_err-that-in_default-clause-gives g t c =
    GivesUnion-refused g.met.T.Ord.total g.C.Copier.alike g.C.Copier.is_infallible c.requires.copies (λ set. set.boundaries.now) _
    c.args.sets.now c.split_at.result.0.now c.split_at.result.1.now [] c.in_err-that-in_default.field-0.0
    c.from_residual-in_err-that-in_default.result (c.split_at.ensures.by_index.0 ∙ ap (λ back. c.split_at.result.0.now ++ back) (sym (append-nil c.split_at.result.1.now)))
    c.from_residual-in_err-that-in_default.ensures.0 c.in_err-that-in_default.ensures.gives

pub returns-in_ok-that-in_default-clause-gives : goal.returns-in_ok-that-in_default-clause-gives
returns-in_ok-that-in_default-clause-gives g t c =
    GivesUnion-joined g.met.T.Ord.total g.C.Copier.alike g.C.Copier.is_infallible c.requires.copies (λ set. set.boundaries.now) _
    (λ set. set.sorted)
    c.args.sets.now c.split_at.result.0.now c.split_at.result.1.now c.in_ok-set-in_default.set c.in_ok-that-in_default.that
    c.joined.result c.split_at.ensures.by_index.0 c.in_ok-set-in_default.ensures.gives c.in_ok-that-in_default.ensures.gives c.joined.ensures.joined

pub returns-in_err-set-in_default-clause-comparisons : goal.returns-in_err-set-in_default-clause-comparisons
returns-in_err-set-in_default-clause-comparisons g t c =
    let some : 2 ≤ length c.args.sets.now = omega (arith, c.in_default) in
    let front : length c.split_at.result.0.now ≡ length c.args.sets.now / 2 = c.split_at.ensures.front_len in
    AddsAtMost-front _ _ (length c.args.sets.now) (length c.split_at.result.0.now) _ (length (flat_map (λ set. set.boundaries.now) c.split_at.result.1.now)) _ some front
    (length-halves (λ set. set.boundaries.now) c.args.sets.now c.split_at.result.0.now c.split_at.result.1.now c.split_at.ensures.by_index.0)
    c.union_of.ensures.comparisons

pub returns-in_err-that-in_default-clause-comparisons : goal.returns-in_err-that-in_default-clause-comparisons
returns-in_err-that-in_default-clause-comparisons g t c =
    let some : 2 ≤ length c.args.sets.now = omega (arith, c.in_default) in
    let front : length c.split_at.result.0.now ≡ length c.args.sets.now / 2 = c.split_at.ensures.front_len in
    let back : length c.split_at.result.1.now + length c.split_at.result.0.now ≡ length c.args.sets.now = omega (arith, front, c.split_at.ensures.back_len) in
    let none : AddsAtMost c.union_of-in_default.new.count c.union_of-in_default.new.count (2 * (0 + 0)) =
    record { at_least = omega arith; at_most = omega arith } in
    AddsAtMost-halves _ _ _ _ (length c.args.sets.now) (length c.split_at.result.0.now) (length c.split_at.result.1.now) _ _ 0 0 _ some front back
    (length-halves (λ set. set.boundaries.now) c.args.sets.now c.split_at.result.0.now c.split_at.result.1.now c.split_at.ensures.by_index.0) (omega arith) (omega arith)
    c.union_of.ensures.comparisons c.union_of-in_default.ensures.comparisons none

pub returns-in_ok-that-in_default-clause-comparisons : goal.returns-in_ok-that-in_default-clause-comparisons
returns-in_ok-that-in_default-clause-comparisons g t c =
    let some : 2 ≤ length c.args.sets.now = omega (arith, c.in_default) in
    let front : length c.split_at.result.0.now ≡ length c.args.sets.now / 2 = c.split_at.ensures.front_len in
    let back : length c.split_at.result.1.now + length c.split_at.result.0.now ≡ length c.args.sets.now = omega (arith, front, c.split_at.ensures.back_len) in
    AddsAtMost-halves _ _ _ _ (length c.args.sets.now) (length c.split_at.result.0.now) (length c.split_at.result.1.now) _ _ (length c.in_ok-set-in_default.set)
    (length c.in_ok-that-in_default.that) _ some front back
    (length-halves (λ set. set.boundaries.now) c.args.sets.now c.split_at.result.0.now c.split_at.result.1.now c.split_at.ensures.by_index.0)
    c.in_ok-set-in_default.ensures.gives.at_most c.in_ok-that-in_default.ensures.gives.at_most
    c.union_of.ensures.comparisons c.union_of-in_default.ensures.comparisons c.joined.ensures.comparisons
