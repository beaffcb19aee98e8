use Rattle.std.proofs.Common.{◌∙◌, inl, refl, sym, ap, length, Err, arith, true≢false}
use Rattle.std.proofs.lemmas.Result.{err_from_is_err_and}
use Rattle.std.specs.Ordering.{nat_cmp}
use Rattle.std.specs.Cmp.{nat_cmp_total}
use Rattle.range_merge.proofs.Digits.{digits-le}
use Rattle.range_collections.specs.Splicing.{IsCut}
use Rattle.range_collections.proofs.Insertion.{cuts_ordered}
use Rattle.range_list.specs.Lists.{joined, place_at}
use Rattle.range_collections.proofs.Changing.{ascending-spliced}
use Rattle.range_chunked_tracker.proofs.SetWithin.{spliced-refused, spliced-no_memory, spliced-done, spliced-none}
use Rattle.range_chunked_tracker.proofs.tracking.set_between.Goals as goal

pub cut_at-end-requires : goal.cut_at-end-requires
cut_at-end-requires c =
    λ k. (
      (refl, tt),
      (
        c.requires.sorted,
        omega (arith, digits-le (length (joined c.args.list.now)), digits-le 512, c.cut_at-start.ensures.comparisons.at_most, c.requires.len, c.requires.fits),
      ),
    )

pub len_spliced-boundaries-requires-clause-ordered : goal.len_spliced-boundaries-requires-clause-ordered
len_spliced-boundaries-requires-clause-ordered c =
    let xs = c.args.list.now in
    let p : IsCut nat_cmp c.args.inside (joined xs) c.args.range.start (place_at xs c.cut_at-start.result.0) c.cut_at-start.result.1 = c.cut_at-start.ensures.cut in
    let q : IsCut nat_cmp c.args.inside (joined xs) c.args.range.end (place_at xs c.cut_at-end.result.0) c.cut_at-end.result.1 = c.cut_at-end.ensures.cut in
    (cuts_ordered nat_cmp_total c.args.inside (joined xs) c.args.range.start c.args.range.end _ _ _ _ c.requires.sorted c.requires.less p q)

pub splice-requires-clause-ordered : goal.splice-requires-clause-ordered
splice-requires-clause-ordered c =
    let xs = c.args.list.now in
    let p : IsCut nat_cmp c.args.inside (joined xs) c.args.range.start (place_at xs c.cut_at-start.result.0) c.cut_at-start.result.1 = c.cut_at-start.ensures.cut in
    let q : IsCut nat_cmp c.args.inside (joined xs) c.args.range.end (place_at xs c.cut_at-end.result.0) c.cut_at-end.result.1 = c.cut_at-end.ensures.cut in
    cuts_ordered nat_cmp_total c.args.inside (joined xs) c.args.range.start c.args.range.end _ _ _ _ c.requires.sorted c.requires.less p q

pub returns-in_err-within_limit-clause-set : goal.returns-in_err-within_limit-clause-set
returns-in_err-within_limit-clause-set c =
    let xs = c.args.list.now in
    let p : IsCut nat_cmp c.args.inside (joined xs) c.args.range.start (place_at xs c.cut_at-start.result.0) c.cut_at-start.result.1 = c.cut_at-start.ensures.cut in
    let q : IsCut nat_cmp c.args.inside (joined xs) c.args.range.end (place_at xs c.cut_at-end.result.0) c.cut_at-end.result.1 = c.cut_at-end.ensures.cut in
    let count = c.len_spliced-boundaries.ensures in
    let why = err_from_is_err_and c.from_residual.result c.from_residual.ensures.1 in
    let told = c.in_err-within_limit.ensures.too_many in
    spliced-refused c.args.inside c.args.limit (joined xs) c.args.range _ _ _ _ c.requires.sorted c.requires.less p q
    (joined xs) c.len_spliced-boundaries.result c.from_residual.result count told.1 (why.1 ∙ ap Err (why.2 ∙ told.0))

pub returns-in_err-splice-clause-set : goal.returns-in_err-splice-clause-set
returns-in_err-splice-clause-set c =
    let xs = c.args.list.now in
    let p : IsCut nat_cmp c.args.inside (joined xs) c.args.range.start (place_at xs c.cut_at-start.result.0) c.cut_at-start.result.1 = c.cut_at-start.ensures.cut in
    let q : IsCut nat_cmp c.args.inside (joined xs) c.args.range.end (place_at xs c.cut_at-end.result.0) c.cut_at-end.result.1 = c.cut_at-end.ensures.cut in
    let count = c.len_spliced-boundaries.ensures in
    let why = err_from_is_err_and c.from_residual-in_err-splice.result c.from_residual-in_err-splice.ensures.1 in
    spliced-no_memory c.args.inside c.args.limit (joined xs) c.args.range _ _ _ _ c.requires.sorted c.requires.less p q
    (joined c.splice.new.self) c.len_spliced-boundaries.result c.from_residual-in_err-splice.result count c.in_ok-within_limit.ensures.within
    (λ few. true≢false (sym (c.in_err-splice.ensures.succeeds (inl few)))) (omega (arith, c.requires.room)) (why.1 ∙ ap Err why.2)

pub returns-then-boundaries-eq0-clause-set : goal.returns-then-boundaries-eq0-clause-set
returns-then-boundaries-eq0-clause-set c =
    let xs = c.args.list.now in
    let p : IsCut nat_cmp c.args.inside (joined xs) c.args.range.start (place_at xs c.cut_at-start.result.0) c.cut_at-start.result.1 = c.cut_at-start.ensures.cut in
    let q : IsCut nat_cmp c.args.inside (joined xs) c.args.range.end (place_at xs c.cut_at-end.result.0) c.cut_at-end.result.1 = c.cut_at-end.ensures.cut in
    let count = c.len_spliced-boundaries.ensures in
    spliced-none c.args.inside c.args.limit (joined xs) c.args.range _ _ _ _ c.requires.sorted c.requires.less p q
    (joined c.keep_range.new.list) c.len_spliced-boundaries.result count (omega (arith, c.if-boundaries-eq0.true)) (omega (arith, ap length c.keep_range.ensures.items))

pub returns-in_ok-splice-clause-set : goal.returns-in_ok-splice-clause-set
returns-in_ok-splice-clause-set c =
    let xs = c.args.list.now in
    let p : IsCut nat_cmp c.args.inside (joined xs) c.args.range.start (place_at xs c.cut_at-start.result.0) c.cut_at-start.result.1 = c.cut_at-start.ensures.cut in
    let q : IsCut nat_cmp c.args.inside (joined xs) c.args.range.end (place_at xs c.cut_at-end.result.0) c.cut_at-end.result.1 = c.cut_at-end.ensures.cut in
    let count = c.len_spliced-boundaries.ensures in
    spliced-done c.args.inside c.args.limit (joined xs) c.args.range _ _ _ _ c.requires.sorted c.requires.less p q
    (joined c.splice.new.self) c.len_spliced-boundaries.result count c.in_ok-within_limit.ensures.within (omega (arith, c.if-boundaries-eq0.false)) c.requires.ended c.in_ok-splice.ensures.items

pub returns-in_ok-splice-clause-sorted : goal.returns-in_ok-splice-clause-sorted
returns-in_ok-splice-clause-sorted c =
    let xs = c.args.list.now in
    let p : IsCut nat_cmp c.args.inside (joined xs) c.args.range.start (place_at xs c.cut_at-start.result.0) c.cut_at-start.result.1 = c.cut_at-start.ensures.cut in
    let q : IsCut nat_cmp c.args.inside (joined xs) c.args.range.end (place_at xs c.cut_at-end.result.0) c.cut_at-end.result.1 = c.cut_at-end.ensures.cut in
    ascending-spliced nat_cmp_total c.args.inside (joined xs) c.args.range.start c.args.range.end 0 _ _ _ _ c.requires.sorted c.requires.less p q
    (joined c.splice.new.self) c.splice.result c.splice.ensures.items c.splice.ensures.unchanged
