use Rattle.std.proofs.Common.{◌≡◌, ◌∙◌, false, take, refl, arith}
use Rattle.std.proofs.lemmas.Bool.Decides.{nat_tests}
use Rattle.std.specs.Ordering.{nat_cmp, is_lt}
use Rattle.std.specs.Cmp.{nat_cmp_total}
use Rattle.range_merge.specs.Boundaries.{IsAscending}
use Rattle.range_collections.proofs.Cut.{IsAscending-take}
use Rattle.range_collections.proofs.Insertion.{Means-no_range}
use Rattle.range_tracker.proofs.OffsetsLemmas.{is_lt-nat_cmp}
use Rattle.range_list.specs.Lists.{joined}
use Rattle.range_chunked_tracker.proofs.SetWithin.{set-done, length-front}
use Rattle.range_chunked_tracker.proofs.tracking.set_within.Goals as goal

pub returns-then-range-clause-set : goal.returns-then-range-clause-set
returns-then-range-clause-set c =
    let here = take c.args.len (joined c.args.list.now) in
    let up : IsAscending nat_cmp here = IsAscending-take nat_cmp c.args.len (joined c.args.list.now) c.requires.tracking.sorted in
    let off : is_lt (nat_cmp c.args.range.start c.args.range.end) ≡ false = is_lt-nat_cmp c.args.range.start c.args.range.end ∙ grind (arith, nat_tests, c.if-range.true) in
    set-done c.args.inside c.args.limit here c.args.range here
    (Means-no_range nat_cmp_total c.args.inside here c.args.range.start c.args.range.end up off)
    (joined c.args.list.now) c.args.len
    (length-front c.args.len (joined c.args.list.now) c.requires.tracking.front)
    c.requires.tracking.within refl c.requires.tracking.front
