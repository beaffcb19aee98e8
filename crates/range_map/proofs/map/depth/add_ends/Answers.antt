use Rattle.std.proofs.Common.{◌≡◌}
use Rattle.std.specs.declared.cmp.Ordering.TheVariants.{Less}
use Rattle.range_merge.specs.Boundaries.{count_up_to}
use Rattle.range_map.proofs.Depths.{count_up_to-push, depth-added}
use Rattle.range_map.proofs.map.depth.add_ends.Goals as goal

pub returns-in_ok-push-2-clause-depths : goal.returns-in_ok-push-2-clause-depths
returns-in_ok-push-2-clause-depths g c = λ n x same.
    let order = g.K.Ord.cmp in
    let s = c.args.range.now.start in
    let e = c.args.range.now.end in
    let starts = c.args.made.now.starts.items in
    let ends = c.args.made.now.ends.items in
    let s2 = c.in_ok-copy.field-0 in
    let e2 = c.in_ok-copy-2.field-0 in
    let less : order s e ≡ Less = c.has_elements.ensures.answer.0 c.if-has_elements.true in
    rw (c.in_ok-push.ensures.items, c.in_ok-push-2.ensures.items, count_up_to-push order starts s2 x, count_up_to-push order ends e2 x)
    (depth-added order g.met.K.Ord.total s e s2 e2 x n (count_up_to order starts x) (count_up_to order ends x) less
    (c.requires.copies s s2 c.in_ok-copy.ensures.alike) (c.requires.copies e e2 c.in_ok-copy-2.ensures.alike) same)
