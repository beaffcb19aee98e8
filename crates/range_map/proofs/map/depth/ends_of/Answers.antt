use Rattle.std.proofs.Common.{◌≡◌, ◌+◌, cond, Some, take}
use Rattle.range_map.specs.Changed.{is_in_range}
use Rattle.range_map.specs.Depth.{depth_at}
use Rattle.range_map.proofs.Depths.{depth-taken}
use Rattle.range_map.proofs.map.depth.ends_of.Goals as goal

pub loop-i-preserved : goal.loop-i-preserved
loop-i-preserved g c =
    let order = g.K.Ord.cmp in
    let rs = c.args.ranges.now in
    let i = c.loop-i.i in
    let r = c.index-ranges-i.result in
    record {
      depths = λ x.
          let more : depth_at order (take (i + 1) rs) x ≡ depth_at order (take i rs) x + cond (is_in_range order r.start (Some r.end) x) 1 0 = depth-taken order rs i r x c.loop-i-test.true c.index-ranges-i.is in
          rw more (c.in_ok-add_ends.ensures.depths (depth_at order (take i rs) x) x (c.loop-i.invariant.depths x));
      as_many = c.in_ok-add_ends.ensures.as_many c.loop-i.invariant.as_many;
    }
