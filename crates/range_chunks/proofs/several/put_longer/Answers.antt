use Rattle.std.proofs.Common.{◌≡◌, ◌+◌, ◌*◌, ◌<◌, length, arith}
use Rattle.range_list.specs.Lists.{joined}
use Rattle.range_chunks.proofs.PutInTurn.{sorted_after, put_after, outside_after, kept_after, settled_more}
use Rattle.range_chunks.proofs.several.put_longer.Goals as goal

pub returns-in_err-put_if_longer-clause-sorted : goal.returns-in_err-put_if_longer-clause-sorted
returns-in_err-put_if_longer-clause-sorted g c =
    let within : 2 * c.loop-i.i + 1 < length c.args.that.now = omega (arith, c.loop-i-test.true) in
    sorted_after g.met.T.Ord.total c.args.inside c.args.that.now c.requires.that_sorted (joined c.loop-i.list) (joined c.put_if_longer.new.list) c.loop-i.i within
    c.loop-i.put.items c.put_if_longer.new.put.items c.loop-i.invariant.sorted c.put_if_longer.ensures.put

pub returns-in_err-put_if_longer-clause-put : goal.returns-in_err-put_if_longer-clause-put
returns-in_err-put_if_longer-clause-put g c =
    let within : 2 * c.loop-i.i + 1 < length c.args.that.now = omega (arith, c.loop-i-test.true) in
    put_after g.met.T.Ord.total c.args.inside c.args.that.now c.requires.that_sorted (joined c.loop-i.list) (joined c.put_if_longer.new.list) c.loop-i.i within
    c.loop-i.put.items c.put_if_longer.new.put.items c.loop-i.invariant.sorted c.put_if_longer.ensures.put (joined c.args.list.now) c.loop-i.invariant.put

pub returns-in_err-put_if_longer-clause-outside : goal.returns-in_err-put_if_longer-clause-outside
returns-in_err-put_if_longer-clause-outside g c =
    let within : 2 * c.loop-i.i + 1 < length c.args.that.now = omega (arith, c.loop-i-test.true) in
    outside_after g.met.T.Ord.total c.args.inside c.args.that.now c.requires.that_sorted (joined c.loop-i.list) (joined c.put_if_longer.new.list) c.loop-i.i within
    c.loop-i.put.items c.put_if_longer.new.put.items c.loop-i.invariant.sorted c.put_if_longer.ensures.put (joined c.args.list.now) c.loop-i.invariant.outside

pub returns-in_err-put_if_longer-clause-kept : goal.returns-in_err-put_if_longer-clause-kept
returns-in_err-put_if_longer-clause-kept g c =
    let within : 2 * c.loop-i.i + 1 < length c.args.that.now = omega (arith, c.loop-i-test.true) in
    kept_after g.met.T.Ord.total c.args.inside c.args.that.now c.requires.that_sorted (joined c.loop-i.list) (joined c.put_if_longer.new.list) c.loop-i.i within
    c.loop-i.put.items c.put_if_longer.new.put.items c.loop-i.invariant.sorted c.put_if_longer.ensures.put (joined c.args.list.now) c.loop-i.invariant.kept

pub loop-i-preserved : goal.loop-i-preserved
loop-i-preserved g c =
    let within : 2 * c.loop-i.i + 1 < length c.args.that.now = omega (arith, c.loop-i-test.true) in
    record {
      sorted =
          sorted_after g.met.T.Ord.total c.args.inside c.args.that.now c.requires.that_sorted (joined c.loop-i.list) (joined c.put_if_longer.new.list) c.loop-i.i within
          c.loop-i.put.items c.put_if_longer.new.put.items c.loop-i.invariant.sorted c.put_if_longer.ensures.put;
      put =
          put_after g.met.T.Ord.total c.args.inside c.args.that.now c.requires.that_sorted (joined c.loop-i.list) (joined c.put_if_longer.new.list) c.loop-i.i within
          c.loop-i.put.items c.put_if_longer.new.put.items c.loop-i.invariant.sorted c.put_if_longer.ensures.put (joined c.args.list.now) c.loop-i.invariant.put;
      outside =
          outside_after g.met.T.Ord.total c.args.inside c.args.that.now c.requires.that_sorted (joined c.loop-i.list) (joined c.put_if_longer.new.list) c.loop-i.i within
          c.loop-i.put.items c.put_if_longer.new.put.items c.loop-i.invariant.sorted c.put_if_longer.ensures.put (joined c.args.list.now) c.loop-i.invariant.outside;
      kept =
          kept_after g.met.T.Ord.total c.args.inside c.args.that.now c.requires.that_sorted (joined c.loop-i.list) (joined c.put_if_longer.new.list) c.loop-i.i within
          c.loop-i.put.items c.put_if_longer.new.put.items c.loop-i.invariant.sorted c.put_if_longer.ensures.put (joined c.args.list.now) c.loop-i.invariant.kept;
      settled =
          settled_more g.met.T.Ord.total c.args.inside c.args.that.now c.requires.that_sorted (joined c.loop-i.list) (joined c.put_if_longer.new.list) c.loop-i.i within
          c.loop-i.put.items c.put_if_longer.new.put.items c.loop-i.invariant.sorted c.put_if_longer.ensures.put c.loop-i.invariant.settled c.in_ok-put_if_longer.ensures.settled;
    }
