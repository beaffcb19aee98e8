use Rattle.std.proofs.Common.{◌≡◌, ◌+◌, ◌*◌, ◌/◌, ◌<◌, ◌≤◌, ap, sym, length, arith}
use Rattle.range_merge.specs.Boundaries.{member}
use Rattle.range_merge.proofs.Members.{member-nil}
use Rattle.range_collections.specs.Splicing.{range_table}
use Rattle.range_list.specs.Lists.{joined}
use Rattle.range_chunks.proofs.InTurn.{IsSet-read, AreSettled-set, kept_more, members_more, settled_read, what_is_done}
use Rattle.range_chunks.proofs.several.settle.Goals as goal

pub loop-i-init : goal.loop-i-init
loop-i-init g c = record {
  sorted = c.requires.sorted;
  members = λ x. sym (ap (range_table c.args.inside (member g.T.Ord.cmp (joined c.args.list.now) x)) (member-nil g.T.Ord.cmp x));
  kept = λ y has below. has;
  settled = c.requires.settled;
}

pub loop-i-preserved : goal.loop-i-preserved
loop-i-preserved g c =
    let within : 2 * c.loop-i.i + 1 < length c.args.that.now = omega (arith, c.loop-i-test.true) in
    let first : 2 * c.loop-i.i < length c.args.that.now = omega (arith, within) in
    let all : 2 * (length c.args.that.now / 2) ≤ length c.args.that.now = omega arith in
    let settled =
    settled_read g.met.T.Ord.total c.args.inside c.args.that.now (2 * c.loop-i.i) (2 * c.loop-i.i + 1) c.index-that-i.result c.index-that-i-in-loop-i.result
    c.index-that-i.is c.index-that-i-in-loop-i.is first within (joined c.loop-i.list) (λ d. c.loop-i.invariant.settled c.loop-i.i d c.loop-i-test.true) in
    let it =
    IsSet-read g.met.T.Ord.total c.args.inside c.args.that.now (2 * c.loop-i.i) (2 * c.loop-i.i + 1) c.index-that-i.result c.index-that-i-in-loop-i.result
    c.index-that-i.is c.index-that-i-in-loop-i.is first within (joined c.loop-i.list) (joined c.set_between-set.new.list)
    (what_is_done c.set_between-set.result _ c.set_between-set.ensures.set (c.set_between-set.ensures.settled settled)) in
    record {
      sorted = c.set_between-set.ensures.sorted;
      members = λ x.
          members_more g.met.T.Ord.total c.args.inside c.args.that.now c.requires.that_sorted (joined c.loop-i.list) (joined c.set_between-set.new.list) c.loop-i.i within it x
          (joined c.args.list.now) (c.loop-i.invariant.members x);
      kept =
          kept_more g.met.T.Ord.total c.args.inside c.args.that.now c.requires.that_sorted (joined c.loop-i.list) (joined c.set_between-set.new.list) c.loop-i.i within it
          (joined c.args.list.now) c.loop-i.invariant.kept;
      settled =
          AreSettled-set g.met.T.Ord.total c.args.inside c.args.that.now c.requires.that_sorted (joined c.loop-i.list) (joined c.set_between-set.new.list) c.loop-i.i within it
          (length c.args.that.now / 2) all c.loop-i.invariant.settled;
    }
