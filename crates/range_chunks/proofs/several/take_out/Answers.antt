use Rattle.range_list.specs.Lists.{joined}
use Rattle.range_chunks.proofs.PutInTurn.{put_still, sorted_still}
use Rattle.range_chunks.proofs.several.take_out.Goals as goal

pub loop-at-preserved : goal.loop-at-preserved
loop-at-preserved g c =
    let some = c.loop-at.invariant.some in
    record {
      sorted = sorted_still g.met.T.Ord.total c.args.that.now c.in-Some.at c.loop-at.put.items c.pop.new.self.items (joined c.loop-at.list) (joined c.take_out_at.new.list) c.in-Some.ensures.items c.take_out_at.ensures some.0 some.1;
      some = (some.0, put_still g.met.T.Ord.total c.args.that.now c.in-Some.at c.loop-at.put.items c.pop.new.self.items (joined c.loop-at.list) (joined c.take_out_at.new.list) c.in-Some.ensures.items c.take_out_at.ensures some.0 some.1);
      all = λ before h.
          put_still g.met.T.Ord.total c.args.that.now c.in-Some.at c.loop-at.put.items c.pop.new.self.items (joined c.loop-at.list) (joined c.take_out_at.new.list) c.in-Some.ensures.items c.take_out_at.ensures before
          (c.loop-at.invariant.all before h);
    }
