use Rattle.std.proofs.Common.{subst, refl, rules}
use Rattle.std.proofs.lemmas.Result.{on_ok_weaker}
use Rattle.range_collections.specs.ManyRanges.{EndsBefore}
use Rattle.range_collections.proofs.Insertion.{IsAscending-answer}
use Rattle.range_collections.proofs.ManyRanges.{put-after, put-last}
use Rattle.range_collections.proofs.range_set.at_end.put_at_end.Goals as goal

pub returns-then-touches-clause-sorted : goal.returns-then-touches-clause-sorted
returns-then-touches-clause-sorted g c =
    let ends = subst (λ t. EndsBefore g.T.Ord.cmp t c.args.list.now.items c.args.start) c.if-touches.true c.requires.ends in
    (put-last g.met.T.Ord.total c.args.list.now.items c.args.start c.args.end c.requires.sorted c.requires.less c.replace_last.new.list.items ends c.replace_last.ensures).0

pub returns-then-touches-clause-means : goal.returns-then-touches-clause-means
returns-then-touches-clause-means g c =
    let ends = subst (λ t. EndsBefore g.T.Ord.cmp t c.args.list.now.items c.args.start) c.if-touches.true c.requires.ends in
    (put-last g.met.T.Ord.total c.args.list.now.items c.args.start c.args.end c.requires.sorted c.requires.less c.replace_last.new.list.items ends c.replace_last.ensures).1.0

pub returns-then-touches-clause-left_own_item : goal.returns-then-touches-clause-left_own_item
returns-then-touches-clause-left_own_item g c =
    let ends = subst (λ t. EndsBefore g.T.Ord.cmp t c.args.list.now.items c.args.start) c.if-touches.true c.requires.ends in
    (put-last g.met.T.Ord.total c.args.list.now.items c.args.start c.args.end c.requires.sorted c.requires.less c.replace_last.new.list.items ends c.replace_last.ensures).1.1

pub replace_last-requires : goal.replace_last-requires
replace_last-requires g c = (search rules, (c.requires.ends.last c.if-touches.true).0)

pub returns-else-touches-clause-sorted : goal.returns-else-touches-clause-sorted
returns-else-touches-clause-sorted g c =
    let ends = subst (λ t. EndsBefore g.T.Ord.cmp t c.args.list.now.items c.args.start) c.if-touches.false c.requires.ends in
    IsAscending-answer g.T.Ord.cmp c.append_both.result c.append_both.new.list.items _ c.args.list.now.items c.append_both.ensures.items c.append_both.ensures.unchanged
    (put-after g.met.T.Ord.total c.args.list.now.items c.args.start c.args.end c.requires.sorted c.requires.less _ ends refl).0 c.requires.sorted

pub returns-else-touches-clause-means : goal.returns-else-touches-clause-means
returns-else-touches-clause-means g c =
    let ends = subst (λ t. EndsBefore g.T.Ord.cmp t c.args.list.now.items c.args.start) c.if-touches.false c.requires.ends in
    on_ok_weaker c.append_both.result
    (λ is. (put-after g.met.T.Ord.total c.args.list.now.items c.args.start c.args.end c.requires.sorted c.requires.less c.append_both.new.list.items ends is).1.0)
    c.append_both.ensures.items

pub returns-else-touches-clause-left_own_item : goal.returns-else-touches-clause-left_own_item
returns-else-touches-clause-left_own_item g c =
    let ends = subst (λ t. EndsBefore g.T.Ord.cmp t c.args.list.now.items c.args.start) c.if-touches.false c.requires.ends in
    on_ok_weaker c.append_both.result
    (λ is. (put-after g.met.T.Ord.total c.args.list.now.items c.args.start c.args.end c.requires.sorted c.requires.less c.append_both.new.list.items ends is).1.1)
    c.append_both.ensures.items
