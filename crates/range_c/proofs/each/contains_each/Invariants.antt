use Rattle.std.proofs.Common.{◌≡◌, length, map, take, cond}
use Rattle.range_collections.specs.Boundaries.{member}
use Rattle.range_c.proofs.each.contains_each.Given as goal

abbrev pub invariant-loop-i : goal.invariant-loop-i
invariant-loop-i g l =
    record {
      written : take l.i l.found ≡ map (λ x. cond (member g.T.Ord.cmp l.a x) 1 0) (take l.i l.values);
      long : length l.found ≡ length l.values;
      same : l.cursor.set.boundaries.now ≡ l.a;
    }
