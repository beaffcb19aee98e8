use Rattle.std.proofs.Common.{◌≡◌}
use Rattle.range_list.specs.Chunks.{start_of}
use Rattle.range_list.proofs.counting.len_of.Given as goal

abbrev pub invariant-loop-i : goal.invariant-loop-i
invariant-loop-i g l = l.len ≡ start_of l.chunks l.i
