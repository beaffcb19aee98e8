use Rattle.std.proofs.Common.{◌≤◌, length, take, vec_capacity}
use Rattle.std.specs.List.{AllZip}
use Rattle.range_list.proofs.Copied.{IsCloneOf}
use Rattle.range_list.proofs.copying.copies.Given as goal

abbrev pub invariant-loop-chunk : goal.invariant-loop-chunk
invariant-loop-chunk g l = record {
  copies : AllZip (IsCloneOf g.C.Copier.alike) (take l.chunk-index l.all) l.copied.items;
  room : length l.all ≤ vec_capacity l.copied;
}
