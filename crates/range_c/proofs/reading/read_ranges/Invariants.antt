use Rattle.std.proofs.Common.{◌≡◌, ◌≤◌, length, take}
use Rattle.range_c.proofs.Read.{IsReading}
use Rattle.range_c.proofs.reading.read_ranges.Given as goal

abbrev pub invariant-loop-part : goal.invariant-loop-part
invariant-loop-part g l = record {
  len : length l.ranges ≡ length l.initial.ranges;
  within : l.len ≤ length l.ranges;
  read : IsReading g.E.Number.Ord.cmp g.E.Number.WholeNumber.number g.E.Ends.first g.E.Ends.last l.text l.part-iterator (take l.len l.ranges) l.from;
}
