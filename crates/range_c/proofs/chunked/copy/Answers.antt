use Rattle.std.proofs.Common.{◌≡◌, ◌≤◌, ◌++◌, ◌∙◌, ap, ap₂, arith, drop, length}
use Rattle.std.specs.List.{flat_map}
use Rattle.range_collections.specs.Ranges.{range_ends, ranges_of}
use Rattle.range_c.proofs.Put.{ends-ranges_of}
use Rattle.range_c.proofs.chunked.copy.Goals as goal

pub put_all-requires : goal.put_all-requires
put_all-requires g c = record {
  fits = omega (arith, c.boundaries_len-len.type_inv, c.boundaries_len-len.ensures, ap length (ends-ranges_of c.iter.result), ap length c.iter.ensures);
}

pub returns-then-len-out : goal.returns-then-len-out
returns-then-len-out g c =
    let same : flat_map range_ends (ranges_of c.iter.result) ≡ c.args.set.now = ends-ranges_of c.iter.result ∙ c.iter.ensures in
    let is : c.put_all.result ≡ c.boundaries_len-len.result = omega (arith, c.put_all.ensures.counted, ap length same, c.boundaries_len-len.ensures) in
    record {
      counted = c.boundaries_len-len.ensures;
      written = λ fits. c.put_all.ensures.written (omega (arith, is, fits)) ∙ ap₂ (λ xs k. xs ++ drop k c.args.out.now) same is;
      unchanged = λ short. absurd (omega (arith, short, c.if-len-out.true));
    }
