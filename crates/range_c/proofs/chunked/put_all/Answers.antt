use Rattle.std.proofs.Common.{◌≡◌, sym, ◌∙◌, ap, ◌∷◌, ◌++◌, append_assoc}
use Rattle.std.specs.List.{flat_map}
use Rattle.range_collections.specs.Ranges.{range_ends, range_now, ranges_of}
use Rattle.range_c.proofs.Put.{PutsText-append}
use Rattle.range_c.proofs.chunked.put_all.Goals as goal

pub loop-range-preserved : goal.loop-range-preserved
loop-range-preserved g c =
    let before = c.loop-range.invariant in
    let one = range_ends (range_now c.in-Some.range) in
    let next : ranges_of c.loop-range.range-iterator ≡ range_now c.in-Some.range ∷ ranges_of c.next.new.self = c.in-Some.ensures.steps in
    record {
      done = before.done ++ one;
      put = PutsText-append _ _ _ _ _ _ _ _ before.put c.put_ends-len.ensures;
      left = append_assoc before.done one (flat_map range_ends (ranges_of c.next.new.self))
          ∙ ap (λ ys. before.done ++ ys) (sym (ap (flat_map range_ends) next)) ∙ before.left;
    }
