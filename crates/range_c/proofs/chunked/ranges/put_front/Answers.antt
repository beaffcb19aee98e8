use Rattle.std.proofs.Common.{◌≡◌, refl, ◌∷◌, ◌++◌, [], ◌∙◌, sym, ap, append_assoc, arith}
use Rattle.std.proofs.lemmas.List.{length-append}
use Rattle.range_collections.specs.Ranges.{range_now, ranges_of}
use Rattle.range_c.proofs.Put.{PutsText-nothing, PutsText-ends, CopiesFront-all, CopiesFront-full, length-range_ends, length-all_ends}
use Rattle.range_c.proofs.chunked.ranges.put_front.Goals as goal

pub loop-range-init : goal.loop-range-init
loop-range-init g c = record {
  small = omega arith;
  done = [];
  counted = omega arith;
  put = PutsText-nothing 0 _;
  unread = refl;
}

pub put_ends-len-requires : goal.put_ends-len-requires
put_ends-len-requires g c =
    let before = c.loop-range.invariant in
    record { fits = omega (arith, before.small, before.put.counted, before.counted, c.if-left-eq0.false, length-all_ends before.done, length-range_ends (range_now c.in-Some.range)) }

pub loop-range-preserved : goal.loop-range-preserved
loop-range-preserved g c =
    let before = c.loop-range.invariant in
    let one = range_now c.in-Some.range in
    let next : ranges_of c.loop-range.range-iterator ≡ one ∷ ranges_of c.next.new.self = c.in-Some.ensures.steps in
    record {
      small = before.small;
      done = before.done ++ (one ∷ []);
      counted = omega (arith, length-append before.done (one ∷ []), before.counted, c.if-left-eq0.false);
      put = PutsText-ends before.done one _ _ _ _ _ before.put c.put_ends-len.ensures;
      unread = append_assoc before.done (one ∷ []) (ranges_of c.next.new.self) ∙ ap (λ rest. before.done ++ rest) (sym next) ∙ before.unread;
    }

pub returns-then-left-eq0 : goal.returns-then-left-eq0
returns-then-left-eq0 g c =
    let before = c.loop-range.invariant in
    rw (← c.into_iter-range-iterator.ensures.into_iter_gives) (CopiesFront-full _ before.done (ranges_of c.loop-range.range-iterator) _ _ _ before.put before.unread (omega (arith, before.counted, c.if-left-eq0.true)))

pub returns : goal.returns
returns g c =
    let before = c.loop-range.invariant in
    rw (← c.into_iter-range-iterator.ensures.into_iter_gives) (CopiesFront-all _ before.done (ranges_of c.loop-range.range-iterator) _ _ _ before.put before.unread c.in-None.ensures.steps.0 (omega (arith, before.counted)))
