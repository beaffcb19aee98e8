use Rattle.std.proofs.Common.{◌≡◌, sym, ◌∙◌, ap, ◌∷◌, ◌++◌, append_assoc}
use Rattle.std.specs.Prelude.{codes}
use Rattle.range_collections.specs.Ranges.{ranges_of, range_now}
use Rattle.range_collections.specs.Text.{others_text, range_text}
use Rattle.range_c.proofs.Put.{PutsText-append}
use Rattle.range_c.proofs.text.put_others.Goals as goal

pub loop-range-preserved : goal.loop-range-preserved
loop-range-preserved g c =
    let text = g.T.Integer.text in
    let before = c.loop-range.invariant in
    let one = codes ", " ++ range_text text (range_now c.in-Some.range) in
    let next : ranges_of c.loop-range.range-iterator ≡ range_now c.in-Some.range ∷ ranges_of c.next.new.self = c.in-Some.ensures.steps in
    record {
      done = before.done ++ one;
      put = PutsText-append _ _ _ _ _ _ _ _ before.put (PutsText-append _ _ _ _ _ _ _ _ c.put-len.ensures c.put_range-len.ensures);
      left = append_assoc before.done one (others_text text (ranges_of c.next.new.self))
          ∙ ap (λ ys. before.done ++ ys) (sym (ap (others_text text) next)) ∙ before.left;
    }
