use Rattle.std.proofs.Common.{◌≡◌, ◌-◌, ◌+◌, suc, List, ◌∷◌, length, drop, ap, sym, ◌∙◌, arith}
use Rattle.std.proofs.lemmas.List.{drop-drop, length-drop}
use Rattle.range_merge.proofs.slice_iterator.SliceIteratorIterator.next.Goals as goal

-- what is left of all the items after one more of them
rest-after : {K : Type 0} (all unread rest : List K) (x : K) → unread ≡ x ∷ rest → drop (length all - length unread) all ≡ unread → drop (length all - length rest) all ≡ rest
rest-after all unread rest x is before =
    let read = length all - length unread in
    let longer : length unread ≡ suc (length rest) = ap length is in
    let one_more : length all - length rest ≡ read + 1 = omega (arith, longer, ap length before, length-drop read all) in
    ap (λ n. drop n all) one_more ∙ sym (drop-drop 1 read all) ∙ ap (drop 1) (before ∙ is)

pub invariant_of-self : goal.invariant_of-self
invariant_of-self g c = rest-after c.self.inside.all.now c.self.inside.unread.now c.in_ok-first.rest.now c.in_ok-first.first.now c.in_ok-first.ensures.cases.0 c.self.invariant
