use Rattle.std.proofs.Common.{◌≡◌, ◌∙◌, refl, sym, ap, false, ◌-◌, ◌%◌, ◌==◌, length, drop, arith}
use Rattle.std.proofs.lemmas.List.{length-drop, length-take-le}
use Rattle.range_merge.specs.Boundaries.{is_odd}
use Rattle.range_collections.proofs.Points.{even-from_test}
use Rattle.range_list.specs.Lists.{joined, place_at}
use Rattle.range_list.proofs.Placed.{place_at-within}
use Rattle.range_chunks.proofs.iter.Iter.between.Goals as goal

pub invariant_of-result : goal.invariant_of-result
invariant_of-result g c =
    let all = joined c.args.list.now in
    let f = place_at c.args.list.now c.args.from in
    let t = place_at c.args.list.now c.args.to in
    let even = even-from_test false f (sym c.requires.even) refl in
    let same : t % 2 ≡ (t - f) % 2 = omega (arith, even, c.requires.ordered) in
    let len : length c.between.result ≡ t - f =
    ap length c.between.ensures ∙ length-take-le (t - f) (drop f all) (omega (arith, length-drop f all, place_at-within c.args.list.now c.args.to c.requires.to)) in
    c.mark_at.ensures ∙ ap (λ n. n == 1) same ∙ sym (ap is_odd len)
