use Rattle.std.proofs.Common.{◌≡◌, ◌≤◌, ◌+◌, ◌-◌, ◌++◌, length, take, drop, ap, ◌∙◌, arith}
use Rattle.std.proofs.lemmas.List.{length-drop, length-take-le}
use Rattle.range_merge.proofs.ReadInto.{drop-cut}
use Rattle.range_merge.proofs.fast.short_runs.into_output.read_into.Goals as goal

pub returns-clause-read : goal.returns-clause-read
returns-clause-read g c =
    let kept = c.len-kept.ensures in
    let n = c.len-kept.result in
    let v = c.fill.new.list in
    let xs = c.as_mut_slice.result.now in
    let out = c.copy_runs-at.new.out in
    let k = c.copy_runs-at.result.k in
    let ws = take n xs ++ (out ++ drop (length xs - n) (drop n xs)) in
    let cut : c.truncate.new.self.items ≡ take (n + k) (take v.len (ws ++ drop (length ws) v.items)) = c.truncate.ensures.items in
    let same : length xs ≡ length v.items = ap length c.as_mut_slice.ensures.value in
    let within : n ≤ length xs = omega (arith, same, kept, c.fill.ensures.len) in
    let long : length out ≡ length xs - n = c.copy_runs-at.ensures.len ∙ length-take-le (length xs - n) (drop n xs) (omega (arith, length-drop n xs)) in
    rw (drop-cut n k v.len xs out _ _ (length c.args.list.items) _ (omega (arith, kept)) within c.copy_runs-at.ensures.within (omega (arith, same, long, within, c.copy_runs-at.ensures.within)) cut)
    c.copy_runs-at.ensures.read
