use Rattle.std.proofs.Common.{◌≡◌, ◌-◌, ◌≤◌, Some, length, get_or, slice_get, sym, ap, ◌∙◌, option_copied, arith}
use Rattle.std.proofs.lemmas.List.{get_or_default}
use Rattle.std.proofs.lemmas.Result.{on_ok_weaker}
use Rattle.range_list.specs.Lists.{joined, place_at}
use Rattle.range_list.proofs.Placed.{place_at-within}
use Rattle.range_map.specs.Listed.{steps_in}
use Rattle.range_map.proofs.Listed.{length-keys}
use Rattle.range_map.proofs.Modified.{IsSetTo-same, copies-ascend}
use Rattle.range_map.proofs.Stretched.{start_from, some-read}
use Rattle.range_map.proofs.modifying.set_before.Goals as goal

pub unwrap-requires : goal.unwrap-requires
unwrap-requires g c =
    let lists = c.args.steps.now in
    let n = place_at lists c.args.place in
    let keys = (steps_in lists).keys in
    let within : n ≤ length keys = omega (arith, place_at-within lists c.args.place c.requires.place, length-keys (joined lists)) in
    let s = (start_from n keys (option_copied c.key_before.result) c.key_before.ensures within).1 c.requires.some in
    some-read c.key_before.result s.0 s.1

pub set_range-requires-clause-some : goal.set_range-requires-clause-some
set_range-requires-clause-some g c =
    let order = g.K.Ord.cmp in
    let lists = c.args.steps.now in
    let n = place_at lists c.args.place in
    let keys = (steps_in lists).keys in
    let k = c.unwrap.result.now in
    let within : n ≤ length keys = omega (arith, place_at-within lists c.args.place c.requires.place, length-keys (joined lists)) in
    let s = (start_from n keys (option_copied c.key_before.result) c.key_before.ensures within).1 c.requires.some in
    let same : Some s.0 ≡ Some k = sym s.1 ∙ ap option_copied c.unwrap.ensures in
    let key : get_or keys (n - 1) k ≡ k = cc in
    copies-ascend order g.met.K.Ord.total keys n k c.in_ok-start.start c.in_ok-end.end c.requires.canonical.ascending c.requires.some within key
    (c.requires.copies k c.in_ok-start.start c.in_ok-start.ensures.alike) (rw (sym c.key_at.ensures) c.in_ok-end.ensures)

pub returns-clause-values : goal.returns-clause-values
returns-clause-values g c =
    let order = g.K.Ord.cmp in
    let lists = c.args.steps.now in
    let n = place_at lists c.args.place in
    let keys = (steps_in lists).keys in
    let k = c.unwrap.result.now in
    let start = c.in_ok-start.start in
    let within : n ≤ length keys = omega (arith, place_at-within lists c.args.place c.requires.place, length-keys (joined lists)) in
    let s = (start_from n keys (option_copied c.key_before.result) c.key_before.ensures within).1 c.requires.some in
    let same : Some s.0 ≡ Some k = sym s.1 ∙ ap option_copied c.unwrap.ensures in
    let key : get_or keys (n - 1) k ≡ k = cc in
    on_ok_weaker c.set_range.result
    (λ set d.
    IsSetTo-same order g.met.K.Ord.total g.V.PartialEq.eq start (get_or keys (n - 1) d) c.in_ok-end.end (slice_get keys n) c.args.option (steps_in lists) (steps_in c.set_range.new.steps)
    (ap (λ y. order y start) (get_or_default keys (n - 1) d k (omega (arith, within, c.requires.some)) ∙ key) ∙ c.requires.copies k start c.in_ok-start.ensures.alike)
    (rw (sym c.key_at.ensures) c.in_ok-end.ensures) set)
    c.set_range.ensures.values
