use Rattle.std.proofs.Common.{◌-◌, ◌*◌, ◌%◌, ◌^◌, ◌<◌, ◌≡◌, arith, sym, refl}
use Rattle.std.proofs.lemmas.Nat.{pow_pos}
use Rattle.std.proofs.Math.Pow.{pow-lt}
use Rattle.range_merge.proofs.Searches.{IsNarrowed-first}
use Rattle.range_merge.proofs.fast.branchless.first_comparison.Goals as goal

pub returns-clause-narrowed : goal.returns-clause-narrowed
returns-clause-narrowed g c =
    let small : 2 ^ c.args.levels < 2 ^ 17 = pow-lt c.requires.few in
    let power : 1 * 2 ^ c.args.levels % 2 ^ 64 ≡ 2 ^ c.args.levels = omega arith in
    rw (c.select_unpredictable.ensures, c.is_le.ensures, c.is_eq.ensures, power)
    (IsNarrowed-first g.C.Compare.order g.met.C.Compare.total c.args.items.now c.args.key.now c.requires.ascending
    (2 ^ c.args.levels - 1) c.index-items-power.result (omega (arith, pow_pos c.args.levels)) (rw power at c.index-items-power.is)
    (2 ^ c.args.levels) _ c.compare-how.result (sym c.compare-how.ensures.answer) (omega (arith, pow_pos c.args.levels)) refl (omega arith))
