use Rattle.std.proofs.Common.{◌+◌, ◌-◌, ◌*◌, ◌%◌, ◌^◌, ◌<◌, arith, sym}
use Rattle.std.proofs.lemmas.Nat.{pow_pos}
use Rattle.std.proofs.Math.Pow.{pow-lt}
use Rattle.range_merge.proofs.Searches.{IsNarrowed-step, double}
use Rattle.range_merge.proofs.fast.branchless.step.Goals as goal

pub returns-clause-narrowed : goal.returns-clause-narrowed
returns-clause-narrowed g c =
    let small : 2 ^ c.args.bits < 2 ^ 16 = pow-lt c.requires.few in
    let i = c.args.front.len + (1 * 2 ^ c.args.bits % 2 ^ 64 - 1) in
    rw (c.is_le.ensures, c.is_eq.ensures)
    (IsNarrowed-step g.C.Compare.order g.met.C.Compare.total c.args.items.now c.args.key.now c.requires.ascending
    i c.index-items-front.result (omega (arith, double c.args.bits, pow_pos c.args.bits, c.requires.narrowed.within)) c.index-items-front.is
    c.args.front.len c.args.bits c.args.front.has_equal c.compare-how.result (sym c.compare-how.ensures.answer) c.requires.few (omega (arith, pow_pos c.args.bits)) c.requires.narrowed)
