use Rattle.std.proofs.Common.{◌+◌, ◌-◌, ◌%◌, arith}
use Rattle.std.proofs.Math.Nat.{mod-lt}
use Rattle.range_collections.proofs.NextMultiple.{IsMultiple-least, ahead-below, ahead-none, ahead-above}
use Rattle.range_collections.proofs.countable.multiples.Multiples.ahead.Goals as goal

pub returns-then-place-self-clause-reached : goal.returns-then-place-self-clause-reached
returns-then-place-self-clause-reached c = ahead-below c.args.self.now.zero c.args.self.now.of c.args.place c.if-place-self.true

pub returns-then-place-self-clause-next : goal.returns-then-place-self-clause-next
returns-then-place-self-clause-next c n one from =
    let m = c.args.self.now in
    IsMultiple-least m.zero m.of (c.args.place + (m.zero - c.args.place) % m.of) n
    (ahead-below m.zero m.of c.args.place c.if-place-self.true) one
    (omega (arith, from, mod-lt (m.zero - c.args.place) c.requires.some))

pub returns-then-past-eq0-clause-reached : goal.returns-then-past-eq0-clause-reached
returns-then-past-eq0-clause-reached c =
    ahead-none c.args.self.now.zero c.args.self.now.of c.args.place (omega (arith, c.if-place-self.false)) c.if-past-eq0.true

pub returns-else-past-eq0-clause-reached : goal.returns-else-past-eq0-clause-reached
returns-else-past-eq0-clause-reached c =
    ahead-above c.args.self.now.zero c.args.self.now.of c.args.place (omega (arith, c.if-place-self.false)) c.requires.some

pub returns-else-past-eq0-clause-next : goal.returns-else-past-eq0-clause-next
returns-else-past-eq0-clause-next c n one from =
    let m = c.args.self.now in
    IsMultiple-least m.zero m.of (c.args.place + (m.of - (c.args.place - m.zero) % m.of)) n
    (ahead-above m.zero m.of c.args.place (omega (arith, c.if-place-self.false)) c.requires.some) one
    (omega (arith, from, mod-lt (c.args.place - m.zero) c.requires.some, c.if-past-eq0.false))
