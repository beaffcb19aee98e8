use Rattle.std.proofs.Common.{◌≡◌, length, refl, sym, ap, ◌∙◌, arith, rules}
use Rattle.std.proofs.lemmas.Bool.{false≢true}
use Rattle.range_merge.specs.Changes.{changes}
use Rattle.range_merge.proofs.Filled.{given-taken, items-taken}
use Rattle.range_merge.proofs.merge_state.buffer.BufferMergeState+K.merge.Goals as goal

pub returns-then-given-room-clause-no_room : goal.returns-then-given-room-clause-no_room
returns-then-given-room-clause-no_room g c =
    let ts = changes g.C.Compare.order (g.O.MergeOperation.connective c.args.op.now) c.args.a.now c.args.b.now in
    let items = c.filled-items.result.items.now in
    let back : items ≡ c.out-1.given.0 = search rules in
    let same : length items ≡ length c.args.out.now = ap length back ∙ c.out-1.given.1.1 in
    let many : c.filled-items.result.given ≡ length ts = given-taken c.args.out.now items ts c.filled-items.result.given same c.filled-items.ensures.filled in
    (λ _. omega (arith, many, c.if-given-room.true), λ _. refl)

pub returns-then-given-room-clause-needed : goal.returns-then-given-room-clause-needed
returns-then-given-room-clause-needed g c =
    let ts = changes g.C.Compare.order (g.O.MergeOperation.connective c.args.op.now) c.args.a.now c.args.b.now in
    let items = c.filled-items.result.items.now in
    let back : items ≡ c.out-1.given.0 = search rules in
    let same : length items ≡ length c.args.out.now = ap length back ∙ c.out-1.given.1.1 in
    let many : c.filled-items.result.given ≡ length ts = given-taken c.args.out.now items ts c.filled-items.result.given same c.filled-items.ensures.filled in
    many

pub returns-clause-written : goal.returns-clause-written
returns-clause-written g c =
    let ts = changes g.C.Compare.order (g.O.MergeOperation.connective c.args.op.now) c.args.a.now c.args.b.now in
    let items = c.filled-items.result.items.now in
    let back : items ≡ c.out-1.given.0 = search rules in
    let same : length items ≡ length c.args.out.now = ap length back ∙ c.out-1.given.1.1 in
    let many : c.filled-items.result.given ≡ length ts = given-taken c.args.out.now items ts c.filled-items.result.given same c.filled-items.ensures.filled in
    sym back ∙ items-taken c.args.out.now items ts c.filled-items.result.given same c.if-given-room.false c.filled-items.ensures.filled

pub returns-clause-length : goal.returns-clause-length
returns-clause-length g c =
    let ts = changes g.C.Compare.order (g.O.MergeOperation.connective c.args.op.now) c.args.a.now c.args.b.now in
    let items = c.filled-items.result.items.now in
    let back : items ≡ c.out-1.given.0 = search rules in
    let same : length items ≡ length c.args.out.now = ap length back ∙ c.out-1.given.1.1 in
    let many : c.filled-items.result.given ≡ length ts = given-taken c.args.out.now items ts c.filled-items.result.given same c.filled-items.ensures.filled in
    many

pub returns-clause-no_room : goal.returns-clause-no_room
returns-clause-no_room g c =
    let ts = changes g.C.Compare.order (g.O.MergeOperation.connective c.args.op.now) c.args.a.now c.args.b.now in
    let items = c.filled-items.result.items.now in
    let back : items ≡ c.out-1.given.0 = search rules in
    let same : length items ≡ length c.args.out.now = ap length back ∙ c.out-1.given.1.1 in
    let many : c.filled-items.result.given ≡ length ts = given-taken c.args.out.now items ts c.filled-items.result.given same c.filled-items.ensures.filled in
    (λ no. absurd (false≢true no), λ more. absurd (omega (arith, many, more, c.if-given-room.false)))
