use Rattle.std.proofs.Common.{◌≡◌, ◌++◌, ◌+◌, [], cond, sym, ap, ◌∙◌, take, drop, length, arith}
use Rattle.std.proofs.lemmas.List.{append-nil}
use Rattle.range_list.specs.Lists.{joined, place_at}
use Rattle.range_chunks.proofs.retaining.keep_range.Goals as goal

pub returns-then-keeps_at-clause-after : goal.returns-then-keeps_at-clause-after
returns-then-keeps_at-clause-after g c = λ range rest is.
    c.move_range.ensures.after
    ∙ ap (λ b. place_at c.args.list.now c.args.end + length (cond b (take 2 (drop (place_at c.args.list.now c.args.at) (joined c.args.list.now))) []))
    (sym c.if-keeps_at.true ∙ c.keeps_at.ensures range rest is)

pub returns-then-keeps_at-clause-kept : goal.returns-then-keeps_at-clause-kept
returns-then-keeps_at-clause-kept g c = λ range rest is.
    c.move_range.ensures.kept
    ∙ ap (λ b. take (place_at c.args.list.now c.args.end) (joined c.args.list.now) ++ cond b (take 2 (drop (place_at c.args.list.now c.args.at) (joined c.args.list.now))) [])
    (sym c.if-keeps_at.true ∙ c.keeps_at.ensures range rest is)

pub returns-else-keeps_at-clause-after : goal.returns-else-keeps_at-clause-after
returns-else-keeps_at-clause-after g c = λ range rest is.
    let none : place_at c.args.list.now c.args.end ≡ place_at c.args.list.now c.args.end + 0 = omega arith in
    none
    ∙ ap (λ b. place_at c.args.list.now c.args.end + length (cond b (take 2 (drop (place_at c.args.list.now c.args.at) (joined c.args.list.now))) []))
    (sym c.if-keeps_at.false ∙ c.keeps_at.ensures range rest is)

pub returns-else-keeps_at-clause-kept : goal.returns-else-keeps_at-clause-kept
returns-else-keeps_at-clause-kept g c = λ range rest is.
    sym (append-nil (take (place_at c.args.list.now c.args.end) (joined c.args.list.now)))
    ∙ ap (λ b. take (place_at c.args.list.now c.args.end) (joined c.args.list.now) ++ cond b (take 2 (drop (place_at c.args.list.now c.args.at) (joined c.args.list.now))) [])
    (sym c.if-keeps_at.false ∙ c.keeps_at.ensures range rest is)
