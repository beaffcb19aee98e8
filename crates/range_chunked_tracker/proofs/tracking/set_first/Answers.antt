use Rattle.std.proofs.Common.{◌∙◌, ap, refl, inl, inr, [], ◌∷◌, Err, arith, rules}
use Rattle.std.proofs.lemmas.Result.{err_from_is_err_and}
use Rattle.range_list.specs.Lists.{joined}
use Rattle.range_chunked_tracker.proofs.SetWithin.{set-refused, set-done, Means-first, Means-none}
use Rattle.range_chunked_tracker.proofs.tracking.set_first.Goals as goal

pub returns-then-not-inside-clause-set : goal.returns-then-not-inside-clause-set
returns-then-not-inside-clause-set c =
    set-done c.args.inside c.args.limit [] c.args.range [] (Means-none c.args.inside c.args.range c.requires.less (search rules)) (joined c.args.list.now) 0 refl (omega arith) refl
    (record { all_or_none = inl refl; room = c.requires.room })

pub returns-in_err-within_limit-clause-set : goal.returns-in_err-within_limit-clause-set
returns-in_err-within_limit-clause-set c =
    let p = err_from_is_err_and c.from_residual.result c.from_residual.ensures.1 in
    let told = c.in_err-within_limit.ensures.too_many in
    set-refused c.args.inside c.args.limit [] c.args.range (c.args.range.start ∷ c.args.range.end ∷ [])
    (Means-first c.args.inside c.args.range c.requires.less (search rules)) (joined c.args.list.now) 2 c.from_residual.result refl told.1
    (p.1 ∙ ap Err (p.2 ∙ told.0))

pub returns-clause-set : goal.returns-clause-set
returns-clause-set c =
    rw c.keep_range.ensures.items
    (set-done c.args.inside c.args.limit [] c.args.range (c.args.range.start ∷ c.args.range.end ∷ [])
    (Means-first c.args.inside c.args.range c.requires.less (search rules)) (c.args.range.start ∷ c.args.range.end ∷ []) 2 refl c.in_ok-within_limit.ensures.within refl
    (record { all_or_none = inr refl; room = omega arith }))
