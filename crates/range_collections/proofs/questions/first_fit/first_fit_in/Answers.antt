use Rattle.std.proofs.Common.{◌∙◌, ◌<◌, ℕ, IfSome, IfNone, sym, subst, arith}
use Rattle.std.proofs.lemmas.Bool.{true≢false}
use Rattle.range_collections.specs.Fits.{IsFit, IsLeastFit, IsOneOf}
use Rattle.range_collections.proofs.Fitting.{IfNone-map}
use Rattle.range_collections.proofs.FitEnds.{IfSome-below, IfSome-last, IsLeastFit-after, after-closed, after-ended, none-of_none, none-up_to}
use Rattle.range_collections.proofs.questions.first_fit.first_fit_in.Goals as goal

pub returns-in-Some-clause-fit : goal.returns-in-Some-clause-fit
returns-in-Some-clause-fit g c =
    IsLeastFit-after g.T.Ord.cmp g.T.Countable.value g.T.Countable.place c.args.inside (g.L.Boundaries.items c.args.list) (g.T.Countable.place c.args.ends.now.start) (g.T.Countable.place c.args.ends.now.end) c.args.count c.args.multiples c.args.ends.now.closed c.in-Some.fit c.in-Some.ensures.fit

pub returns-in-Some-clause-first : goal.returns-in-Some-clause-first
returns-in-Some-clause-first g c outside ended some one = c.in-Some.ensures.first outside some one

pub returns-in-Some-clause-nothing : goal.returns-in-Some-clause-nothing
returns-in-Some-clause-nothing g c ended zero one = c.in-Some.ensures.nothing zero one

pub returns-then-not-ends-clause-none : goal.returns-then-not-ends-clause-none
returns-then-not-ends-clause-none g c n less even =
    subst (λ end. IsFit g.T.Ord.cmp g.T.Countable.value c.args.inside (g.L.Boundaries.items c.args.list) (g.T.Countable.place c.args.ends.now.start) end c.args.count n → ⊥) (sym (after-ended c.args.ends.now.closed (g.T.Countable.place c.args.ends.now.end) c.if-not-ends.true))
    (c.in_default.ensures.none n even)

pub returns-then-not-ends-clause-first : goal.returns-then-not-ends-clause-first
returns-then-not-ends-clause-first g c outside ended some one = c.in_default.ensures.first outside some one

pub returns-then-not-ends-clause-nothing : goal.returns-then-not-ends-clause-nothing
returns-then-not-ends-clause-nothing g c ended zero one = c.in_default.ensures.nothing zero one

pub returns-then-count-eq0-clause-none : goal.returns-then-count-eq0-clause-none
returns-then-count-eq0-clause-none g c n less even =
    subst (λ end. IsFit g.T.Ord.cmp g.T.Countable.value c.args.inside (g.L.Boundaries.items c.args.list) (g.T.Countable.place c.args.ends.now.start) end c.args.count n → ⊥) (sym (after-closed c.args.ends.now.closed (g.T.Countable.place c.args.ends.now.end) c.if-not-ends.false ∙ c.requires.closed c.if-not-ends.false))
    (none-of_none g.T.Ord.cmp g.T.Countable.value g.T.Countable.place c.args.inside (g.L.Boundaries.items c.args.list) (g.T.Countable.place c.args.ends.now.start) (g.T.Countable.place c.args.ends.now.end) g.T.Countable.count c.args.count c.args.multiples (c.requires.closed c.if-not-ends.false)
    c.in_default.ensures.none c.if-count-eq0.true n less even)

pub returns-then-count-eq0-clause-first : goal.returns-then-count-eq0-clause-first
returns-then-count-eq0-clause-first g c outside ended some one = absurd (true≢false (sym c.if-not-ends.false ∙ ended))

pub returns-then-count-eq0-clause-nothing : goal.returns-then-count-eq0-clause-nothing
returns-then-count-eq0-clause-nothing g c ended zero one = absurd (true≢false (sym c.if-not-ends.false ∙ ended))

pub returns-clause-fit : goal.returns-clause-fit
returns-clause-fit g c =
    subst (λ end. IfSome c.last_fit.result (IsLeastFit g.T.Ord.cmp g.T.Countable.value g.T.Countable.place c.args.inside (g.L.Boundaries.items c.args.list) (g.T.Countable.place c.args.ends.now.start) end c.args.count c.args.multiples))
    (sym (after-closed c.args.ends.now.closed (g.T.Countable.place c.args.ends.now.end) c.if-not-ends.false ∙ c.requires.closed c.if-not-ends.false))
    (IfSome-last g.T.Ord.cmp g.T.Countable.value g.T.Countable.place c.args.inside (g.L.Boundaries.items c.args.list) (g.T.Countable.place c.args.ends.now.start) (g.T.Countable.place c.args.ends.now.end) c.args.count c.args.multiples g.T.Countable.count (c.requires.closed c.if-not-ends.false)
    c.in_default.ensures.none c.last_fit.result c.last_fit.ensures.fit c.last_fit.ensures.aligned c.last_fit.ensures.begins)

pub returns-clause-below : goal.returns-clause-below
returns-clause-below g c =
    IfSome-below g.T.Ord.cmp g.T.Countable.value c.args.inside (g.L.Boundaries.items c.args.list) (g.T.Countable.place c.args.ends.now.start) g.T.Countable.count c.args.count (omega (arith, c.if-count-eq0.false)) c.last_fit.result c.last_fit.ensures.fit

pub returns-clause-none : goal.returns-clause-none
returns-clause-none g c =
    subst (λ end. IfNone c.last_fit.result ((n : ℕ) → n < g.T.Countable.count → IsOneOf c.args.multiples n → IsFit g.T.Ord.cmp g.T.Countable.value c.args.inside (g.L.Boundaries.items c.args.list) (g.T.Countable.place c.args.ends.now.start) end c.args.count n → ⊥))
    (sym (after-closed c.args.ends.now.closed (g.T.Countable.place c.args.ends.now.end) c.if-not-ends.false ∙ c.requires.closed c.if-not-ends.false))
    (IfNone-map c.last_fit.result _ _
    (λ none n less even fit.
    none-up_to g.T.Ord.cmp g.T.Countable.value g.T.Countable.place c.args.inside (g.L.Boundaries.items c.args.list) (g.T.Countable.place c.args.ends.now.start) (g.T.Countable.place c.args.ends.now.end) g.T.Countable.count c.args.count c.args.multiples (c.requires.closed c.if-not-ends.false)
    c.in_default.ensures.none none n even fit)
    c.last_fit.ensures.none)

pub returns-clause-first : goal.returns-clause-first
returns-clause-first g c outside ended some one = absurd (true≢false (sym c.if-not-ends.false ∙ ended))

pub returns-clause-nothing : goal.returns-clause-nothing
returns-clause-nothing g c ended zero one = absurd (true≢false (sym c.if-not-ends.false ∙ ended))
