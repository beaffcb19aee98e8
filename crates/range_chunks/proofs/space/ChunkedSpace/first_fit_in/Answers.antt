use Rattle.std.proofs.Common.{◌∙◌, ℕ, false, IfSome, IfNone, sym, subst}
use Rattle.range_collections.specs.Fits.{IsFit, IsLeastFit, IsOneOf}
use Rattle.range_collections.proofs.Fitting.{IfNone-map}
use Rattle.range_collections.proofs.FitEnds.{IfSome-last, IsLeastFit-after, after-closed, after-ended, none-up_to}
use Rattle.range_chunks.proofs.space.ChunkedSpace.first_fit_in.Goals as goal

pub returns-in-Some-clause-first : goal.returns-in-Some-clause-first
returns-in-Some-clause-first g c =
    IsLeastFit-after g.T.Ord.cmp g.T.Countable.value g.T.Countable.place false c.args.self.now (g.T.Countable.place c.args.ends.now.start) (g.T.Countable.place c.args.ends.now.end) c.args.count c.args.multiples c.args.ends.now.closed c.in-Some.fit c.in-Some.ensures.first

pub returns-then-not-ends-clause-none : goal.returns-then-not-ends-clause-none
returns-then-not-ends-clause-none g c n even =
    subst (λ end. IsFit g.T.Ord.cmp g.T.Countable.value false c.args.self.now (g.T.Countable.place c.args.ends.now.start) end c.args.count n → ⊥) (sym (after-ended c.args.ends.now.closed (g.T.Countable.place c.args.ends.now.end) c.if-not-ends.true))
    (c.in_default.ensures.none n even)

pub returns-clause-first : goal.returns-clause-first
returns-clause-first g c =
    subst (λ end. IfSome c.last_fit.result (IsLeastFit g.T.Ord.cmp g.T.Countable.value g.T.Countable.place false c.args.self.now (g.T.Countable.place c.args.ends.now.start) end c.args.count c.args.multiples))
    (sym (after-closed c.args.ends.now.closed (g.T.Countable.place c.args.ends.now.end) c.if-not-ends.false ∙ c.requires.closed c.if-not-ends.false))
    (IfSome-last g.T.Ord.cmp g.T.Countable.value g.T.Countable.place false c.args.self.now (g.T.Countable.place c.args.ends.now.start) (g.T.Countable.place c.args.ends.now.end) c.args.count c.args.multiples g.T.Countable.count (c.requires.closed c.if-not-ends.false)
    c.in_default.ensures.none c.last_fit.result (rw (← c.in_default.ensures.unchanged, ← c.self.view_is, ← c.boundaries-list.ensures.items) c.last_fit.ensures.fit) c.last_fit.ensures.aligned c.last_fit.ensures.begins)

pub returns-clause-none : goal.returns-clause-none
returns-clause-none g c =
    subst (λ end. IfNone c.last_fit.result ((n : ℕ) → IsOneOf c.args.multiples n → IsFit g.T.Ord.cmp g.T.Countable.value false c.args.self.now (g.T.Countable.place c.args.ends.now.start) end c.args.count n → ⊥))
    (sym (after-closed c.args.ends.now.closed (g.T.Countable.place c.args.ends.now.end) c.if-not-ends.false ∙ c.requires.closed c.if-not-ends.false))
    (IfNone-map c.last_fit.result _ _
    (λ none n even fit.
    none-up_to g.T.Ord.cmp g.T.Countable.value g.T.Countable.place false c.args.self.now (g.T.Countable.place c.args.ends.now.start) (g.T.Countable.place c.args.ends.now.end) g.T.Countable.count c.args.count c.args.multiples (c.requires.closed c.if-not-ends.false)
    c.in_default.ensures.none none n even fit)
    (rw (← c.in_default.ensures.unchanged, ← c.self.view_is, ← c.boundaries-list.ensures.items) c.last_fit.ensures.none))
