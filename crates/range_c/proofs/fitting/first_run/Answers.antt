use Rattle.std.proofs.Common.{ℕ, ◌≤◌, true, IfSome, IfNone}
use Rattle.range_collections.specs.Fits.{IsFit}
use Rattle.range_c.proofs.Told.{told-some, told-none}
use Rattle.range_c.proofs.fitting.first_run.Goals as goal

pub returns-clause-least : goal.returns-clause-least
returns-clause-least g c =
    let Fit = λ (n : ℕ). IsFit g.T.Ord.cmp g.T.Countable.value true c.args.a.now (g.R.ValueRange.start c.args.within) (g.R.ValueRange.end c.args.within) c.args.count n in
    let least : IfSome c.first_run.result (λ at. (n : ℕ) → Fit n → g.T.Countable.place at ≤ n) = rw (← c.new_unchecked.ensures) c.first_run.ensures.least in
    told-some c.first_run.result c.put.result c.args.at.now c.put.new.place c.put.ensures.some c.put.ensures.none
    (λ at. (n : ℕ) → Fit n → g.T.Countable.place at ≤ n) least

pub returns-clause-none : goal.returns-clause-none
returns-clause-none g c =
    let Fit = λ (n : ℕ). IsFit g.T.Ord.cmp g.T.Countable.value true c.args.a.now (g.R.ValueRange.start c.args.within) (g.R.ValueRange.end c.args.within) c.args.count n in
    let none : IfNone c.first_run.result ((n : ℕ) → Fit n → ⊥) = rw (← c.new_unchecked.ensures) c.first_run.ensures.none in
    told-none c.first_run.result c.put.result c.args.at.now c.put.new.place c.put.ensures.some c.put.ensures.none
    ((n : ℕ) → Fit n → ⊥) none
