use Rattle.std.proofs.Common.{ℕ, ◌≤◌, true}
use Rattle.range_collections.specs.Fits.{IsFit}
use Rattle.range_c.proofs.Told.{told-some, told-none}
use Rattle.range_c.proofs.chunked.fitting.first_run.Goals as goal

pub returns-clause-least : goal.returns-clause-least
returns-clause-least g c =
    let Fit = λ (n : ℕ). IsFit g.T.Ord.cmp g.T.Countable.value true c.args.set.now (g.R.ValueRange.start c.args.within) (g.R.ValueRange.end c.args.within) c.args.count n in
    told-some c.first_run.result c.put.result c.args.at.now c.put.new.place c.put.ensures.some c.put.ensures.none
    (λ at. (n : ℕ) → Fit n → g.T.Countable.place at ≤ n) c.first_run.ensures.least

pub returns-clause-none : goal.returns-clause-none
returns-clause-none g c =
    let Fit = λ (n : ℕ). IsFit g.T.Ord.cmp g.T.Countable.value true c.args.set.now (g.R.ValueRange.start c.args.within) (g.R.ValueRange.end c.args.within) c.args.count n in
    told-none c.first_run.result c.put.result c.args.at.now c.put.new.place c.put.ensures.some c.put.ensures.none
    ((n : ℕ) → Fit n → ⊥) c.first_run.ensures.none
