use Rattle.std.proofs.Common.{ℕ, ◌<◌, ◌≤◌, false, IfSome, IfNone}
use Rattle.range_collections.specs.Fits.{IsFit, IsMultiple}
use Rattle.range_c.proofs.Told.{told-some, told-none}
use Rattle.range_c.proofs.fitting.first_fit_aligned.Goals as goal

pub returns-clause-least : goal.returns-clause-least
returns-clause-least g c =
    let Least = λ (at : g.row.T.Denot). (n : ℕ) → IsMultiple g.T.FromPlace.zero c.args.align n → IsFit g.T.Ord.cmp g.T.Countable.value false c.args.a.now (g.R.ValueRange.start c.args.within) (g.R.ValueRange.end c.args.within) c.args.count n → g.T.Countable.place at ≤ n in
    let least : IfSome c.first_fit_aligned.result Least = rw (← c.new_unchecked.ensures) c.first_fit_aligned.ensures.least in
    told-some c.first_fit_aligned.result c.put.result c.args.at.now c.put.new.place c.put.ensures.some c.put.ensures.none Least least

pub returns-clause-none : goal.returns-clause-none
returns-clause-none g c was some =
    let None_fits = (n : ℕ) → n < g.T.Countable.count → IsMultiple g.T.FromPlace.zero c.args.align n → IsFit g.T.Ord.cmp g.T.Countable.value false c.args.a.now (g.R.ValueRange.start c.args.within) (g.R.ValueRange.end c.args.within) c.args.count n → ⊥ in
    let none : IfNone c.first_fit_aligned.result None_fits = rw (← c.new_unchecked.ensures) (c.first_fit_aligned.ensures.none some) in
    told-none c.first_fit_aligned.result c.put.result c.args.at.now c.put.new.place c.put.ensures.some c.put.ensures.none None_fits none was
