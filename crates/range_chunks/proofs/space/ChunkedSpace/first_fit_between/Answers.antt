use Rattle.std.proofs.Common.{◌∙◌, sym, subst, false, arith}
use Rattle.range_collections.specs.Fits.{IsFit}
use Rattle.range_chunks.proofs.FitSearches.{widened, narrowed}
use Rattle.range_chunks.proofs.space.ChunkedSpace.first_fit_between.Goals as goal

pub returns-in-At-clause-first : goal.returns-in-At-clause-first
returns-in-At-clause-first g c = record {
  fit =
      widened g.T.Ord.cmp g.T.Countable.value g.T.Countable.place c.loop-multiples.self c.args.self.now (c.loop-multiples.invariant.same ∙ c.forget_wasted.ensures) c.args.start c.loop-multiples.from c.args.end c.args.count _
      c.loop-multiples.invariant.from c.in-At.ensures.step.fit;
  aligned = c.in-At.ensures.step.aligned;
  least = λ n even fit.
      c.in-At.ensures.step.least n even
      (narrowed g.T.Ord.cmp g.T.Countable.value g.T.Countable.place c.loop-multiples.self c.args.self.now (c.loop-multiples.invariant.same ∙ c.forget_wasted.ensures) c.args.start c.loop-multiples.from c.args.end c.args.count n
      (c.loop-multiples.invariant.above n even
      (subst (λ list. IsFit g.T.Ord.cmp g.T.Countable.value false list (g.T.Countable.place c.args.start) (g.T.Countable.place c.args.end) c.args.count n) (sym c.forget_wasted.ensures) fit)) fit);
  begins = c.in-At.ensures.step.begins;
}

pub loop-multiples-preserved : goal.loop-multiples-preserved
loop-multiples-preserved g c = record {
  same = c.in-From.ensures.unchanged ∙ c.loop-multiples.invariant.same;
  from = omega (arith, c.loop-multiples.invariant.from, c.in-From.ensures.step.past);
  above = λ n even fit.
      c.in-From.ensures.step.above n even
      (narrowed g.T.Ord.cmp g.T.Countable.value g.T.Countable.place c.loop-multiples.self c.forget_wasted.new.self c.loop-multiples.invariant.same c.args.start c.loop-multiples.from c.args.end c.args.count n
      (c.loop-multiples.invariant.above n even fit) fit);
}

pub returns-in-Nowhere-clause-none : goal.returns-in-Nowhere-clause-none
returns-in-Nowhere-clause-none g c n even fit =
    c.in-Nowhere.ensures.step n even
    (narrowed g.T.Ord.cmp g.T.Countable.value g.T.Countable.place c.loop-multiples.self c.args.self.now (c.loop-multiples.invariant.same ∙ c.forget_wasted.ensures) c.args.start c.loop-multiples.from c.args.end c.args.count n
    (c.loop-multiples.invariant.above n even
    (subst (λ list. IsFit g.T.Ord.cmp g.T.Countable.value false list (g.T.Countable.place c.args.start) (g.T.Countable.place c.args.end) c.args.count n) (sym c.forget_wasted.ensures) fit)) fit)

pub returns-clause-none : goal.returns-clause-none
returns-clause-none g c n even fit =
    let above =
    c.loop-multiples.invariant.above n even
    (subst (λ list. IsFit g.T.Ord.cmp g.T.Countable.value false list (g.T.Countable.place c.args.start) (g.T.Countable.place c.args.end) c.args.count n) (sym c.forget_wasted.ensures) fit) in
    omega (arith, above, fit.up_to, c.loop-multiples-test.false, c.place.ensures, c.place-in-loop-multiples.ensures, c.requires.some)
