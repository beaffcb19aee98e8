use Rattle.std.proofs.Common.{◌≡◌, ◌∙◌, sym, ap, None, slice_get, arith, rules}
use Rattle.range_collections.specs.Ranges.{ranges_of}
use Rattle.range_c.proofs.RangesFrom.{get-ranges_of, no_range}
use Rattle.range_c.proofs.parts.range.Goals as goal

pub returns-then-index-a : goal.returns-then-index-a
returns-then-index-a g c =
    let past : slice_get (ranges_of c.args.a.now) c.args.index ≡ None = no_range c.args.index c.args.a.now (omega (arith, c.if-index-a.true)) in
    record {
      told = λ t. absurd (search (rules, t));
      none = λ _. past;
      unchanged = search rules;
      no_end = search rules;
    }

pub returns : goal.returns
returns g c =
    let here = get-ranges_of c.args.index c.args.a.now ∙ ap (λ xs. slice_get (ranges_of xs) 0) (sym c.split_at.ensures.back) in
    record {
      told = λ t. here ∙ c.first.ensures.told t;
      none = λ t. here ∙ c.first.ensures.none t;
      unchanged = c.first.ensures.unchanged;
      no_end = c.first.ensures.no_end;
    }
