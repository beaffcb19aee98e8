use Rattle.std.proofs.Common.{Bool, Option, None, Some, sym, true≢false}
use Rattle.std.specs.Cmp.{IsEquivalence}
use Rattle.std.specs.Cmp.Lexicographic.{options_equiv}
use Rattle.std.specs.Option.{option_or}
use Rattle.range_map.specs.Steps.{AreAlike}
use Rattle.range_map.proofs.Windowed.{IsCombined-same}
use Rattle.range_map.proofs.map.RangeMap.union_with_left.Goals as goal

or-alike : {V : Type 0} (E : V → V → Bool) (e : IsEquivalence E) (p p2 q : Option V) → AreAlike E p p2 → AreAlike E (option_or p q) (option_or p2 q)
or-alike E e None None q h = (options_equiv e).refl q
or-alike E e None (Some w) q h = absurd (true≢false (sym h))
or-alike E e (Some v) None q h = absurd (true≢false (sym h))
or-alike E e (Some v) (Some w) q h = h

pub returns-clause-values : goal.returns-clause-values
returns-clause-values g c =
    IsCombined-same g.K.Ord.cmp g.V.PartialEq.eq g.met.V.Eq.laws (λ p q. option_or p q) (or-alike g.V.PartialEq.eq g.met.V.Eq.laws) c.args.self.now c.in_ok-map.map c.args.that.now c.combine_with.new.self
    c.in_ok-map.ensures.values c.in_ok-combine_with.ensures.values
