use Rattle.std.proofs.Common.{Bool, Option, None, Some}
use Rattle.std.specs.Cmp.{IsEquivalence}
use Rattle.std.specs.Cmp.Lexicographic.{options_equiv}
use Rattle.std.specs.Option.{option_or}
use Rattle.range_map.specs.Steps.{AreAlike}
use Rattle.range_map.proofs.Windowed.{IsCombined-same}
use Rattle.range_map.proofs.map.RangeMap.union_with_right.Goals as goal

or-alike : {V : Type 0} (E : V → V → Bool) (e : IsEquivalence E) (p p2 q : Option V) → AreAlike E p p2 → AreAlike E (option_or q p) (option_or q p2)
or-alike E e p p2 None h = h
or-alike E e p p2 (Some w) h = (options_equiv e).refl (Some w)

pub returns-clause-values : goal.returns-clause-values
returns-clause-values g c =
    IsCombined-same g.K.Ord.cmp g.V.PartialEq.eq g.met.V.Eq.laws (λ p q. option_or q p) (or-alike g.V.PartialEq.eq g.met.V.Eq.laws) c.args.self.now c.in_ok-map.map c.args.that.now c.combine_with.new.self
    c.in_ok-map.ensures.values c.in_ok-combine_with.ensures.values
