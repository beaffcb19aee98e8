use Rattle.std.proofs.Common.{◌≡◌, ◌∙◌, sym, ap, ap₂, subst, Ok, [], ◌∷◌, ◌++◌, length, length-append, append_assoc, arith}
use Rattle.std.specs.Option.{option_to_list}
use Rattle.std.specs.Vec.Iter.{into_iter_items, into_iter_steps}
use Rattle.std.proofs.lemmas.List.{append-nil}
use Rattle.range_collections.specs.ManyRanges.{GivesOwn, pairs_of}
use Rattle.range_collections.proofs.Underway.{GivesOwn-added, GivesOwn-none, nil-from_length, pairs_next}
use Rattle.range_collections.proofs.range_set.many_ranges.of_pairs.Goals as goal

pub loop-start-init : goal.loop-start-init
loop-start-init g c =
    let made = c.into_iter-start-iterator.ensures.into_iter_gives in
    record {
      len = made.1 ∙ c.args.starts.ok.0 ∙ sym (ap length made.0);
      left = c.into_iter-left.ensures.len ∙ c.args.ends.ok.0 ∙ sym (ap length c.into_iter-left.ensures.rest);
      done = [];
      are = sym (ap₂ pairs_of made.0 c.into_iter-left.ensures.rest);
      union = subst (λ items. GivesOwn g.T.Ord.cmp g.row.N [] (Ok items)) (sym c.empty-set.ensures.boundaries) (GivesOwn-none g.met.T.Ord.total g.row.N);
    }

pub loop-start-preserved : goal.loop-start-preserved
loop-start-preserved g c =
    let at = c.loop-start.invariant in
    let next = c.in-Some.ensures.steps in
    let end = c.next-in-loop-start.ensures in
    let left = into_iter_items c.loop-start.left in
    let rest = pairs_of (into_iter_items c.next.new.self) (into_iter_items c.next-in-loop-start.new.self) in
    record {
      len = omega (arith, next.1, at.len, ap length next.0);
      left = omega (
        arith,
        end.len,
        at.left,
        ap length end.items,
        length-append (option_to_list c.next-in-loop-start.result) (into_iter_items c.next-in-loop-start.new.self),
      );
      done = at.done ++ c.from_to.result ∷ [];
      are =
          at.are
          ∙ ap (λ starts. at.done ++ pairs_of starts left) next.0
          ∙ ap (λ pairs. at.done ++ pairs)
          (pairs_next c.in-Some.start (into_iter_items c.next.new.self) c.next-in-loop-start.result left (into_iter_items c.next-in-loop-start.new.self) c.from_to.result end.items
          (λ none.
          nil-from_length left
          (sym at.left ∙ (subst (λ r. into_iter_steps c.loop-start.left r c.next-in-loop-start.new.self) none end.cases).0))
          c.from_to.ensures)
          ∙ sym (append_assoc at.done (c.from_to.result ∷ []) rest);
      union = GivesOwn-added g.met.T.Ord.total g.row.N at.done c.from_to.result c.loop-start.set c.put_range.new.set at.union c.in_ok-put_range.ensures;
    }

pub returns : goal.returns
returns g c =
    let at = c.loop-start.invariant in
    let none : into_iter_items c.loop-start.start-iterator ≡ [] = nil-from_length _ (sym at.len ∙ c.in-None.ensures.steps.0) in
    subst (λ pairs. GivesOwn g.T.Ord.cmp g.row.N pairs (Ok c.loop-start.set))
    (sym (at.are ∙ ap (λ starts. at.done ++ pairs_of starts (into_iter_items c.loop-start.left)) none ∙ append-nil at.done)) at.union
