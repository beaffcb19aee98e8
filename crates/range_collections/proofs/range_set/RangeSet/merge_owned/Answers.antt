use Rattle.std.proofs.Common.{OnOk, OnErr, IfErr, IsOk, ◌≡◌, refl, rules, sym, true≢false, ◌∙◌}
use Rattle.std.proofs.lemmas.Result.{on_ok_weaker}
use Rattle.range_merge.specs.Changes.{changes}
use Rattle.range_merge.specs.Connective.{Means}
use Rattle.range_collections.specs.InPlace.{AreOwnElseOf}
use Rattle.range_collections.proofs.Headline.{BecomesTheOwnResult-by_owned}
use Rattle.range_collections.proofs.OwnItems.{AreOwnElseOf-marked, IsAscending-taken}
use Rattle.range_collections.proofs.range_set.RangeSet.merge_owned.Goals.{in-Ok, in-Err}
use Rattle.range_collections.proofs.range_set.RangeSet.merge_owned.Goals as goal

pub merge-requires : goal.merge-requires
merge-requires g c = (search rules, (c.self.invariant, (c.into_inner.ensures.sorted, c.requires.made)))

pub new_unchecked-requires : goal.new_unchecked-requires
new_unchecked-requires g c = (search rules, (search rules, rw c.in-Err.ensures.handed_back c.into_inner.ensures.sorted))

pub returns-clause-changed : goal.returns-clause-changed
returns-clause-changed g c =
    let f = g.O.MergeOperation.connective c.args.op.now in
    let a = c.self.inside.list.items in
    let b = c.into_inner.result.items in
    let Meant = Means g.T.Ord.cmp f c.merge.new.a.items c.args.self.now c.args.that in
    let Own = AreOwnElseOf g.T.Ord.cmp c.args.self.now c.args.that c.merge.new.a.items in
    let meant : OnOk c.merge.result Meant =
    rw (← c.self.view_is, ← c.into_inner.ensures.items)
    (on_ok_weaker c.merge.result
    (λ kept. rw kept (c.changes_mean_the_connective.ensures.means f a b c.requires.off c.self.invariant c.into_inner.ensures.sorted))
    c.merge.ensures.taken) in
    let own : OnOk c.merge.result Own =
    rw (← c.self.view_is, ← c.into_inner.ensures.items)
    (on_ok_weaker c.merge.result
    (λ kept. rw kept (AreOwnElseOf-marked g.met.T.Ord.total a b (changes g.T.Ord.cmp f a b)
    (c.changes_are_marked_truly.ensures.marks f a b c.self.invariant c.into_inner.ensures.sorted)))
    c.merge.ensures.taken) in record {
      means =
          elim c.match-merge.branch as (λ _. OnOk c.match-merge.result Meant) [
            | in-Ok w ↦ rw w.result-is (rw w.in-Ok.is at meant)
            | in-Err w ↦ rw w.result-is tt
          ];
      left_own_item =
          elim c.match-merge.branch as (λ _. OnOk c.match-merge.result Own) [
            | in-Ok w ↦ rw w.result-is (rw w.in-Ok.is at own)
            | in-Err w ↦ rw w.result-is tt
          ];
      unchanged =
          elim c.match-merge.branch as (λ _. OnErr c.match-merge.result (c.merge.new.a.items ≡ c.args.self.now)) [
            | in-Ok w ↦ rw w.result-is tt
            | in-Err w ↦ rw (w.result-is, ← c.self.view_is) w.in-Err.ensures.unchanged
          ];
      handed_back =
          elim c.match-merge.branch as (λ _. IfErr c.match-merge.result (λ refused. refused.1 ≡ c.args.that)) [
            | in-Ok w ↦ rw w.result-is tt
            | in-Err w ↦ rw w.result-is (w.new_unchecked.ensures ∙ w.in-Err.ensures.handed_back ∙ c.into_inner.ensures.items)
          ];
      succeeds =
          λ few.
          elim c.match-merge.branch as (λ _. IsOk c.match-merge.result) [
            | in-Ok w ↦ rw w.result-is refl
            | in-Err w ↦ absurd (true≢false (sym (w.in-Err.ensures.succeeds (rw (c.self.view_is, c.into_inner.ensures.items) few))))
          ];
    }

pub returns-clause-comparisons : goal.returns-clause-comparisons
returns-clause-comparisons g c = rw (← c.self.view_is, ← c.into_inner.ensures.items) c.merge.ensures.comparisons

pub invariant_of-self : goal.invariant_of-self
invariant_of-self g c =
    let f = g.O.MergeOperation.connective c.args.op.now in
    let a = c.self.inside.list.items in
    let b = c.into_inner.result.items in
    IsAscending-taken g.met.T.Ord.total f c.merge.result (changes g.T.Ord.cmp f a b) c.merge.new.a.items a b
    (c.changes_mean_the_connective.ensures.means f a b c.requires.off c.self.invariant c.into_inner.ensures.sorted)
    c.self.invariant c.merge.ensures.taken c.merge.ensures.unchanged

pub returns-clause-headline : goal.returns-clause-headline
returns-clause-headline g c = record {
  fact = BecomesTheOwnResult-by_owned g.met.T.Ord.total _ _ _ _ _ _ (returns-clause-changed g c);
  comparisons = returns-clause-comparisons g c;
}
