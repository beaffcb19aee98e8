use Rattle.std.proofs.Common.{◌≡◌, [], ◌∷◌, ◌++◌, ◌-◌, suc, sym, ap, ap₂, ◌∙◌, length, arith}
use Rattle.std.proofs.lemmas.Bool.Decides.{nat_tests}
use Rattle.std.proofs.lemmas.List.{nil_from_length}
use Rattle.range_collections.specs.Members.{members_of}
use Rattle.range_collections.proofs.MembersOf.{members_of-nil}
use Rattle.range_collections.proofs.RangesAtEnds.{shorter-append}
use Rattle.range_collections.proofs.members.MembersDoubleEndedIterator.next_back.Goals as goal
use Rattle.range_collections.proofs.members.MembersDoubleEndedIterator.next_back.Goals.{in-Some, in-None}

pub returns-then-is_empty-clause-steps : goal.returns-then-is_empty-clause-steps
returns-then-is_empty-clause-steps g c =
    let none : length c.self.inside.unread.now ≡ 0 = grind (arith, nat_tests, c.if-is_empty.ensures) in
    let is : c.args.self.now ≡ [] =
    sym c.self.view_is
    ∙ ap (λ items. members_of g.T.Ord.cmp g.T.Countable.value items c.self.inside.first (suc c.self.inside.last - c.self.inside.first)) (nil_from_length c.self.inside.unread.now none)
    ∙ members_of-nil g.T.Ord.cmp g.T.Countable.value c.self.inside.first (suc c.self.inside.last - c.self.inside.first) in
    (is, is)

pub returns-clause-steps : goal.returns-clause-steps
returns-clause-steps g c =
    elim c.match-below.branch [
      | in-Some w ↦ sym c.self.view_is ∙ w.in-Some.ensures.others ∙ ap₂ (λ l x. l ++ x ∷ []) (sym w.self-is) (sym c.in_ok-highest.ensures.1)
      | in-None w ↦ sym c.self.view_is ∙ w.in-None.ensures.none ∙ ap₂ (λ l x. l ++ x ∷ []) (sym (w.self-is ∙ members_of-nil g.T.Ord.cmp g.T.Countable.value c.self.inside.first (suc c.self.inside.last - c.self.inside.first))) (sym c.in_ok-highest.ensures.1)
    ]

pub returns-clause-goes : goal.returns-clause-goes
returns-clause-goes g c = record {
  on = λ _. (tt, tt, shorter-append c.args.self.now c.match-below.self _ (returns-clause-steps g c));
  keeps = tt;
  rests = λ _. tt;
}
