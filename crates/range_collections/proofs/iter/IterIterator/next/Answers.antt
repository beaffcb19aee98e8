use Rattle.std.proofs.Common.{sym, ◌∙◌, refl}
use Rattle.std.proofs.lemmas.List.{nil_from_length}
use Rattle.range_collections.proofs.iter.IterIterator.next.Goals as goal

pub returns-in-Some-clause-steps : goal.returns-in-Some-clause-steps
returns-in-Some-clause-steps g c =
    rw (sym c.self.view_is ∙ c.in_ok-start.ensures.cases.0, c.in-Some.ensures.cases.0) refl

pub returns-in-None-clause-steps : goal.returns-in-None-clause-steps
returns-in-None-clause-steps g c =
    let none = nil_from_length c.in_ok-start.others.now c.in-None.ensures.cases in
    rw (sym c.self.view_is ∙ c.in_ok-start.ensures.cases.0, none) refl
