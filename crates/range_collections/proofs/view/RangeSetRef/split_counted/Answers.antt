use Rattle.std.proofs.Common.{sym, ◌∙◌}
use Rattle.range_collections.proofs.Cut.{split_left-found, split_left-missing, split_right-found, split_right-missing, IsLeastBelow-found, IsLeastBelow-missing, IsLeastFrom-found, IsLeastFrom-missing}
use Rattle.range_collections.proofs.view.RangeSetRef.split_counted.Goals as goal

pub returns-in-Ok-clause-left : goal.returns-in-Ok-clause-left
returns-in-Ok-clause-left g c =
    c.parts.ensures.left
    ∙ sym (split_left-found g.met.T.Ord.total c.args.at c.args.self.now.boundaries.now c.in-Ok.i
    c.args.self.now.sorted c.in-Ok.ensures.found_within c.in-Ok.ensures.found)

pub returns-in-Ok-clause-right : goal.returns-in-Ok-clause-right
returns-in-Ok-clause-right g c =
    c.parts.ensures.right
    ∙ sym (split_right-found g.met.T.Ord.total c.args.at c.args.self.now.boundaries.now c.in-Ok.i
    c.args.self.now.sorted c.in-Ok.ensures.found_within c.in-Ok.ensures.found)

pub returns-in-Ok-clause-least_below : goal.returns-in-Ok-clause-least_below
returns-in-Ok-clause-least_below g c =
    rw c.parts.ensures.left
    (IsLeastBelow-found g.met.T.Ord.total c.args.at c.args.self.now.boundaries.now c.in-Ok.i
    c.args.self.now.sorted c.in-Ok.ensures.found_within c.in-Ok.ensures.found)

pub returns-in-Ok-clause-least_from : goal.returns-in-Ok-clause-least_from
returns-in-Ok-clause-least_from g c =
    rw c.parts.ensures.right
    (IsLeastFrom-found g.met.T.Ord.total c.args.at c.args.self.now.boundaries.now c.in-Ok.i
    c.args.self.now.sorted c.in-Ok.ensures.found_within c.in-Ok.ensures.found)

pub returns-clause-left : goal.returns-clause-left
returns-clause-left g c =
    c.parts-in-Err.ensures.left
    ∙ sym (split_left-missing g.met.T.Ord.total c.args.at c.args.self.now.boundaries.now c.in-Err.i
    c.args.self.now.sorted c.in-Err.ensures.missing_within c.in-Err.ensures.missing_before c.in-Err.ensures.missing_from)

pub returns-clause-right : goal.returns-clause-right
returns-clause-right g c =
    c.parts-in-Err.ensures.right
    ∙ sym (split_right-missing g.met.T.Ord.total c.args.at c.args.self.now.boundaries.now c.in-Err.i
    c.args.self.now.sorted c.in-Err.ensures.missing_within c.in-Err.ensures.missing_before c.in-Err.ensures.missing_from)

pub returns-clause-least_below : goal.returns-clause-least_below
returns-clause-least_below g c =
    rw c.parts-in-Err.ensures.left
    (IsLeastBelow-missing g.met.T.Ord.total c.args.at c.args.self.now.boundaries.now c.in-Err.i
    c.args.self.now.sorted c.in-Err.ensures.missing_within c.in-Err.ensures.missing_before c.in-Err.ensures.missing_from)

pub returns-clause-least_from : goal.returns-clause-least_from
returns-clause-least_from g c =
    rw c.parts-in-Err.ensures.right
    (IsLeastFrom-missing g.met.T.Ord.total c.args.at c.args.self.now.boundaries.now c.in-Err.i
    c.args.self.now.sorted c.in-Err.ensures.missing_within c.in-Err.ensures.missing_before c.in-Err.ensures.missing_from)
