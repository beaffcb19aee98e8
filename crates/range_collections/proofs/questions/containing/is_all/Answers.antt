use Rattle.std.proofs.Common.{◌≡◌, ◌∙◌, ◌∷◌, [], false, sym, ap, length, get_or, arith, true≢false}
use Rattle.range_collections.proofs.Values.{IsTrue-two_are_not_everything, IsTrue-one_is_everything}
use Rattle.range_collections.proofs.questions.containing.is_all.Goals as goal

pub returns-in_default : goal.returns-in_default
returns-in_default g c =
    let entry = g.T.RangeSetEntry in
    let none : g.U.Unread.unread c.args.boundaries ≡ [] = c.in_default.ensures.0 in
    rw none
    (IsTrue-one_is_everything g.met.T.Ord.total entry.is_value entry.least g.met.T.RangeSetEntry.least_is_value
    g.met.T.RangeSetEntry.least_is_least [] false (omega arith) tt (λ t. absurd (true≢false (sym t)), λ b. absurd b))

pub returns-in-Some-take_first : goal.returns-in-Some-take_first
returns-in-Some-take_first g c =
    let entry = g.T.RangeSetEntry in
    let both : g.U.Unread.unread c.args.boundaries ≡ c.in-Some.first.now ∷ c.in-Some-take_first.second.now ∷ g.U.Unread.unread c.take_first-2.new.self =
    c.in-Some.ensures ∙ ap (λ ys. c.in-Some.first.now ∷ ys) c.in-Some-take_first.ensures in
    IsTrue-two_are_not_everything g.met.T.Ord.total entry.is_value entry.least g.met.T.RangeSetEntry.least_is_value
    g.met.T.RangeSetEntry.least_is_least (g.U.Unread.unread c.args.boundaries) c.in-Some-take_first.second.now
    (omega (arith, ap length both)) (λ d. sym (ap (λ ys. get_or ys 1 d) both)) c.requires c.known.ensures

pub returns : goal.returns
returns g c =
    let entry = g.T.RangeSetEntry in
    let one : g.U.Unread.unread c.args.boundaries ≡ c.in-Some.first.now ∷ [] =
    c.in-Some.ensures ∙ ap (λ ys. c.in-Some.first.now ∷ ys) c.in-None.ensures.0 in
    rw one
    (IsTrue-one_is_everything g.met.T.Ord.total entry.is_value entry.least g.met.T.RangeSetEntry.least_is_value
    g.met.T.RangeSetEntry.least_is_least (c.in-Some.first.now ∷ []) c.is_min_value.result (omega arith) c.known-in-None.ensures c.is_min_value.ensures)
