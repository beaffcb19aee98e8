use Rattle.std.proofs.Common.{sym, ap, ◌∙◌}
use Rattle.range_collections.specs.Members.{members_of}
use Rattle.range_collections.proofs.MembersOf.{members_of-nil}
use Rattle.range_collections.proofs.members.Members.new.Goals as goal

pub returns-in-None : goal.returns-in-None
returns-in-None g c =
    members_of-nil g.T.Ord.cmp g.T.Countable.value 0 1
    ∙ sym (members_of-nil g.T.Ord.cmp g.T.Countable.value 0 g.T.Countable.count)
    ∙ ap (λ items. members_of g.T.Ord.cmp g.T.Countable.value items 0 g.T.Countable.count) (sym c.in-None.ensures.none)
