use Rattle.std.proofs.Common.{◌≡◌, ◌∙◌, sym, arith}
use Rattle.std.proofs.lemmas.Bool.{false≢true}
use Rattle.std.proofs.lemmas.List.{take_rest}
use Rattle.std.specs.declared.cmp.Ordering.TheVariants.{Less}
use Rattle.range_merge.proofs.Pairs.{AllPairs-drop}
use Rattle.range_collections.proofs.Blocks.{IsAscending-joined}
use Rattle.range_collections.proofs.Cut.{IsAscending-take}
use Rattle.range_collections.proofs.lists.is_ascending.Goals as goal

pub returns-then-not-block_ascends : goal.returns-then-not-block_ascends
returns-then-not-block_ascends g c = (
  λ t. absurd (false≢true t),
  λ up. absurd (false≢true (sym c.if-not-block_ascends.true ∙ c.block_ascends.ensures.1 (IsAscending-take g.T.Ord.cmp 17 c.loop-rest.rest.now (c.loop-rest.invariant.1 up)))),
)

pub loop-rest-preserved : goal.loop-rest-preserved
loop-rest-preserved g c =
    rw (take_rest c.loop-rest.rest.now 16) (
      λ up. c.loop-rest.invariant.0 (IsAscending-joined g.T.Ord.cmp g.met.T.Ord.total c.loop-rest.rest.now 16 (omega arith) (c.block_ascends.ensures.0 c.if-not-block_ascends.false) up),
      λ up. AllPairs-drop (λ x y. g.T.Ord.cmp x y ≡ Less) 16 c.loop-rest.rest.now (c.loop-rest.invariant.1 up),
    )
