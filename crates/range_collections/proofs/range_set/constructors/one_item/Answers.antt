use Rattle.std.proofs.Common.{arith, refl, rules, sym, true≢false}
use Rattle.std.proofs.lemmas.Result.{IfOk-from_err}
use Rattle.range_collections.proofs.range_set.constructors.one_item.Goals as goal

pub returns-in_err-list : goal.returns-in_err-list
returns-in_err-list g c =
    record {
      items = IfOk-from_err c.from_residual.result _ c.from_residual.ensures.0;
      succeeds = λ room. absurd (true≢false (sym (c.in_err-list.ensures.succeeds room)));
    }

pub push_reserved-requires : goal.push_reserved-requires
push_reserved-requires g c = (search rules, rw (c.in_ok-list.ensures.items, c.in_ok-list.ensures.capacity) (omega arith))

pub returns : goal.returns
returns g c =
    record {
      items = rw c.in_ok-list.ensures.items at c.push_reserved.ensures.items;
      succeeds = λ _. refl;
    }
