use Rattle.std.proofs.Common.{◌≡◌, ap, ◌∙◌, length, arith, rules}
use Rattle.std.specs.List.{remove_range}
use Rattle.range_merge.proofs.Moves.{refill_all}
use Rattle.range_collections.specs.Splicing.{spliced}
use Rattle.range_collections.proofs.Splices.{remove_range-spliced, length-spliced_same}
use Rattle.range_collections.proofs.changes.small_vec.replace_between.Goals as goal

pub returns : goal.returns
returns g c =
    let items = c.args.list.now.items in
    let after = c.replace_both-after.result.0 in
    let new = c.replace_both-after.new.items in
    let put : new ≡ spliced items c.args.from after c.args.start c.args.end = rw c.as_mut_slice.ensures.value at c.replace_both-after.ensures.items in
    let few = c.replace_both-after.ensures.after in
    let same : length new ≡ length items =
    ap length put ∙ length-spliced_same items c.args.from after c.args.start c.args.end (omega (arith, c.requires.room, c.requires.within)) few (omega (arith, few, c.requires.room, c.requires.within)) in
    let done : c.drop-drain.new.self.0.items ≡ spliced items c.args.from c.args.to c.args.start c.args.end =
    c.drop-drain.ensures.items (search rules)
    ∙ c.drain.ensures.kept
    ∙ ap (λ ys. remove_range ys after c.args.to) (refill_all items new same ∙ put)
    ∙ remove_range-spliced items c.args.from c.args.to after c.args.start c.args.end (omega (arith, c.requires.room, c.requires.within)) few (omega (arith, few, c.requires.room)) in
    search (rules, done)
