use Rattle.std.proofs.Common.{◌∙◌, ℕ, ap, length, arith}
use Rattle.std.proofs.lemmas.List.{length-set}
use Rattle.range_list.specs.Lists.{joined, place_at}
use Rattle.range_chunked_tracker.proofs.SetWithin.{two-kept}
use Rattle.range_chunked_tracker.proofs.tracking.keep_range.Goals as goal

pub set_key-requires-2-clause-item : goal.set_key-requires-2-clause-item
set_key-requires-2-clause-item c =
    let kept = c.set_key.ensures.places c.place_after-second.result c.place_after-second.ensures.place in
    omega (arith, kept.1, c.place_after-second.ensures.after, ap length (c.set_key.ensures.items 0), length-set {A = ℕ}, c.requires.room)

pub place_after-requires-clause-item : goal.place_after-requires-clause-item
place_after-requires-clause-item c =
    let kept = c.set_key.ensures.places c.place_after-second.result c.place_after-second.ensures.place in
    let again = c.set_key-2.ensures.places c.place_after-second.result kept.0 in
    omega (
      arith,
      kept.1,
      again.1,
      c.place_after-second.ensures.after,
      ap length (c.set_key.ensures.items 0),
      ap length (c.set_key-2.ensures.items 0),
      length-set {A = ℕ},
      c.requires.room,
    )

pub returns : goal.returns
returns c =
    let kept = c.set_key.ensures.places c.place_after-second.result c.place_after-second.ensures.place in
    let again = c.set_key-2.ensures.places c.place_after-second.result kept.0 in
    record {
      items = c.truncate.ensures
          ∙ two-kept (joined c.args.list.now) (joined c.set_key.new.self) (joined c.set_key-2.new.self) _ _ (place_at c.set_key-2.new.self c.place_after.result) c.args.range.start c.args.range.end c.requires.room
          (omega arith) (omega (arith, kept.1, c.place_after-second.ensures.after)) (omega (arith, kept.1, again.1, c.place_after-second.ensures.after, c.place_after.ensures.after))
          (c.set_key.ensures.items 0) (c.set_key-2.ensures.items 0);
    }
