use Rattle.std.proofs.Common.{◌≡◌, ◌+◌, ◌∷◌, ◌++◌, [], sym, ap, ap₂, ◌∙◌, append_assoc, take, length, get_or, arith}
use Rattle.range_list.specs.Lists.{joined, place_at}
use Rattle.range_chunks.proofs.Retained.{first_of, get_or-alike, two_from, one_from}
use Rattle.range_chunks.proofs.retaining.move_range.Goals as goal

pub returns-then-is_before-clause-kept : goal.returns-then-is_before-clause-kept
returns-then-is_before-clause-kept g c =
    let items = joined c.args.list.now in
    let n = place_at c.args.list.now c.args.end in
    let i = place_at c.args.list.now c.args.at in
    let once = joined c.move_down-after.new.list in
    let first = c.move_down-after.ensures in
    let second = first.places c.place_after-second.result c.place_after-second.ensures.place in
    let at : place_at c.move_down-after.new.list c.place_after-second.result ≡ i + 1 = second.1 ∙ c.place_after-second.ensures.after in
    let d = first_of items i c.requires.item in
    let more = c.is_before.ensures.some c.if-is_before.true in
    ap (λ m. take m (joined c.move_down.new.list)) c.move_down.ensures.after
    ∙ c.move_down.ensures.kept d
    ∙ ap₂ (λ xs x. xs ++ x ∷ []) (ap (λ m. take m once) first.after ∙ first.kept d)
    (ap (λ m. get_or once m d) at ∙ get_or-alike once items (i + 1) d first.later)
    ∙ append_assoc (take n items) (get_or items i d ∷ []) (get_or items (i + 1) d ∷ [])
    ∙ ap (λ xs. take n items ++ xs) (sym (two_from items i d (omega (arith, more, c.end.ensures.all, c.place_after-second.ensures.after, first.len, second.1))))

pub returns-else-is_before-clause-after : goal.returns-else-is_before-clause-after
returns-else-is_before-clause-after g c =
    let items = joined c.args.list.now in
    let i = place_at c.args.list.now c.args.at in
    let first = c.move_down-after.ensures in
    let second = first.places c.place_after-second.result c.place_after-second.ensures.place in
    let d = first_of items i c.requires.item in
    let last = c.is_before.ensures.none c.if-is_before.false in
    first.after ∙ ap (λ (xs : _). place_at c.args.list.now c.args.end + length xs)
    (sym (one_from items i d c.requires.item (omega (arith, last, c.end.ensures.all, c.place_after-second.ensures.after, first.len, second.1))))

pub returns-else-is_before-clause-kept : goal.returns-else-is_before-clause-kept
returns-else-is_before-clause-kept g c =
    let items = joined c.args.list.now in
    let n = place_at c.args.list.now c.args.end in
    let i = place_at c.args.list.now c.args.at in
    let first = c.move_down-after.ensures in
    let second = first.places c.place_after-second.result c.place_after-second.ensures.place in
    let d = first_of items i c.requires.item in
    let last = c.is_before.ensures.none c.if-is_before.false in
    ap (λ m. take m (joined c.move_down-after.new.list)) first.after ∙ first.kept d
    ∙ ap (λ xs. take n items ++ xs)
    (sym (one_from items i d c.requires.item (omega (arith, last, c.end.ensures.all, c.place_after-second.ensures.after, first.len, second.1))))
