use Rattle.std.proofs.Common.{◌≡◌, ◌+◌, ◌≤◌, refl, sym, ◌∙◌, false, length, take, arith, rules}
use Rattle.std.proofs.lemmas.List.{length-take-le, take-append-le}
use Rattle.range_merge.specs.Changes.{changes}
use Rattle.range_c.specs.Answers.{AnswersList, connective_of}
use Rattle.range_c.proofs.Meant.{length-meant, moved-to_end}
use Rattle.range_c.proofs.combining.combine_within.Goals as goal

pub returns-then-needed-buffer : goal.returns-then-needed-buffer
returns-then-needed-buffer g c =
    let xs = c.args.buffer.now in
    let a = take c.args.len xs in
    let f = connective_of c.args.connective in
    let off : f false false ≡ false = search rules in
    let r : c.room_for_both-needed.result ≡ length a + length (changes g.T.Ord.cmp f a c.args.other.now) = rw c.split_at.ensures.front at c.room_for_both-needed.ensures.counted c.if-needed-buffer.true in
    let n : length a ≡ c.args.len = length-take-le c.args.len xs c.requires.within in
    record {
      means = λ fits. absurd (omega (arith, fits, c.if-needed-buffer.true));
      unchanged = λ _. refl;
      counted = λ items m fits. absurd (omega (arith, fits, n, r, length-meant g.met.T.Ord.total f a c.args.other.now items off c.requires.sorted m, c.if-needed-buffer.true));
      needed = λ items m short. omega (arith, n, r, length-meant g.met.T.Ord.total f a c.args.other.now items off c.requires.sorted m);
    }

pub combine-requires-clause-sorted : goal.combine-requires-clause-sorted
combine-requires-clause-sorted g c =
    let set : c.split_at_mut-out.result.1.now ≡ take c.args.len c.args.buffer.now =
    c.split_at_mut-out.ensures.back
    ∙ moved-to_end c.args.buffer.now c.copy_within.new.self c.args.len _ (omega (arith, c.requires.within)) c.copy_within.ensures.after in
    rw set c.requires.sorted

pub returns : goal.returns
returns g c =
    let xs = c.args.buffer.now in
    let a = take c.args.len xs in
    let b = c.args.other.now in
    let f = connective_of c.args.connective in
    let off : f false false ≡ false = search rules in
    let set : c.split_at_mut-out.result.1.now ≡ a =
    c.split_at_mut-out.ensures.back
    ∙ moved-to_end xs c.copy_within.new.self c.args.len _ (omega (arith, c.requires.within)) c.copy_within.ensures.after in
    let first : length a + length (changes g.T.Ord.cmp f a b) ≤ c.room_for_both-needed.result = rw c.split_at.ensures.front at c.room_for_both-needed.ensures.enough in
    let told : AnswersList g.T.Ord.cmp f a b c.split_at_mut-out.result.0.now c.combine.new.out c.combine.result = rw set at c.combine.ensures in
    let n : length a ≡ c.args.len = length-take-le c.args.len xs c.requires.within in
    let room : c.combine.result + c.args.len ≤ length xs = omega (arith, n, first, told.counted, c.if-needed-buffer.false) in
    let fits : c.combine.result ≤ length c.split_at_mut-out.result.0.now = search (rules, room) in
    let same : length c.combine.new.out ≡ length c.split_at_mut-out.result.0.now = search rules in
    record {
      means = λ _. rw (take-append-le c.combine.result c.combine.new.out c.split_at_mut-out.result.1.now (omega (arith, fits, same))) (told.means fits);
      unchanged = λ short. absurd (omega (arith, short, room));
      counted = λ items m _. told.counted ∙ sym (length-meant g.met.T.Ord.total f a b items off c.requires.sorted m);
      needed = λ items m short. absurd (omega (arith, short, n, room, told.counted, length-meant g.met.T.Ord.total f a b items off c.requires.sorted m));
    }
