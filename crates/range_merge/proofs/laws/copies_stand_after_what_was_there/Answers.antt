use Rattle.std.proofs.Common.{◌≡◌, ◌∙◌, ap, ◌+◌, length, take, arith}
use Rattle.std.proofs.lemmas.List.{length-append, length-map, length-take-le}
use Rattle.range_merge.specs.Changes.{taken_item, taken_items}
use Rattle.range_merge.proofs.CopiesLemmas.{IsAppended-kept}
use Rattle.range_merge.proofs.laws.copies_stand_after_what_was_there.Goals as goal

pub returns : goal.returns
returns g c = record {
  after = IsAppended-kept g.P.Copier.alike;
  kept = λ at_first ts items h.
      let front : length (taken_items (take at_first ts)) ≡ at_first = length-map (take at_first ts) taken_item ∙ length-take-le at_first ts h.within in
      let all : length items ≡ length (taken_items (take at_first ts)) + length h.copies = ap length h.appended ∙ length-append (taken_items (take at_first ts)) h.copies in
      omega (arith, front, all);
}
